use Rattle.std.proofs.Common.{◌≡◌, ℕ, ◌-◌, ◌<◌, ◌≤◌, true}
use Rattle.gd_format.specs.File.{is_full_at}
use Rattle.gd_readable.proofs.slots.full_at_end.Given as goal

abbrev pub invariant-slots : goal.invariant-slots
invariant-slots l = record {
  few : l.n ≤ l.elems;
  full : (k : ℕ) → k < l.n → is_full_at l.block (l.elems - 1 - k) ≡ true;
}

abbrev pub decreases-slots : goal.decreases-slots
decreases-slots l = l.elems - l.n
