use Rattle.std.proofs.Common.{◌≡◌, ℕ, ◌-◌, ◌<◌, true, length}
use Rattle.gd_format.specs.Slots.{is_full}
use Rattle.gd_bucket.specs.Probing.{slot_after}
use Rattle.gd_bucket.proofs.probing.first_empty.Given as goal

abbrev pub invariant-loop-d : goal.invariant-loop-d
invariant-loop-d l = record {
  in_round : l.d < length l.slots;
  full : (e : ℕ) → e < l.d → is_full (slot_after l.slots l.hash e) ≡ true;
}

abbrev pub decreases-loop-d : goal.decreases-loop-d
decreases-loop-d l = length l.slots - l.d
