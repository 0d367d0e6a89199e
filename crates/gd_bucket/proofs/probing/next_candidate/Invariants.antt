use Rattle.std.proofs.Common.{◌≡◌, ℕ, ◌<◌, ◌≤◌, true, false}
use Rattle.gd_format.specs.Slots.{is_full}
use Rattle.gd_bucket.specs.Probing.{slot_after, is_candidate}
use Rattle.gd_bucket.proofs.probing.next_candidate.Given as goal

abbrev pub invariant-loop-d : goal.invariant-loop-d
invariant-loop-d l = record {
  full : (e : ℕ) → l.from ≤ e → e < l.d → is_full (slot_after l.slots l.hash e) ≡ true;
  none : (e : ℕ) → l.from ≤ e → e < l.d → is_candidate l.hash l.key (slot_after l.slots l.hash e) ≡ false;
}
