use Rattle.std.proofs.Common.{◌≡◌, ℕ, ◌+◌, ◌*◌, ◌<◌, ◌≤◌, true, get_or, take, drop}
use Rattle.gd_format.specs.declared.Slot.TheVariants.{Empty}
use Rattle.gd_format.specs.Bucket.{slots_at, are_slots_right}
use Rattle.gd_layout.proofs.writing.put_slots.Given as goal

abbrev pub invariant-loop-s : goal.invariant-loop-s
invariant-loop-s l = record {
  reads : slots_at l.block l.s ≡ take l.s l.slots;
  right : are_slots_right l.block l.s ≡ true;
  front : take 112 l.block ≡ take 112 l.initial.block;
  back : drop (112 + 24 * l.s) l.block ≡ drop (112 + 24 * l.s) l.initial.block;
  empty : (s i : ℕ) → s < l.s → get_or l.slots s Empty ≡ Empty → 4 ≤ i → i < 24 → get_or l.block (112 + 24 * s + i) 0 ≡ get_or l.initial.block (112 + 24 * s + i) 0;
}
