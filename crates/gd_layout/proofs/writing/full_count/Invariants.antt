use Rattle.std.proofs.Common.{◌≡◌, ◌≤◌, take}
use Rattle.gd_format.specs.Slots.{count, is_full}
use Rattle.gd_layout.proofs.writing.full_count.Given as goal

abbrev pub invariant-loop-slot : goal.invariant-loop-slot
invariant-loop-slot l = record {
  is : l.full ≡ count is_full (take l.slot-index l.slots);
  most : l.full ≤ l.slot-index;
}
