use Rattle.std.proofs.Common.{◌≡◌, ◌≤◌, take}
use Rattle.gd_format.specs.Slots.{count}
use Rattle.gd_map_laws.specs.Overflow.{is_close}
use Rattle.gd_update.proofs.growing_tests.close_count.Given as goal

abbrev pub invariant-loop-slot : goal.invariant-loop-slot
invariant-loop-slot l = record {
  is : l.close ≡ count (is_close l.hash) (take l.slot-index l.slots);
  most : l.close ≤ l.slot-index;
}
