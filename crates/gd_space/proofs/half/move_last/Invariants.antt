use Rattle.std.proofs.Common.{◌≡◌, ◌+◌, ℕ, length}
use Rattle.std.specs.List.{AllByRecursion}
use Rattle.gd_format.specs.FreeSide.{IsBelow}
use Rattle.gd_layout.specs.Fits.{FitsExtent}
use Rattle.gd_space.specs.Lists.{Split}
use Rattle.gd_space.proofs.half.move_last.Given as goal

abbrev pub invariant-loop-i : goal.invariant-loop-i
invariant-loop-i l = record {
  split : (n : ℕ) → AllByRecursion (IsBelow n) l.fn.table.extents → Split n l.fn.table.extents l.table.extents l.spare.extents;
  fields : AllByRecursion FitsExtent l.fn.table.extents → AllByRecursion FitsExtent l.table.extents;
  spare_fields : AllByRecursion FitsExtent l.fn.table.extents → AllByRecursion FitsExtent l.spare.extents;
  whole : length l.table.extents + l._i ≡ length l.fn.table.extents;
  count : length l.spare.extents ≡ l._i;
  table_room : l.table.room ≡ l.fn.table.room;
  spare_room : l.spare.room ≡ l.fn.spare.room;
  table_next : l.table.next_block ≡ l.fn.table.next_block;
  spare_next : l.spare.next_block ≡ l.fn.spare.next_block;
}
