use Rattle.std.proofs.Common.{◌≡◌, ◌≤◌, length}
use Rattle.gd_dump_reading.specs.Readers.{taken_by}
use Rattle.gd_dump_reading.proofs.tests.pieces.after_front.Given as goal

abbrev pub invariant-pieces : goal.invariant-pieces
invariant-pieces g l = record {
  within : l.at ≤ length l.front;
  taken : taken_by g.M.Machine.taken l.reader ≡ l.at;
}
