use Rattle.std.proofs.Common.{◌≡◌, None}
use Rattle.gd_format.specs.First.{first_below}
use Rattle.gd_format.specs.File.{reach_fault}
use Rattle.gd_readable.specs.Checks.{IsFullBefore}
use Rattle.gd_readable.proofs.slots.unreached.Given as goal

abbrev pub invariant-loop-s : goal.invariant-loop-s
invariant-loop-s l = record {
  none : first_below l.s (reach_fault l.block l.elems l.at) ≡ None;
  before : IsFullBefore l.block l.elems l.s l.before;
}
