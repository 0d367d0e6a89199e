use Rattle.std.proofs.Common.{◌≡◌, drop}
use Rattle.gd_dump_reading.specs.Lines.{contains}
use Rattle.gd_dump_reading.proofs.lines.contains_part.Given as goal

abbrev pub invariant-loop-at : goal.invariant-loop-at
invariant-loop-at l = contains l.part l.line ≡ contains l.part (drop l.at l.line)
