use Rattle.std.proofs.Common.{◌-◌, ◌^◌}
use Rattle.gd_script.specs.Reading.{Began, IsWithin, reading}
use Rattle.gd_script.proofs.reader.Lines.next.Given as goal

abbrev pub invariant-pieces : goal.invariant-pieces
invariant-pieces g l = IsWithin l.self × Began l.line.items (reading l.fn.self (g.S.Source.left l.fn.input) (g.S.Source.fault_count l.fn.input)) (reading l.self (g.S.Source.left l.input) (g.S.Source.fault_count l.input))

abbrev pub decreases-pieces : goal.decreases-pieces
decreases-pieces g l = 2 ^ 32 - l.self.taken
