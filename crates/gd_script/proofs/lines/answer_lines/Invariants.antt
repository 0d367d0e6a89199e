use Rattle.std.proofs.Common.{◌≡◌, ◌+◌, ◌-◌, ◌^◌, length, drop}
use Rattle.gd_script.specs.Answers.{scene}
use Rattle.gd_script.specs.Reading.{IsWithin, reading}
use Rattle.gd_script.specs.Run.{Standing}
use Rattle.gd_script.specs.Turns.{objects}
use Rattle.gd_script.proofs.lines.answer_lines.Given as goal

abbrev pub invariant-lines : goal.invariant-lines
invariant-lines g l = IsWithin l.lines
    × Standing g.T.Interpreter.rules g.T.Interpreter.ready (reading l.lines (g.S.Source.left l.input) (g.S.Source.fault_count l.input)) l.turns.items
    (objects (scene l.fn.session (g.V.Vault.view_of l.fn.vault) (g.O.Sink.written l.fn.out) (g.O.Sink.fault_count l.fn.out) (g.C.Clock.told l.fn.clock) (g.C.Clock.fault_count l.fn.clock)) (g.S.Source.left l.fn.input) (g.S.Source.fault_count l.fn.input) (g.E.Sink.written l.fn.err) (g.E.Sink.fault_count l.fn.err))
    (objects (scene l.session (g.V.Vault.view_of l.vault) (g.O.Sink.written l.out) (g.O.Sink.fault_count l.out) (g.C.Clock.told l.clock) (g.C.Clock.fault_count l.clock)) (g.S.Source.left l.input) (g.S.Source.fault_count l.input) (g.E.Sink.written l.err) (g.E.Sink.fault_count l.err))
    × g.O.Sink.kept l.fn.out l.out × g.E.Sink.kept l.fn.err l.err
    × (g.T.Interpreter.rules.clockless → l.clock ≡ l.fn.clock)

abbrev pub decreases-lines : goal.decreases-lines
decreases-lines g l = (2 ^ 32 - l.lines.taken) + length (drop l.lines.at l.lines.piece.items)
