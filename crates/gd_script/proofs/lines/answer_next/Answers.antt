use Rattle.gd_script.specs.Answers.{scene}
use Rattle.gd_script.specs.Turns.{objects}
use Rattle.gd_script.proofs.Running.{nexts_starved}
use Rattle.gd_script.proofs.lines.answer_next.Goals as goal

pub returns-then-is_err-clause-nexts : goal.returns-then-is_err-clause-nexts
returns-then-is_err-clause-nexts g c =
    nexts_starved g.T.Interpreter.rules c.args.turns.now.items c.reserve.new.self.items c.args.lines.now
    (objects (scene c.args.session.now (g.V.Vault.view_of c.args.vault.now) (g.O.Sink.written c.args.out.now) (g.O.Sink.fault_count c.args.out.now) (g.C.Clock.told c.args.clock.now) (g.C.Clock.fault_count c.args.clock.now)) (g.S.Source.left c.args.input.now) (g.S.Source.fault_count c.args.input.now) (g.E.Sink.written c.args.err.now) (g.E.Sink.fault_count c.args.err.now)) c.reserve.ensures.items
