use Rattle.std.proofs.Common.{ap}
use Rattle.gd_script.proofs.Stepping.{session_steps}
use Rattle.gd_script.proofs.sessions.SessionInterpreter.answer.Goals as goal

pub returns-clause-steps : goal.returns-clause-steps
returns-clause-steps g c =
    session_steps c.args.command.now c.step.result c.args.self.now c.step.new.self
    (g.V.Vault.view_of c.args.vault.now) (g.V.Vault.view_of c.step.new.vault) (g.O.Sink.written c.args.out.now) (g.O.Sink.written c.step.new.out) (g.O.Sink.fault_count c.args.out.now) (g.O.Sink.fault_count c.step.new.out)
    (g.C.Clock.told c.args.clock.now) (g.C.Clock.told c.step.new.clock) (g.C.Clock.fault_count c.args.clock.now) (g.C.Clock.fault_count c.step.new.clock)
    c.step.ensures.grows c.step.ensures.later (ap g.C.Clock.told c.step.ensures.clock) (ap g.C.Clock.fault_count c.step.ensures.clock) c.step.ensures.answer c.step.ensures.cause c.step.ensures.closes
