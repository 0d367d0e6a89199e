use Rattle.std.proofs.Common.{◌≡◌, ◌∙◌, length, refl, rules, vec_len}
use Rattle.gd_lang.specs.Commands.{command_of_line}
use Rattle.gd_script.specs.Answers.{scene}
use Rattle.gd_script.specs.Turns.{objects}
use Rattle.gd_script.proofs.Turning.{turn_happens}
use Rattle.gd_script.proofs.lines.answer_turn.Goals as goal

pub returns-clause-ends : goal.returns-clause-ends
returns-clause-ends g c =
    let len : vec_len c.args.turns.now ≡ length c.args.turns.now.items = search rules in
    turn_happens g.T.Interpreter.rules (command_of_line c.args.line.now) c.end_of.result c.in-Ok.found c.moment.result c.faults-faults.result c.args.turns.now.items c.push.new.self.items c.say_answer-said.result
    (objects (scene c.args.session.now (g.V.Vault.view_of c.args.vault.now) (g.O.Sink.written c.args.out.now) (g.O.Sink.fault_count c.args.out.now) (g.C.Clock.told c.args.clock.now) (g.C.Clock.fault_count c.args.clock.now)) (g.S.Source.left c.args.input.now) (g.S.Source.fault_count c.args.input.now) (g.E.Sink.written c.args.err.now) (g.E.Sink.fault_count c.args.err.now))
    (objects (scene c.answer_line.new.session (g.V.Vault.view_of c.answer_line.new.vault) (g.O.Sink.written c.answer_line.new.out) (g.O.Sink.fault_count c.answer_line.new.out) (g.C.Clock.told c.answer_line.new.clock) (g.C.Clock.fault_count c.answer_line.new.clock)) (g.S.Source.left c.args.input.now) (g.S.Source.fault_count c.args.input.now) (g.E.Sink.written c.say_answer-said.new.err) (g.E.Sink.fault_count c.say_answer-said.new.err))
    c.faults-counted.result c.len.result c.end_of.ensures c.faults-counted.ensures c.in-Ok.ensures.ends c.in-Ok-push.ensures.items c.faults-faults.ensures c.moment.ensures.moment refl refl (c.len.ensures ∙ len) c.say_answer-said.ensures.bytes c.say_answer-said.ensures.cause
