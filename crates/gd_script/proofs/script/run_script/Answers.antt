use Rattle.std.proofs.Common.{◌≡◌, ◌∙◌, List, is_ok, refl, sym, ap, subst}
use Rattle.gd_script.specs.Answers.{scene}
use Rattle.gd_script.specs.Run.{Ended}
use Rattle.gd_script.specs.Script.{last_lines, status_of}
use Rattle.gd_script.specs.Turns.{objects}
use Rattle.gd_script.specs.declared.turns.Turn.{Turn}
use Rattle.gd_script.proofs.Closing.{says_by}
use Rattle.gd_script.proofs.script.run_script.Goals as goal

pub returns-clause-scripted : goal.returns-clause-scripted
returns-clause-scripted g c =
    let ending = c.answer_lines-ending.result in
    let closing = c.finish-closing.result in
    let turns : c.from.result ≡ c.answer_lines-ending.new.turns.items = c.from.ensures in record {
      ending = ending;
      closing = closing;
      said = is_ok c.say_last-said.result;
      behind = (objects (scene c.answer_lines-ending.new.session (g.V.Vault.view_of c.answer_lines-ending.new.vault) (g.O.Sink.written c.answer_lines-ending.new.out) (g.O.Sink.fault_count c.answer_lines-ending.new.out) (g.C.Clock.told c.answer_lines-ending.new.clock) (g.C.Clock.fault_count c.answer_lines-ending.new.clock)) (g.S.Source.left c.answer_lines-ending.new.input) (g.S.Source.fault_count c.answer_lines-ending.new.input) (g.E.Sink.written c.answer_lines-ending.new.err) (g.E.Sink.fault_count c.answer_lines-ending.new.err));
      ended = subst (λ (ts : List Turn). Ended g.T.Interpreter.rules ending ts (objects (scene c.args.session.now (g.V.Vault.view_of c.args.vault.now) (g.O.Sink.written c.args.out.now) (g.O.Sink.fault_count c.args.out.now) (g.C.Clock.told c.args.clock.now) (g.C.Clock.fault_count c.args.clock.now)) (g.S.Source.left c.args.input.now) (g.S.Source.fault_count c.args.input.now) (g.E.Sink.written c.args.err.now) (g.E.Sink.fault_count c.args.err.now)) (objects (scene c.answer_lines-ending.new.session (g.V.Vault.view_of c.answer_lines-ending.new.vault) (g.O.Sink.written c.answer_lines-ending.new.out) (g.O.Sink.fault_count c.answer_lines-ending.new.out) (g.C.Clock.told c.answer_lines-ending.new.clock) (g.C.Clock.fault_count c.answer_lines-ending.new.clock)) (g.S.Source.left c.answer_lines-ending.new.input) (g.S.Source.fault_count c.answer_lines-ending.new.input) (g.E.Sink.written c.answer_lines-ending.new.err) (g.E.Sink.fault_count c.answer_lines-ending.new.err))) (sym turns) c.answer_lines-ending.ensures.ended;
      closed = c.finish-closing.ensures.closes;
      written = refl;
      out_faults = refl;
      told = refl;
      clock_faults = refl;
      left = refl;
      input_faults = refl;
      says = says_by c.say_last-said.result (g.E.Sink.written c.answer_lines-ending.new.err) (g.E.Sink.written c.say_last-said.new.err) (g.E.Sink.fault_count c.answer_lines-ending.new.err) (g.E.Sink.fault_count c.say_last-said.new.err) (last_lines ending closing) c.say_last-said.ensures.bytes c.say_last-said.ensures.cause;
      err_later = c.say_last-said.ensures.cause.later;
      status_is = c.status_of-status.ensures ∙ ap (λ (ts : List Turn). status_of ending closing ts (is_ok c.say_last-said.result)) (c.deref.ensures.value ∙ sym turns);
    }
