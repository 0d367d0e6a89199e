use Rattle.std.proofs.Common.{refl, ◌∙◌}
use Rattle.gd_script.specs.Answers.{scene}
use Rattle.gd_script.specs.Reading.{reading}
use Rattle.gd_script.specs.Turns.{objects}
use Rattle.gd_script.proofs.Running.{ends_next, measure_next, new_reading, standing_none, stands_next}
use Rattle.gd_script.proofs.lines.answer_lines.Goals as goal

pub lines-init : goal.lines-init
lines-init g c =
    let n = new_reading c.new-lines.result c.new-lines.ensures.place c.new-lines.ensures.piece c.new-lines.ensures.taken in (
      n.0,
      standing_none g.T.Interpreter.rules g.T.Interpreter.ready (reading c.new-lines.result (g.S.Source.left c.args.input.now) (g.S.Source.fault_count c.args.input.now)) c.args.turns.now.items
          (objects (scene c.args.session.now (g.V.Vault.view_of c.args.vault.now) (g.O.Sink.written c.args.out.now) (g.O.Sink.fault_count c.args.out.now) (g.C.Clock.told c.args.clock.now) (g.C.Clock.fault_count c.args.clock.now)) (g.S.Source.left c.args.input.now) (g.S.Source.fault_count c.args.input.now) (g.E.Sink.written c.args.err.now) (g.E.Sink.fault_count c.args.err.now))
          c.requires.ready c.requires.none n.1 c.new-lines.ensures.taken,
      g.met.O.Sink.kept_self c.args.out.now,
      g.met.E.Sink.kept_self c.args.err.now,
      λ none. refl,
    )

pub returns-in-Some-clause-ended : goal.returns-in-Some-clause-ended
returns-in-Some-clause-ended g c =
    ends_next g.T.Interpreter.rules g.T.Interpreter.ready c.in-Some.ending c.lines.turns.items c.answer_next.new.turns.items c.lines.lines c.answer_next.new.lines
    (objects (scene c.args.session.now (g.V.Vault.view_of c.args.vault.now) (g.O.Sink.written c.args.out.now) (g.O.Sink.fault_count c.args.out.now) (g.C.Clock.told c.args.clock.now) (g.C.Clock.fault_count c.args.clock.now)) (g.S.Source.left c.args.input.now) (g.S.Source.fault_count c.args.input.now) (g.E.Sink.written c.args.err.now) (g.E.Sink.fault_count c.args.err.now))
    (objects (scene c.lines.session (g.V.Vault.view_of c.lines.vault) (g.O.Sink.written c.lines.out) (g.O.Sink.fault_count c.lines.out) (g.C.Clock.told c.lines.clock) (g.C.Clock.fault_count c.lines.clock)) (g.S.Source.left c.lines.input) (g.S.Source.fault_count c.lines.input) (g.E.Sink.written c.lines.err) (g.E.Sink.fault_count c.lines.err))
    (objects (scene c.answer_next.new.session (g.V.Vault.view_of c.answer_next.new.vault) (g.O.Sink.written c.answer_next.new.out) (g.O.Sink.fault_count c.answer_next.new.out) (g.C.Clock.told c.answer_next.new.clock) (g.C.Clock.fault_count c.answer_next.new.clock)) (g.S.Source.left c.answer_next.new.input) (g.S.Source.fault_count c.answer_next.new.input) (g.E.Sink.written c.answer_next.new.err) (g.E.Sink.fault_count c.answer_next.new.err))
    c.lines.invariant.1 c.in-Some.ensures.nexts

pub returns-in-Some-clause-clock : goal.returns-in-Some-clause-clock
returns-in-Some-clause-clock g c = λ none. c.answer_next.ensures.clock none ∙ c.lines.invariant.4 none

pub lines-smaller : goal.lines-smaller
lines-smaller g c =
    measure_next g.T.Interpreter.rules c.lines.turns.items c.answer_next.new.turns.items c.lines.lines c.answer_next.new.lines
    (objects (scene c.lines.session (g.V.Vault.view_of c.lines.vault) (g.O.Sink.written c.lines.out) (g.O.Sink.fault_count c.lines.out) (g.C.Clock.told c.lines.clock) (g.C.Clock.fault_count c.lines.clock)) (g.S.Source.left c.lines.input) (g.S.Source.fault_count c.lines.input) (g.E.Sink.written c.lines.err) (g.E.Sink.fault_count c.lines.err))
    (objects (scene c.answer_next.new.session (g.V.Vault.view_of c.answer_next.new.vault) (g.O.Sink.written c.answer_next.new.out) (g.O.Sink.fault_count c.answer_next.new.out) (g.C.Clock.told c.answer_next.new.clock) (g.C.Clock.fault_count c.answer_next.new.clock)) (g.S.Source.left c.answer_next.new.input) (g.S.Source.fault_count c.answer_next.new.input) (g.E.Sink.written c.answer_next.new.err) (g.E.Sink.fault_count c.answer_next.new.err))
    c.in-None.ensures.nexts c.answer_next.ensures.within.taken

pub lines-preserved : goal.lines-preserved
lines-preserved g c = (
  c.answer_next.ensures.within,
  stands_next g.T.Interpreter.rules g.T.Interpreter.ready c.lines.turns.items c.answer_next.new.turns.items c.lines.lines c.answer_next.new.lines
      (objects (scene c.args.session.now (g.V.Vault.view_of c.args.vault.now) (g.O.Sink.written c.args.out.now) (g.O.Sink.fault_count c.args.out.now) (g.C.Clock.told c.args.clock.now) (g.C.Clock.fault_count c.args.clock.now)) (g.S.Source.left c.args.input.now) (g.S.Source.fault_count c.args.input.now) (g.E.Sink.written c.args.err.now) (g.E.Sink.fault_count c.args.err.now))
      (objects (scene c.lines.session (g.V.Vault.view_of c.lines.vault) (g.O.Sink.written c.lines.out) (g.O.Sink.fault_count c.lines.out) (g.C.Clock.told c.lines.clock) (g.C.Clock.fault_count c.lines.clock)) (g.S.Source.left c.lines.input) (g.S.Source.fault_count c.lines.input) (g.E.Sink.written c.lines.err) (g.E.Sink.fault_count c.lines.err))
      (objects (scene c.answer_next.new.session (g.V.Vault.view_of c.answer_next.new.vault) (g.O.Sink.written c.answer_next.new.out) (g.O.Sink.fault_count c.answer_next.new.out) (g.C.Clock.told c.answer_next.new.clock) (g.C.Clock.fault_count c.answer_next.new.clock)) (g.S.Source.left c.answer_next.new.input) (g.S.Source.fault_count c.answer_next.new.input) (g.E.Sink.written c.answer_next.new.err) (g.E.Sink.fault_count c.answer_next.new.err))
      c.lines.invariant.1 c.in-None.ensures.nexts c.answer_next.ensures.ready,
  g.met.O.Sink.kept_on c.args.out.now c.lines.out c.answer_next.new.out c.lines.invariant.2 c.answer_next.ensures.kept_out,
  g.met.E.Sink.kept_on c.args.err.now c.lines.err c.answer_next.new.err c.lines.invariant.3 c.answer_next.ensures.kept_err,
  λ none. c.answer_next.ensures.clock none ∙ c.lines.invariant.4 none,
)
