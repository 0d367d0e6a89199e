use Rattle.gd_script.proofs.Lining.{empty_line, stepped_line}
use Rattle.gd_script.proofs.answering.answer_command.Goals as goal

pub returns-in-Nothing-clause-steps : goal.returns-in-Nothing-clause-steps
returns-in-Nothing-clause-steps g c = empty_line g.T.Interpreter.rules c.args.command.now _ c.in-Nothing.is

pub returns : goal.returns
returns g c =
    let s = c.answer-reply in record {
      ready = s.ensures.ready;
      steps = stepped_line g.T.Interpreter.rules c.args.command.now s.result.0 s.result.1 _ _ c.in_default.not-Nothing s.ensures.steps;
      clock = s.ensures.clock;
      quits = c.is_quit.ensures;
      kept = s.ensures.kept;
    }
