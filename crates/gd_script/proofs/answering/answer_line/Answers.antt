use Rattle.gd_script.proofs.Lining.{refused_line}
use Rattle.gd_script.proofs.answering.answer_line.Goals as goal

pub returns-in-Err-clause-ends : goal.returns-in-Err-clause-ends
returns-in-Err-clause-ends g c = refused_line g.T.Interpreter.rules _ c.in-Err.error _ c.refused.result c.in-Err.ensures.answers c.refused.ensures
