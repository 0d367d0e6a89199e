use Rattle.std.proofs.Common.{[], ◌∷◌}
use Rattle.gd_script.specs.Says.{answer_text}
use Rattle.gd_base.proofs.Waits.{pends-after, pends-front}
use Rattle.gd_script.proofs.says.put_rest.Goals as goal

pub returns-in_err-put_answer-clause-bytes : goal.returns-in_err-put_answer-clause-bytes
returns-in_err-put_answer-clause-bytes g c =
    pends-front _ c.from_residual.result _ _ _ _ (answer_text c.args.answer) (10 ∷ []) c.from_residual.ensures.1 c.in_err-put_answer.ensures.bytes

pub returns-clause-bytes : goal.returns-clause-bytes
returns-clause-bytes g c =
    pends-after c.put.result _ _ _ _ _ _ (answer_text c.args.answer) (10 ∷ []) c.in_ok-put_answer.ensures.bytes c.put.ensures.bytes
