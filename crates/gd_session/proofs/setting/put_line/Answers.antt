use Rattle.std.proofs.Common.{[], ◌∷◌, ◌++◌}
use Rattle.gd_base.proofs.Waits.{pends-after, pends-front}
use Rattle.gd_session.proofs.setting.put_line.Goals as goal

pub returns-in_err-put-clause-bytes : goal.returns-in_err-put-clause-bytes
returns-in_err-put-clause-bytes g c = pends-front _ c.from_residual.result _ _ _ _ (c.args.text.now) (10 ∷ []) c.from_residual.ensures.1 c.in_err-put.ensures.bytes

pub returns-clause-bytes : goal.returns-clause-bytes
returns-clause-bytes g c = pends-after c.put-2.result _ _ _ _ _ _ (c.args.text.now) (10 ∷ []) c.in_ok-put.ensures.bytes c.put-2.ensures.bytes
