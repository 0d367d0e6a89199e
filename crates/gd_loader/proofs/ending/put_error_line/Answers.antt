use Rattle.std.proofs.Common.{[], ◌∷◌}
use Rattle.gd_base.specs.Errors.{error_text}
use Rattle.gd_base.proofs.Waits.{pends-after, pends-front}
use Rattle.gd_loader.proofs.ending.put_error_line.Goals as goal

pub returns-in_err-put_error-clause-bytes : goal.returns-in_err-put_error-clause-bytes
returns-in_err-put_error-clause-bytes g c =
    pends-front _ c.from_residual.result _ _ _ _ (error_text c.args.error) (10 ∷ []) c.from_residual.ensures.1 c.in_err-put_error.ensures.bytes

pub returns-clause-bytes : goal.returns-clause-bytes
returns-clause-bytes g c =
    pends-after c.put.result _ _ _ _ _ _ (error_text c.args.error) (10 ∷ []) c.in_ok-put_error.ensures.bytes c.put.ensures.bytes
