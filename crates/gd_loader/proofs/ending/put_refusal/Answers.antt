use Rattle.std.proofs.Common.{[], ◌∷◌, ◌++◌, codes}
use Rattle.gd_base.specs.Errors.{error_text}
use Rattle.gd_base.proofs.Waits.{pends-after, pends-front}
use Rattle.gd_loader.proofs.ending.put_refusal.Goals as goal

pub returns-in_err-put-clause-bytes : goal.returns-in_err-put-clause-bytes
returns-in_err-put-clause-bytes g c =
    pends-front _ c.from_residual.result _ _ _ _ (codes "gdbm_load: ") (error_text c.args.error ++ 10 ∷ []) c.from_residual.ensures.1 c.in_err-put.ensures.bytes

pub returns-clause-bytes : goal.returns-clause-bytes
returns-clause-bytes g c =
    pends-after c.put_error_line.result _ _ _ _ _ _ (codes "gdbm_load: ") (error_text c.args.error ++ 10 ∷ []) c.in_ok-put.ensures.bytes c.put_error_line.ensures.bytes
