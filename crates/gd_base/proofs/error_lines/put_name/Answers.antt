use Rattle.std.proofs.Common.{[], ◌∷◌}
use Rattle.gd_base.specs.Errors.{name_of}
use Rattle.gd_base.proofs.Waits.{pends-after, pends-front}
use Rattle.gd_base.proofs.error_lines.put_name.Goals as goal

pub returns-in_err-put-clause-bytes : goal.returns-in_err-put-clause-bytes
returns-in_err-put-clause-bytes g c =
    pends-front _ c.from_residual.result _ _ _ _ (32 ∷ []) (name_of c.args.error) c.from_residual.ensures.1 c.in_err-put.ensures.bytes

pub returns-clause-bytes : goal.returns-clause-bytes
returns-clause-bytes g c =
    pends-after c.put_word.result _ _ _ _ _ _ (32 ∷ []) (name_of c.args.error) c.in_ok-put.ensures.bytes c.put_word.ensures.bytes
