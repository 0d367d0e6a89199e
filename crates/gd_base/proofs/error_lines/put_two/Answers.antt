use Rattle.gd_base.specs.Errors.{spaced}
use Rattle.gd_base.proofs.Waits.{pends-after, pends-front}
use Rattle.gd_base.proofs.error_lines.put_two.Goals as goal

pub returns-in_err-put_spaced-clause-bytes : goal.returns-in_err-put_spaced-clause-bytes
returns-in_err-put_spaced-clause-bytes g c =
    pends-front _ c.from_residual.result _ _ _ _ (spaced c.args.m) (spaced c.args.n) c.from_residual.ensures.1 c.in_err-put_spaced.ensures.bytes

pub returns-clause-bytes : goal.returns-clause-bytes
returns-clause-bytes g c =
    pends-after c.put_spaced-2.result _ _ _ _ _ _ (spaced c.args.m) (spaced c.args.n) c.in_ok-put_spaced.ensures.bytes c.put_spaced-2.ensures.bytes
