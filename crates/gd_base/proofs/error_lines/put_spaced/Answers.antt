use Rattle.std.proofs.Common.{[], ◌∷◌}
use Rattle.std.specs.Fmt.{decimal}
use Rattle.gd_base.proofs.Waits.{pends-after, pends-front}
use Rattle.gd_base.proofs.error_lines.put_spaced.Goals as goal

pub returns-in_err-put-clause-bytes : goal.returns-in_err-put-clause-bytes
returns-in_err-put-clause-bytes g c =
    pends-front _ c.from_residual.result _ _ _ _ (32 ∷ []) (decimal c.args.n) c.from_residual.ensures.1 c.in_err-put.ensures.bytes

pub returns-clause-bytes : goal.returns-clause-bytes
returns-clause-bytes g c =
    pends-after c.put_decimal.result _ _ _ _ _ _ (32 ∷ []) (decimal c.args.n) c.in_ok-put.ensures.bytes c.put_decimal.ensures.bytes
