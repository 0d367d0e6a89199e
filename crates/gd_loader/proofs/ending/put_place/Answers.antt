use Rattle.std.proofs.Common.{[], ◌∷◌}
use Rattle.std.specs.Fmt.{decimal}
use Rattle.gd_base.proofs.Waits.{pends-after, pends-front}
use Rattle.gd_loader.proofs.ending.put_place.Goals as goal

pub returns-in_err-put_decimal-clause-bytes : goal.returns-in_err-put_decimal-clause-bytes
returns-in_err-put_decimal-clause-bytes g c =
    pends-front _ c.from_residual.result _ _ _ _ (decimal c.args.place) (10 ∷ []) c.from_residual.ensures.1 c.in_err-put_decimal.ensures.bytes

pub returns-clause-bytes : goal.returns-clause-bytes
returns-clause-bytes g c =
    pends-after c.put.result _ _ _ _ _ _ (decimal c.args.place) (10 ∷ []) c.in_ok-put_decimal.ensures.bytes c.put.ensures.bytes
