use Rattle.std.proofs.Common.{[], ◌∷◌, ◌++◌, codes}
use Rattle.std.specs.Fmt.{decimal}
use Rattle.gd_loader.specs.Ends.{kind_text, place_text}
use Rattle.gd_base.proofs.Waits.{pends-after, pends-front}
use Rattle.gd_loader.proofs.ending.put_kind_at.Goals as goal

pub returns-in_err-put_kind-clause-bytes : goal.returns-in_err-put_kind-clause-bytes
unfolding place_text
returns-in_err-put_kind-clause-bytes g c =
    pends-front _ c.from_residual.result _ _ _ _ (kind_text c.args.kind) (codes " at " ++ (decimal c.args.place ++ 10 ∷ [])) c.from_residual.ensures.1 c.in_err-put_kind.ensures.bytes

pub returns-clause-bytes : goal.returns-clause-bytes
unfolding place_text
returns-clause-bytes g c =
    pends-after c.put_at.result _ _ _ _ _ _ (kind_text c.args.kind) (codes " at " ++ (decimal c.args.place ++ 10 ∷ [])) c.in_ok-put_kind.ensures.bytes c.put_at.ensures.bytes
