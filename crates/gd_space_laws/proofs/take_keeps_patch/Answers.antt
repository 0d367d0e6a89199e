use Rattle.std.proofs.Common.{[], ◌∷◌}
use Rattle.gd_format.specs.Sound.{extent}
use Rattle.gd_space_laws.proofs.Views.{done_kept}
use Rattle.gd_space_laws.proofs.take_keeps_patch.Goals as goal

pub returns : goal.returns
returns c = λ old new f h h' next capacity table table' i at bucket bucket' block front place n lost c x some told there patch is_next done.
    done_kept old new f h h' next capacity table table' i at bucket bucket' block front (extent place n ∷ []) lost c x (some, tt) told there patch is_next done
