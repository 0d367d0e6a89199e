use Rattle.gd_space_laws.proofs.Views.{patch_side}
use Rattle.gd_space_laws.proofs.patch_has_side.Goals as goal

pub returns : goal.returns
returns c = patch_side
