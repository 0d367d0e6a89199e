use Rattle.gd_space_laws.proofs.Views.{gave_kept}
use Rattle.gd_space_laws.proofs.give_keeps_patch.Goals as goal

pub returns : goal.returns
returns c = gave_kept
