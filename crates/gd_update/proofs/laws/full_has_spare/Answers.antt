use Rattle.gd_update.proofs.Growth.{has_spare}
use Rattle.gd_update.proofs.laws.full_has_spare.Goals as goal

pub returns : goal.returns
returns c = λ file h top s hash at bucket held small here. has_spare file h top s hash at bucket held small here
