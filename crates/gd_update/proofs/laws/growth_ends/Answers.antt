use Rattle.gd_update.proofs.Growth.{growth_ends}
use Rattle.gd_update.proofs.laws.growth_ends.Goals as goal

pub returns : goal.returns
returns c = growth_ends
