use Rattle.gd_update.proofs.Growth.{growth_begins}
use Rattle.gd_update.proofs.laws.growth_begins.Goals as goal

pub returns : goal.returns
returns c = growth_begins
