use Rattle.gd_update.proofs.DoubleParts.{double_holds}
use Rattle.gd_update.proofs.laws.doubling_holds.Goals as goal

pub returns : goal.returns
returns c = double_holds
