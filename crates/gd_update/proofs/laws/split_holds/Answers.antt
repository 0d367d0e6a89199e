use Rattle.gd_update.proofs.SplitParts.{split_holds}
use Rattle.gd_update.proofs.laws.split_holds.Goals as goal

pub returns : goal.returns
returns c = split_holds
