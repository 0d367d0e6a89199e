use Rattle.gd_update.proofs.Ends.{splits_end}
use Rattle.gd_update.proofs.laws.splits_end.Goals as goal

pub returns : goal.returns
returns c = splits_end
