use Rattle.gd_update.proofs.Ends.{same_lookups}
use Rattle.gd_update.proofs.laws.same_lookups.Goals as goal

pub returns : goal.returns
returns c = same_lookups
