use Rattle.gd_update.proofs.Settled.{whole}
use Rattle.gd_update.proofs.laws.held_is_whole.Goals as goal

pub returns : goal.returns
returns c = whole
