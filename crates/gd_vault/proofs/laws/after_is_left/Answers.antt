use Rattle.gd_vault.proofs.AfterLeft.{after_left}
use Rattle.gd_vault.proofs.laws.after_is_left.Goals as goal

pub returns : goal.returns
returns c = after_left
