use Rattle.gd_vault.proofs.WasLeft.{was_left}
use Rattle.gd_vault.proofs.laws.was_is_left.Goals as goal

pub returns : goal.returns
returns c = was_left
