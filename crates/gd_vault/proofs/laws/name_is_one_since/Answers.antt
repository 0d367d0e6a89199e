use Rattle.gd_vault.proofs.Since.{name_since}
use Rattle.gd_vault.proofs.laws.name_is_one_since.Goals as goal

pub returns : goal.returns
returns c = name_since
