use Rattle.gd_vault.proofs.Since.{name_quiet}
use Rattle.gd_vault.proofs.laws.kept_name_is_left.Goals as goal

pub returns : goal.returns
returns c = name_quiet
