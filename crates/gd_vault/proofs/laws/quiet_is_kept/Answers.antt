use Rattle.gd_vault.proofs.Since.{quiet}
use Rattle.gd_vault.proofs.laws.quiet_is_kept.Goals as goal

pub returns : goal.returns
returns c = quiet
