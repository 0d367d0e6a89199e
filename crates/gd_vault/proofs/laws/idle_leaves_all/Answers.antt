use Rattle.gd_vault.proofs.Since.{idle}
use Rattle.gd_vault.proofs.laws.idle_leaves_all.Goals as goal

pub returns : goal.returns
returns c = idle
