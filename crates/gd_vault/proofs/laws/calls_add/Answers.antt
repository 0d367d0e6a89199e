use Rattle.gd_vault.proofs.Told.{more_told}
use Rattle.gd_vault.proofs.laws.calls_add.Goals as goal

pub returns : goal.returns
returns c = more_told
