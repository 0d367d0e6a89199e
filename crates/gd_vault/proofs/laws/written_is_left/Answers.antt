use Rattle.gd_vault.proofs.Since.{written}
use Rattle.gd_vault.proofs.laws.written_is_left.Goals as goal

pub returns : goal.returns
returns c = written
