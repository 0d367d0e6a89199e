use Rattle.gd_vault.proofs.Within.{within_trans}
use Rattle.gd_vault.proofs.laws.frame_transitive.Goals as goal

pub returns : goal.returns
returns c = λ mine named u v w a b. within_trans a b
