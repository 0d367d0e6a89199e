use Rattle.gd_vault.proofs.FrameLeft.{same_past}
use Rattle.gd_vault.proofs.laws.past_stays.Goals as goal

pub returns : goal.returns
returns c = same_past
