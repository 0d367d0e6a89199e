use Rattle.gd_update.proofs.Settled.{sound_is_held}
use Rattle.gd_update.proofs.laws.sound_is_held.Goals as goal

pub returns : goal.returns
returns c = sound_is_held
