use Rattle.gd_update.proofs.Results.{remove_sound}
use Rattle.gd_update.proofs.laws.remove_keeps_sound.Goals as goal

pub returns : goal.returns
returns c = remove_sound
