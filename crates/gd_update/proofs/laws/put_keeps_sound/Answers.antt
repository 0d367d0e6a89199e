use Rattle.gd_update.proofs.Results.{put_sound}
use Rattle.gd_update.proofs.laws.put_keeps_sound.Goals as goal

pub returns : goal.returns
returns c = put_sound
