use Rattle.gd_map_laws.proofs.NewFile.{new_sound}
use Rattle.gd_map_laws.proofs.new_is_sound.Goals as goal

pub returns : goal.returns
returns c = new_sound
