use Rattle.gd_map_laws.proofs.Beside.{beside_sound}
use Rattle.gd_map_laws.proofs.beside_is_kept.Goals as goal

pub returns : goal.returns
returns c = beside_sound
