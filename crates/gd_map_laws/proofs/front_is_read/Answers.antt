use Rattle.gd_map_laws.proofs.Fronts.{front_read}
use Rattle.gd_map_laws.proofs.front_is_read.Goals as goal

pub returns : goal.returns
returns c = front_read
