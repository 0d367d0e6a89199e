use Rattle.gd_map_laws.proofs.DoubleSpace as doubles
use Rattle.gd_map_laws.proofs.double_space.Goals as goal

pub returns : goal.returns
returns c = doubles.double_space_right
