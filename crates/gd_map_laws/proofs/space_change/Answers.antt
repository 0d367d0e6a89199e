use Rattle.gd_map_laws.proofs.Space as space
use Rattle.gd_map_laws.proofs.space_change.Goals as goal

pub returns : goal.returns
returns c = space.space_changed
