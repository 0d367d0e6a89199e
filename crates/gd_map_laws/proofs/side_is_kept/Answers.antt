use Rattle.gd_map_laws.proofs.Side as side
use Rattle.gd_map_laws.proofs.side_is_kept.Goals as goal

pub returns : goal.returns
returns c = side.side_kept
