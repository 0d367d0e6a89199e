use Rattle.gd_map_laws.proofs.SplitSpace as splits
use Rattle.gd_map_laws.proofs.split_space.Goals as goal

pub returns : goal.returns
returns c = splits.split_space_right
