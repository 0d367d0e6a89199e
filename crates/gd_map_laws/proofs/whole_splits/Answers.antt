use Rattle.gd_map_laws.proofs.WholeSplit as wholes
use Rattle.gd_map_laws.proofs.whole_splits.Goals as goal

pub returns : goal.returns
returns c = record { split = wholes.split_sound; double = wholes.double_sound }
