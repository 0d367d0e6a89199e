use Rattle.gd_map_laws.proofs.SplitSums as sums
use Rattle.gd_map_laws.proofs.sums_split.Goals as goal

pub returns : goal.returns
returns c = record { split = sums.split_totals; double = sums.double_totals }
