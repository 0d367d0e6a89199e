use Rattle.gd_map_laws.proofs.SplitWrites.{split_change}
use Rattle.gd_map_laws.proofs.split_by_writes.Goals as goal

pub returns : goal.returns
returns c = split_change
