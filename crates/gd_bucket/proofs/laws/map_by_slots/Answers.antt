use Rattle.gd_bucket.proofs.Maps.{same_map}
use Rattle.gd_bucket.proofs.laws.map_by_slots.Goals as goal

pub returns : goal.returns
returns c = same_map
