use Rattle.gd_map_laws.proofs.Sounds as sounds
use Rattle.gd_map_laws.proofs.below_is_right.Goals as goal

pub returns : goal.returns
returns c = record { bucket = sounds.below_is_right; table = sounds.below_is_avail }
