use Rattle.gd_map_laws.proofs.Whole as wholes
use Rattle.gd_map_laws.proofs.whole_changes.Goals as goal

pub returns : goal.returns
returns c = record { store = wholes.store_sound; delete = wholes.delete_sound }
