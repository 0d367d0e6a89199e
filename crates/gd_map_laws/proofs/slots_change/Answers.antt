use Rattle.gd_map_laws.proofs.Update as update
use Rattle.gd_map_laws.proofs.slots_change.Goals as goal

pub returns : goal.returns
returns c = update.slots_changed
