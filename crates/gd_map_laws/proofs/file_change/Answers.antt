use Rattle.gd_map_laws.proofs.FileUpdate as update
use Rattle.gd_map_laws.proofs.file_change.Goals as goal

pub returns : goal.returns
returns c = update.file_changed
