use Rattle.gd_map_laws.proofs.Aside as aside
use Rattle.gd_map_laws.proofs.what_stays_aside.Goals as goal

pub returns : goal.returns
returns c = aside.stays_aside
