use Rattle.gd_map_laws.proofs.Find as finds
use Rattle.gd_map_laws.proofs.growth_adds.Goals as goal

pub returns : goal.returns
returns c = record { grown = finds.grown_is_extent; adds = finds.grown-add }
