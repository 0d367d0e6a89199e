use Rattle.gd_map_laws.proofs.Fronts as fronts
use Rattle.gd_map_laws.proofs.Lookup as lookups
use Rattle.gd_map_laws.proofs.lookup_is_exact.Goals as goal

pub returns : goal.returns
returns c = record { exact = lookups.lookup_exact; once = lookups.records_once; count = fronts.records_count }
