use Rattle.gd_map_laws.proofs.Maps as maps
use Rattle.gd_map_laws.proofs.maps_by_lookup.Goals as goal

pub returns : goal.returns
returns c = record { by_lookup = maps.by_lookup; same = maps.same_maps; with = maps.map_with; without = maps.map_without }
