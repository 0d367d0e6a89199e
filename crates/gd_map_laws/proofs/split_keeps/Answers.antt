use Rattle.gd_map_laws.proofs.Double as double
use Rattle.gd_map_laws.proofs.Split as split
use Rattle.gd_map_laws.proofs.split_keeps.Goals as goal

pub returns : goal.returns
returns c = record { split = λ old new h i at bits half q bits_le parts li change. split.split_stays old new h i at bits half q bits_le parts li change; double = λ old new h h' bits_le parts change. double.double_stays old new h h' bits_le parts change }
