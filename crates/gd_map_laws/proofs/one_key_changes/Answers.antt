use Rattle.gd_map_laws.proofs.OneKey as onekey
use Rattle.gd_map_laws.proofs.one_key_changes.Goals as goal

pub returns : goal.returns
returns c old new h h' i key value gone come rest bits_le parts li shape change = onekey.one_key old new h i key value gone come rest bits_le parts li change h' shape
