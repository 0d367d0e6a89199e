use Rattle.gd_types.proofs.Back.{scalars-back}
use Rattle.gd_types.proofs.laws.scalars_read_back.Goals as goal

pub returns : goal.returns
returns c = scalars-back
