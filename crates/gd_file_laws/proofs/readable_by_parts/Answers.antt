use Rattle.gd_file_laws.proofs.Made.{made_readable}
use Rattle.gd_file_laws.proofs.Walk.{readable}
use Rattle.gd_file_laws.proofs.readable_by_parts.Goals as goal

pub returns : goal.returns
returns c file = (readable file, made_readable file)
