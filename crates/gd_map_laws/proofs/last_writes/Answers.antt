use Rattle.gd_map_laws.proofs.Writes.{writes_read}
use Rattle.gd_map_laws.proofs.last_writes.Goals as goal

pub returns : goal.returns
returns c = writes_read
