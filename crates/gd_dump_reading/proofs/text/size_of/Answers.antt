use Rattle.std.proofs.Common.{arith}
use Rattle.gd_dump_reading.proofs.text.size_of.Goals as goal

pub returns-clause-bytes : goal.returns-clause-bytes
returns-clause-bytes c = λ i. let fits = c.type_inv.bytes i in omega arith
