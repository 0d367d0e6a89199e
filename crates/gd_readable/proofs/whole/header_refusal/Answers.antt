use Rattle.std.proofs.Common.{arith}
use Rattle.std.proofs.lemmas.List.{length-take-le}
use Rattle.gd_readable.proofs.whole.header_refusal.Goals as goal

pub header_fault-requires-2 : goal.header_fault-requires-2
header_fault-requires-2 c = omega (arith, length-take-le 80 c.args.file.now (omega arith))
