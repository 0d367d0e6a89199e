use Rattle.std.proofs.Common.{arith}
use Rattle.gd_dump_reading.proofs.Digits.{value-more}
use Rattle.gd_dump_reading.proofs.numbers.number.Goals as goal

pub loop-b-preserved : goal.loop-b-preserved
loop-b-preserved c =
    let more = value-more c.args.digits.now c.loop-b.b-index (omega arith) in
    omega (arith, more, c.saturating_mul.ensures, c.saturating_add-n.ensures, c.saturating_sub.ensures)
