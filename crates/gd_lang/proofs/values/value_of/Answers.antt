use Rattle.std.proofs.Common.{arith}
use Rattle.gd_lang.proofs.Digits.{value-more}
use Rattle.gd_lang.proofs.values.value_of.Goals as goal

pub loop-byte-preserved : goal.loop-byte-preserved
loop-byte-preserved c =
    let more = value-more c.args.digits.now c.loop-byte.byte-index (omega arith) in
    omega (arith, more, c.saturating_sub.ensures, c.from.ensures, c.min-value.ensures)
