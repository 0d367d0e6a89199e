use Rattle.std.proofs.Common.{◌≡◌, ◌+◌, ◌*◌, ◌^◌, arith, min, get_or}
use Rattle.std.specs.Char.{digit_value}
use Rattle.gd_types.proofs.Cuts.{product-of, value-step}
use Rattle.gd_types.proofs.numerals.value.Goals as goal

pub overflow_mul-value : goal.overflow_mul-value
overflow_mul-value c =
    let product = product-of c.loop-byte.value c.from.result c.args.base c.from.ensures (omega (arith, c.loop-byte.invariant)) c.requires.high in
    omega (arith, product)

pub loop-byte-preserved : goal.loop-byte-preserved
loop-byte-preserved c =
    let digit = digit_value (get_or c.args.digits.now c.loop-byte.byte-index 0) in
    let step : c.min-value.result ≡ min (c.loop-byte.value * c.args.base + digit) (2 ^ 64) = cc in
    value-step c.args.base c.args.digits.now c.loop-byte.byte-index c.loop-byte.value c.min-value.result c.requires.low c.loop-byte-test.true c.loop-byte.invariant step
