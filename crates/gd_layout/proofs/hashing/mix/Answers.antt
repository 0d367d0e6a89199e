use Rattle.std.proofs.Common.{◌^◌, ◌<◌, arith, sym}
use Rattle.gd_layout.proofs.HashLemmas.{unit_is, modulo-high}
use Rattle.gd_layout.proofs.hashing.mix.Goals as goal

pub overflow_sub-result : goal.overflow_sub-result
overflow_sub-result c = let unit = unit_is c.args.shift c.requires.shift in rw unit.0 (omega (arith, unit.1))

pub returns-else-byte-lt128-clause-value : goal.returns-else-byte-lt128-clause-value
returns-else-byte-lt128-clause-value c =
    let unit = unit_is c.args.shift c.requires.shift in
    let b : c.args.byte < 256 = omega arith in
    rw (unit.0, c.from.ensures)
    (sym (modulo-high c.args.v c.args.byte (2 ^ c.args.shift) c.if-byte-lt128.false b (omega (arith, unit.1))))
