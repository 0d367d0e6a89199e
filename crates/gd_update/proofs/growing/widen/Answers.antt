use Rattle.std.proofs.Common.{ap, arith}
use Rattle.gd_format.specs.declared.Header.{Header}
use Rattle.gd_update.proofs.Heads.{wide_same, wide_doubled}
use Rattle.gd_update.proofs.growing.widen.Goals as goal

pub returns-then-bits-header-clause-widened : goal.returns-then-bits-header-clause-widened
returns-then-bits-header-clause-widened g c =
    let same = ap (λ (h : Header). h.dir_bits) c.header.ensures.is in
    let less = c.if-bits-header.true in
    wide_same c.args.file.now.header c.args.bits (omega (arith, less, same))

pub returns-clause-widened : goal.returns-clause-widened
returns-clause-widened g c =
    let same = ap (λ (h : Header). h.dir_bits) c.header.ensures.is in
    let most = c.if-bits-header.false in
    wide_doubled c.args.file.now.header c.double.new.file.header c.args.bits c.requires.within (omega (arith, most, same)) c.in_ok-double.ensures.header c.in_ok-double.ensures.growth
