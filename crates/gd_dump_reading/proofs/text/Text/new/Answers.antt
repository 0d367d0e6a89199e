use Rattle.std.proofs.Common.{◌≡◌, arith, rules, length}
use Rattle.gd_dump_reading.proofs.Encodes.{length-text}
use Rattle.gd_dump_reading.proofs.text.Text.new.Goals as goal

pub invariant_of-result-clause-counted : goal.invariant_of-result-clause-counted
invariant_of-result-clause-counted c = λ good.
    let bytes : length c.new.result.items ≡ 0 = search rules in
    let quad : length c.new-2.result.items ≡ 0 = search rules in
    omega (arith, length-text, bytes, quad)
