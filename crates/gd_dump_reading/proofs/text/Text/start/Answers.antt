use Rattle.std.proofs.Common.{◌≡◌, arith, rules, length}
use Rattle.gd_dump_reading.proofs.Encodes.{length-text}
use Rattle.gd_dump_reading.proofs.text.Text.start.Goals as goal

pub invariant_of-self-clause-counted : goal.invariant_of-self-clause-counted
invariant_of-self-clause-counted c = λ good.
    let bytes : length c.clear.new.self.items ≡ 0 = search rules in
    let quad : length c.clear-2.new.self.items ≡ 0 = search rules in
    omega (arith, length-text, bytes, quad)
