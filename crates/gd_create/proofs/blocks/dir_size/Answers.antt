use Rattle.std.proofs.Common.{◌^◌, ◌≤◌, arith}
use Rattle.std.proofs.Math.Pow.{pow_mono}
use Rattle.std.proofs.Math.Nat.{mod-eq_of_lt}
use Rattle.gd_create.proofs.blocks.dir_size.Goals as goal

pub returns : goal.returns
returns c =
    let small : 2 ^ c.args.bits ≤ 2 ^ 27 = pow_mono {i = c.args.bits} {j = 27} (let bits = c.requires in omega (arith, bits)) in
    mod-eq_of_lt (omega (arith, small))
