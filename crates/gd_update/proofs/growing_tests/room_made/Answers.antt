use Rattle.std.proofs.Common.{◌^◌, ◌≤◌, refl, sym, ◌∙◌, arith}
use Rattle.std.proofs.Math.Nat.{pow-le-pow_right}
use Rattle.gd_update.proofs.growing_tests.room_made.Goals as goal

pub load-requires-clause-header : goal.load-requires-clause-header
load-requires-clause-header c =
    let few = c.requires.few in
    let p : 2 ^ c.args.dir_bits ≤ 2 ^ 6 = pow-le-pow_right {n = 2} (omega arith) {i = c.args.dir_bits} {j = 6} few in
    record { block = sym c.is_block.ensures ∙ c.if-not-is_block.false; bits = omega (arith, few); dir = omega (arith, p); elems = refl; next_block = omega arith; least = omega arith; most = omega arith }
