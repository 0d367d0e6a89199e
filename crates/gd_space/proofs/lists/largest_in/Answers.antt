use Rattle.std.proofs.Common.{arith}
use Rattle.gd_space.proofs.Elements.{largest_more}
use Rattle.gd_space.proofs.lists.largest_in.Goals as goal

pub loop-e-preserved : goal.loop-e-preserved
loop-e-preserved c = let x = largest_more (record { at = 0; size = 0 }) c.args.list.now c.loop-e.e-index c.loop-e-test.true in let z = c.loop-e.invariant in grind (arith, x, z)
