use Rattle.std.proofs.Common.{arith}
use Rattle.gd_space.proofs.Elements.{largest_more, at-largest}
use Rattle.gd_space.proofs.lists.first_fit.Goals as goal

pub loop-i-preserved : goal.loop-i-preserved
loop-i-preserved c = let x = largest_more (record { at = 0; size = 0 }) c.args.list.now c.loop-i.i c.loop-i-test.true in let z = c.loop-i.invariant in let y = c.if-n-e.false in grind (arith, x, z, y)

pub returns-then-n-e-clause-held : goal.returns-then-n-e-clause-held
returns-then-n-e-clause-held c = let x = at-largest (record { at = 0; size = 0 }) c.args.list.now c.loop-i.i c.loop-i-test.true in let y = c.if-n-e.true in grind (arith, x, y)
