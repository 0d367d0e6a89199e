use Rattle.std.proofs.Common.{arith}
use Rattle.gd_verify.proofs.Chains.{nowhere, end_more}
use Rattle.gd_verify.proofs.apart.all_end.Goals as goal

pub loop-k-preserved : goal.loop-k-preserved
loop-k-preserved c = end_more c.args.place c.args.list.now c.loop-k.k-index nowhere c.loop-k-test.true c.loop-k.invariant (omega (arith, c.from.ensures, c.if-k-from.false))
