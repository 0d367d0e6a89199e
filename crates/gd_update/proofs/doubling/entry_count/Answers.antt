use Rattle.std.proofs.Common.{arith}
use Rattle.gd_update.proofs.Numbers.{few_entries}
use Rattle.gd_update.proofs.doubling.entry_count.Goals as goal

pub returns-clause-is : goal.returns-clause-is
returns-clause-is c = let few = few_entries c.args.bits (omega (arith, c.requires)) in omega (arith, few)

pub returns-clause-few : goal.returns-clause-few
returns-clause-few c = let few = few_entries c.args.bits (omega (arith, c.requires)) in omega (arith, few)
