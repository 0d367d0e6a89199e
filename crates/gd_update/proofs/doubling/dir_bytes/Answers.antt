use Rattle.std.proofs.Common.{arith}
use Rattle.std.proofs.lemmas.Nat.{pow_pos}
use Rattle.gd_update.proofs.Numbers.{few_entries}
use Rattle.gd_update.proofs.doubling.dir_bytes.Goals as goal

pub returns-clause-is : goal.returns-clause-is
returns-clause-is c = let few = few_entries c.args.bits (omega (arith, c.requires)) in omega (arith, few)

pub returns-clause-some : goal.returns-clause-some
returns-clause-some c = let few = few_entries c.args.bits (omega (arith, c.requires)) in let p = pow_pos c.args.bits in omega (arith, few, p)

pub returns-clause-few : goal.returns-clause-few
returns-clause-few c = let few = few_entries c.args.bits (omega (arith, c.requires)) in omega (arith, few)
