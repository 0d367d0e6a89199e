use Rattle.std.proofs.Common.{◌+◌, ◌-◌, arith}
use Rattle.gd_update.proofs.Numbers.{few_entries}
use Rattle.gd_update.proofs.splitting.half_entries.Goals as goal

pub returns-clause-few : goal.returns-clause-few
returns-clause-few c = let few = few_entries (c.args.header.now.dir_bits - (c.args.bits + 1)) (omega (arith, c.requires.most)) in omega (arith, few)
