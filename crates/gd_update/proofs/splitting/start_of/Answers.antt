use Rattle.gd_update.proofs.Numbers.{half_in}
use Rattle.gd_update.proofs.splitting.start_of.Goals as goal

pub returns-clause-within : goal.returns-clause-within
returns-clause-within c = let fits = half_in c.args.hash c.args.bits c.args.header.now.dir_bits c.requires.small c.requires.less c.requires.most in rw (c.half_entries.ensures.is, c.from.ensures) fits
