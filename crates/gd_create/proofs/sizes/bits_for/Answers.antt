use Rattle.gd_create.proofs.Powers.{new_block}
use Rattle.gd_create.proofs.sizes.bits_for.Goals as goal

pub returns : goal.returns
returns c = new_block c.args.block c.ilog2.result c.requires.power.0 c.requires.power.1 c.ilog2.ensures.power_le c.ilog2.ensures.next_power_gt c.requires.from c.requires.to
