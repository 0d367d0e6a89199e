use Rattle.std.proofs.Common.{refl, arith}
use Rattle.gd_create.proofs.Powers.{least_power}
use Rattle.gd_create.proofs.sizes.block_for.Goals as goal

pub returns-then-asked-lt512-clause-power : goal.returns-then-asked-lt512-clause-power
returns-then-asked-lt512-clause-power c = (12, refl)

pub returns-clause-least : goal.returns-clause-least
returns-clause-least c = λ some k le. least_power c.args.asked c.next_power_of_two.result c.next_power_of_two.ensures.power.0 k c.next_power_of_two.ensures.power.1 c.next_power_of_two.ensures.upper_bound (omega arith) le

pub returns-clause-to : goal.returns-clause-to
returns-clause-to c =
    let most = c.requires in
    least_power c.args.asked c.next_power_of_two.result c.next_power_of_two.ensures.power.0 20 c.next_power_of_two.ensures.power.1 c.next_power_of_two.ensures.upper_bound (omega arith) (omega (arith, most))
