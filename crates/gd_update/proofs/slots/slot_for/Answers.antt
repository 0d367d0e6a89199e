use Rattle.std.proofs.Common.{arith}
use Rattle.gd_update.proofs.Places.{hash_below}
use Rattle.gd_update.proofs.slots.slot_for.Goals as goal

pub returns-clause-fits : goal.returns-clause-fits
returns-clause-fits c =
    let b = hash_below c.args.key.now in
    let h = c.requires.hash in
    (omega (arith, b, h), c.requires.at, c.requires.key, c.requires.value)
