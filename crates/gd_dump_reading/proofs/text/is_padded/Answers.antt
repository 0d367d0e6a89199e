use Rattle.std.proofs.Common.{◌<◌, ◌%◌, arith, rules, length}
use Rattle.gd_dump_reading.proofs.Encodes.{padded-none}
use Rattle.gd_dump_reading.proofs.text.is_padded.Goals as goal

pub returns-clause-none : goal.returns-clause-none
returns-clause-none c = λ is more some.
    let odd : 0 < length c.args.bytes.now % 3 = search rules in
    padded-none c.args.bytes.now more odd some (λ i. let fits = c.type_inv.bytes i in omega arith)
