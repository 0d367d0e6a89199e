use Rattle.std.proofs.Common.{arith, ◌-◌}
use Rattle.gd_readable.proofs.Runs.{run_range}
use Rattle.gd_lookup.proofs.totals.share_of.Goals as goal

pub returns-clause-most : goal.returns-clause-most
returns-clause-most c =
    let bits = c.requires in
    let r = run_range (c.args.bits - c.cast_unsigned-2.result) (omega arith) in
    omega (arith, r.0, r.2)
