use Rattle.std.proofs.Common.{◌^◌, ℕ, ap, ◌∙◌, arith}
use Rattle.gd_readable.proofs.Runs.{run_range}
use Rattle.gd_lookup.proofs.records.entry_count.Goals as goal

pub returns-clause-is : goal.returns-clause-is
returns-clause-is c =
    let r = run_range c.dir_bits.result c.dir_bits.ensures.most in
    r.0 ∙ ap (λ (n : ℕ). 2 ^ n) c.dir_bits.ensures.is

pub returns-clause-most : goal.returns-clause-most
returns-clause-most c =
    let r = run_range c.dir_bits.result c.dir_bits.ensures.most in
    omega (arith, r.0, r.2)
