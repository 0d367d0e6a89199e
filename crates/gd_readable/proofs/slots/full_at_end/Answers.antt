use Rattle.std.proofs.Common.{sym, ◌∙◌, arith}
use Rattle.gd_readable.proofs.Reach.{run_at_end}
use Rattle.gd_readable.proofs.slots.full_at_end.Goals as goal

pub returns-then-not-is_full : goal.returns-then-not-is_full
returns-then-not-is_full c =
    run_at_end c.args.block.now c.args.elems c.slots.n c.slots.invariant.few c.slots.invariant.full (λ l. sym c.is_full.ensures ∙ c.if-not-is_full.true)

pub returns : goal.returns
returns c =
    run_at_end c.args.block.now c.args.elems c.slots.n c.slots.invariant.few c.slots.invariant.full (λ l. absurd (omega (arith, l)))
