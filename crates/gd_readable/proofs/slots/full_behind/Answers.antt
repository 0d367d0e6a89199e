use Rattle.std.proofs.Common.{◌+◌, sym, ◌∙◌, refl, arith}
use Rattle.gd_readable.proofs.Reach.{run_goes_on}
use Rattle.gd_readable.proofs.slots.full_behind.Goals as goal

pub returns-then-before-elems : goal.returns-then-before-elems
returns-then-before-elems c =
    run_goes_on c.args.block.now c.args.elems c.args.s c.args.before (c.args.before + 1) c.requires.place (sym c.is_full.ensures ∙ c.if-not-is_full.false) c.requires.before
    (omega arith) (λ l. refl) (λ e. absurd (omega (arith, e)))

pub returns-else-before-elems : goal.returns-else-before-elems
returns-else-before-elems c =
    run_goes_on c.args.block.now c.args.elems c.args.s c.args.before c.args.before c.requires.place (sym c.is_full.ensures ∙ c.if-not-is_full.false) c.requires.before
    (omega arith) (λ l. absurd (omega (arith, l))) (λ e. refl)
