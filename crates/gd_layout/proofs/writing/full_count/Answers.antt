use Rattle.std.proofs.Common.{◌≡◌, true, false, get_or, take, sym, ap, ◌∙◌, arith}
use Rattle.std.proofs.lemmas.List.{take_more}
use Rattle.gd_format.specs.declared.Slot.TheVariants.{Empty}
use Rattle.gd_format.specs.Slots.{count, is_full}
use Rattle.gd_layout.proofs.Written.{count_push}
use Rattle.gd_layout.proofs.writing.full_count.Goals as goal
use Rattle.gd_layout.proofs.writing.full_count.Goals.{then-is_full, else-is_full}

pub loop-slot-preserved : goal.loop-slot-preserved
loop-slot-preserved c =
    let e = ap (count is_full) (take_more c.args.slots.now c.loop-slot.slot-index Empty c.loop-slot-test.true) ∙ count_push is_full (take c.loop-slot.slot-index c.args.slots.now) _ in
    elim c.if-is_full.branch [
      | then-is_full w ↦ let f : is_full (get_or c.args.slots.now c.loop-slot.slot-index Empty) ≡ true = sym c.is_full.ensures ∙ w.if-is_full.true in let g = rw f at e in record { is = omega (arith, g); most = omega arith }
      | else-is_full w ↦ let f : is_full (get_or c.args.slots.now c.loop-slot.slot-index Empty) ≡ false = sym c.is_full.ensures ∙ w.if-is_full.false in let g = rw f at e in record { is = omega (arith, g); most = omega arith }
    ]
