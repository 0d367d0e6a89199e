use Rattle.std.proofs.Common.{◌≡◌, true, false, get_or, take, sym, ap, ◌∙◌, arith}
use Rattle.std.proofs.lemmas.List.{take_more}
use Rattle.gd_format.specs.declared.Slot.TheVariants.{Empty}
use Rattle.gd_format.specs.Slots.{count}
use Rattle.gd_map_laws.specs.Overflow.{is_close}
use Rattle.gd_layout.proofs.Written.{count_push}
use Rattle.gd_update.proofs.growing_tests.close_count.Goals as goal
use Rattle.gd_update.proofs.growing_tests.close_count.Goals.{then-is_near, else-is_near}

pub loop-slot-preserved : goal.loop-slot-preserved
loop-slot-preserved c =
    let e = ap (count (is_close c.args.hash)) (take_more c.args.slots.now c.loop-slot.slot-index Empty c.loop-slot-test.true) ∙ count_push (is_close c.args.hash) (take c.loop-slot.slot-index c.args.slots.now) _ in
    elim c.if-is_near.branch [
      | then-is_near w ↦ let f : is_close c.args.hash (get_or c.args.slots.now c.loop-slot.slot-index Empty) ≡ true = sym c.is_near.ensures ∙ w.if-is_near.true in let g = rw f at e in record { is = omega (arith, g); most = omega arith }
      | else-is_near w ↦ let f : is_close c.args.hash (get_or c.args.slots.now c.loop-slot.slot-index Empty) ≡ false = sym c.is_near.ensures ∙ w.if-is_near.false in let g = rw f at e in record { is = omega (arith, g); most = omega arith }
    ]
