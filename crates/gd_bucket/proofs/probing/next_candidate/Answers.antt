use Rattle.std.proofs.Common.{◌≡◌, true, false, sym, ap, ◌∙◌}
use Rattle.gd_format.specs.Slots.{is_full}
use Rattle.gd_bucket.specs.Probing.{slot_after, is_candidate}
use Rattle.gd_bucket.proofs.Finds.{one_more}
use Rattle.gd_bucket.proofs.probing.next_candidate.Goals as goal

pub loop-d-preserved : goal.loop-d-preserved
loop-d-preserved c =
    let full : is_full (slot_after c.args.slots.now c.args.hash c.loop-d.d) ≡ true = ap is_full (sym c.slot_past-slot.ensures) ∙ sym c.is_full.ensures ∙ c.if-not-is_full.false in
    let none : is_candidate c.args.hash c.args.key.now (slot_after c.args.slots.now c.args.hash c.loop-d.d) ≡ false =
    ap (is_candidate c.args.hash c.args.key.now) (sym c.slot_past-slot.ensures) ∙ sym c.is_candidate.ensures ∙ c.if-is_candidate.false in
    record {
      full = one_more (λ e. is_full (slot_after c.args.slots.now c.args.hash e) ≡ true) c.args.from c.loop-d.d c.loop-d.invariant.full full;
      none = one_more (λ e. is_candidate c.args.hash c.args.key.now (slot_after c.args.slots.now c.args.hash e) ≡ false) c.args.from c.loop-d.d c.loop-d.invariant.none none;
    }
