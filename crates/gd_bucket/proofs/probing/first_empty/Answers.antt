use Rattle.std.proofs.Common.{◌≡◌, ℕ, ◌+◌, ◌<◌, true, below_more, sym, ap, ◌∙◌}
use Rattle.gd_format.specs.Slots.{is_full}
use Rattle.gd_bucket.specs.Probing.{slot_after}
use Rattle.gd_bucket.proofs.Inserts.{room_left}
use Rattle.gd_bucket.proofs.probing.first_empty.Goals as goal

pub loop-d-preserved : goal.loop-d-preserved
loop-d-preserved c =
    let here : is_full (slot_after c.args.slots.now c.args.hash c.loop-d.d) ≡ true = ap is_full (sym c.slot_past.ensures) ∙ sym c.is_full.ensures ∙ c.loop-d-test.true in
    let full : (e : ℕ) → e < c.loop-d.d + 1 → is_full (slot_after c.args.slots.now c.args.hash e) ≡ true = below_more _ _ c.loop-d.invariant.full here in
    record { in_round = room_left c.args.slots.now c.args.hash (c.loop-d.d + 1) c.requires full; full = full }
