use Rattle.std.proofs.Common.{◌≤◌, sym, ap, ◌∙◌, arith}
use Rattle.gd_format.specs.Slots.{is_full}
use Rattle.gd_bucket.specs.Removing.{from_home}
use Rattle.gd_bucket.proofs.Holes.{may_move}
use Rattle.gd_bucket.proofs.removing.next_to_move.Goals as goal

pub returns-then-from_home-t-clause-some : goal.returns-then-from_home-t-clause-some
returns-then-from_home-t-clause-some c =
    let far : c.loop-t.t ≤ from_home c.args.slots.now c.place_after-place.result = rw c.from_home.ensures at c.if-from_home-t.true in
    may_move c.args.slots.now c.args.hole c.loop-t.t c.place_after-place.result c.requires (omega arith) (omega arith) c.place_after-place.ensures
    (ap is_full (sym c.slot_past.ensures) ∙ sym c.is_full.ensures ∙ c.if-not-is_full.false) far
