use Rattle.std.proofs.Common.{length, ap, ◌∙◌, arith}
use Rattle.gd_format.specs.Avail.{Avail, extent_at}
use Rattle.gd_format.proofs.Firsts.{length-list_below}
use Rattle.gd_layout.proofs.avail.put_first.Goals as goal

pub push-requires : goal.push-requires
push-requires c =
    let inv = c.loop-e.invariant in
    let len = ap (λ (a : Avail). length a.extents) inv ∙ length-list_below (extent_at c.args.bytes.now) c.loop-e.e in
    let room = ap (λ (a : Avail). a.room) inv in
    let test = c.loop-e-test.true in
    let most = c.requires.room in
    omega (arith, len, room, test, most)
