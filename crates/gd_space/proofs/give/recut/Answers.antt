use Rattle.std.proofs.Common.{length, ap, arith}
use Rattle.gd_space.proofs.Gives.{done_lost, done_recut}
use Rattle.gd_space.proofs.Pushing.{recut_loses_is}
use Rattle.gd_space.proofs.give.recut.Goals as goal

pub returns-clause-done : goal.returns-clause-done
returns-clause-done g c =
    let old = g.V.Vault.view_of c.args.vault.now in
    let new = g.V.Vault.view_of c.push_last.new.vault in
    let len = ap length c.extents.ensures.are in
    let over = c.if-len-capacity.false in
    let wide = c.wide_for-wide.ensures in
    done_recut old new c.args.f.0 c.args.header.now c.push_last.new.header c.args.capacity c.args.table.now.next_block c.push_last.new.table.next_block c.args.table.now.extents c.args.bucket.now.free c.push_last.new.table.extents c.push_last.new.bucket.free _
    (done_lost old new _ _ _ _ _ _ _ _ _ _ _ (recut_loses_is c.args.capacity c.args.header.now c.args.table.now.extents _ _ (omega (arith, over, len)) (omega (arith, len)) (omega (arith, wide, len))) c.in_ok-push_last.ensures.pushed.done)
