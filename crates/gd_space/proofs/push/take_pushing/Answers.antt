use Rattle.std.proofs.Common.{◌≡◌, ◌+◌, ◌-◌, ◌/◌, ◌≤◌, ◌∷◌, ◌++◌, [], List, ℕ, length, ◌∙◌, ap, take, arith}
use Rattle.gd_format.specs.declared.Extent.{Extent}
use Rattle.gd_format.specs.Avail.{Avail, avail_size}
use Rattle.gd_space.specs.Spells.{Spells}
use Rattle.gd_space.specs.Lists.{Split}
use Rattle.gd_format.specs.Sound.{extent}
use Rattle.gd_format.specs.FreeSide.{StackBlock, IsFreeSide}
use Rattle.gd_space.proofs.Sides.{Pushes}
use Rattle.gd_space.proofs.Pushing.{by_push}
use Rattle.gd_vault.specs.Content.{File}
use Rattle.gd_space.specs.Calls.{free_lists}
use Rattle.gd_space.proofs.Pushes.{table_below, bucket_below, push_steps}
use Rattle.gd_space.proofs.push.take_pushing.Goals as goal

pub write_block-requires-clause-place : goal.write_block-requires-clause-place
write_block-requires-clause-place g c = λ k told x there.
    let s = c.requires.side k x told there in
    let side = s.1 in
    let at = c.choose-chosen.ensures.block_below (table_below _ (free_lists c.args.table.now.extents s.0 c.args.bucket.now.free) side.below) (bucket_below _ (free_lists c.args.table.now.extents s.0 c.args.bucket.now.free) side.below) in
    let ends = at.ends in
    let bound = c.choose-chosen.ensures.bound in
    let next = c.requires.next in
    let large = c.requires.large in
    let n = c.ranges.n.fits in
    omega (arith, ends, bound, next, large, n)

pub returns-clause-pushed : goal.returns-clause-pushed
returns-clause-pushed g c =
    let old = g.V.Vault.view_of c.args.vault.now in
    let new = g.V.Vault.view_of c.write_block.new.vault in
    let h = c.args.header.now in
    let next' : ℕ = c.args.header.now.next_block + c.choose-chosen.result.grown in
    let e = c.choose-chosen.result.block in
    let over = c.choose-chosen.result.over in
    let sp = c.set_next_block.new.self in
    let moved = c.move_last.new.table.extents in
    let t = c.push.ensures in
    let s = c.set_next_block-2.ensures in
    let r = c.set_next_block.ensures in
    let spare_is : c.set_next_block.new.self.extents ≡ c.move_last.new.spare.extents = ap (λ (z : Avail). z.extents) r in
    let top_is : c.set_next_block.new.self.next_block ≡ c.args.table.now.next_block = ap (λ (z : Avail). z.next_block) r ∙ c.next_block.ensures ∙ c.move_last.ensures.next ∙ c.choose-chosen.ensures.next in
    let count : length c.set_next_block.new.self.extents ≡ c.args.header.now.avail_size / 2 = ap (λ (z : List Extent). length z) spare_is ∙ c.move_last.ensures.count in
    let top_new : c.set_next_block-2.new.self.next_block ≡ c.choose-chosen.result.block.at = ap (λ (z : Avail). z.next_block) s in
    let table_new : c.set_next_block-2.new.self.extents ≡ c.move_last.new.table.extents ++ c.choose-chosen.result.over ∷ [] = ap (λ (z : Avail). z.extents) s ∙ ap (λ (z : Avail). z.extents) t in
    let spells : Spells c.args.header.now.avail_size c.set_next_block.new.self.extents c.args.table.now.next_block (take (avail_size (length c.set_next_block.new.self.extents)) c.write_block.new.buf) = rw (← top_is) c.in_ok-write_block.ensures.spells in
    let size = c.choose-chosen.ensures.size in
    let wide = c.choose-chosen.ensures.wide in
    let cap = c.requires.capacity in
    let lost : c.choose-chosen.result.block.size - avail_size (length c.set_next_block.new.self.extents) ≤ 32 = omega (arith, wide, count) in
    let pushes : (blocks : List StackBlock) (x : File) → IsFreeSide x.bytes c.args.header.now c.args.table.now.next_block (free_lists c.args.table.now.extents blocks c.args.bucket.now.free)
    → Pushes c.args.header.now next' (free_lists c.args.table.now.extents blocks c.args.bucket.now.free) (c.move_last.new.table.extents ++ c.choose-chosen.result.over ∷ []) c.choose-chosen.new.bucket.free c.set_next_block.new.self.extents c.choose-chosen.result.block [] (extent c.args.header.now.next_block c.args.n ∷ []) =
    λ blocks x side.
    let one = table_below c.args.header.now.next_block (free_lists c.args.table.now.extents blocks c.args.bucket.now.free) side.below in
    let two = bucket_below c.args.header.now.next_block (free_lists c.args.table.now.extents blocks c.args.bucket.now.free) side.below in
    let step = c.choose-chosen.ensures.step one two in
    let block = c.choose-chosen.ensures.block_below one two in
    let split : Split next' c.choose-chosen.new.table.extents c.move_last.new.table.extents c.set_next_block.new.self.extents = rw spare_is (c.move_last.ensures.split next' step.table_below) in
    record {
      grows = omega arith;
      step = push_steps next' (extent c.args.header.now.next_block c.args.n) c.choose-chosen.result.block c.choose-chosen.result.over _ _ _ _ c.move_last.new.table.extents c.set_next_block.new.self.extents _ step split c.choose-chosen.ensures.over_below;
      start = block.start;
      small = (let ends = block.ends in let bound = c.choose-chosen.ensures.bound in let next = c.requires.next in let large = c.requires.large in let few = c.ranges.n.fits in omega (arith, ends, bound, next, large, few));
      room = omega (arith, size, count);
      ends = block.ends;
      fits = block.fits;
      few = omega (arith, count, cap);
      below = split.two_below;
      given_below = tt;
      given_once = λ b. (let once = side.once b in omega (arith, once));
    }
    in
    rw (top_new, table_new)
    (by_push old new c.args.f.0 (take (avail_size (length c.set_next_block.new.self.extents)) c.write_block.new.buf) c.args.header.now c.args.header.now.avail_size next' c.args.table.now.next_block c.args.table.now.extents c.args.bucket.now.free
    (c.move_last.new.table.extents ++ c.choose-chosen.result.over ∷ []) c.choose-chosen.new.bucket.free c.set_next_block.new.self.extents c.choose-chosen.result.block (extent c.args.header.now.next_block c.args.n ∷ []) 32
    c.in_ok-write_block.ensures.wrote spells lost pushes)
