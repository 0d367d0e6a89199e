use Rattle.std.proofs.Common.{◌≡◌, ◌+◌, ◌-◌, ◌≤◌, [], List, ℕ, length, ◌∙◌, ap, take, arith}
use Rattle.gd_format.specs.declared.Extent.{Extent}
use Rattle.gd_format.specs.Avail.{Avail, avail_size}
use Rattle.gd_format.specs.FreeSide.{StackBlock, IsFreeSide}
use Rattle.gd_space.specs.Spells.{Spells}
use Rattle.gd_space.specs.Calls.{free_lists}
use Rattle.gd_space.proofs.Sides.{Pushes}
use Rattle.gd_space.proofs.Pushing.{by_push}
use Rattle.gd_space.proofs.Pushes.{table_below, bucket_below}
use Rattle.gd_vault.specs.Content.{File}
use Rattle.gd_space.proofs.give.push_last.Goals as goal

pub write_block-requires-clause-place : goal.write_block-requires-clause-place
write_block-requires-clause-place g c = λ k told x there.
    let s = c.requires.side k x told there in
    let side = s.1 in
    let at = c.in-Some.ensures.block_below side.behind (table_below _ (free_lists c.args.table.now.extents s.0 c.args.bucket.now.free) side.below) (bucket_below _ (free_lists c.args.table.now.extents s.0 c.args.bucket.now.free) side.below) in
    let ends = at.ends in
    let below = c.in-Some.ensures.below in
    omega (arith, ends, below)

pub returns-clause-pushed : goal.returns-clause-pushed
returns-clause-pushed g c =
    let old = g.V.Vault.view_of c.args.vault.now in
    let new = g.V.Vault.view_of c.write_block.new.vault in
    let next' : ℕ = c.args.header.now.next_block + c.in-Some.filled.grown in
    let e = c.in-Some.filled.block in
    let s = c.set_next_block-2.ensures in
    let r = c.set_next_block.ensures in
    let spare_is : c.set_next_block.new.self.extents ≡ c.fill_block.new.spare.extents = ap (λ (z : Avail). z.extents) r in
    let count = ap (λ (z : List Extent). length z) spare_is in
    let top_is : c.set_next_block.new.self.next_block ≡ c.args.table.now.next_block = ap (λ (z : Avail). z.next_block) r ∙ c.next_block.ensures ∙ c.in-Some.ensures.next in
    let top_new : c.set_next_block-2.new.self.next_block ≡ c.in-Some.filled.block.at = ap (λ (z : Avail). z.next_block) s in
    let table_new : c.set_next_block-2.new.self.extents ≡ c.fill_block.new.table.extents = ap (λ (z : Avail). z.extents) s in
    let spells : Spells c.args.size c.set_next_block.new.self.extents c.args.table.now.next_block (take (avail_size (length c.set_next_block.new.self.extents)) c.write_block.new.buf) = rw (← top_is) c.in_ok-write_block.ensures.spells in
    let holds = c.in-Some.ensures.holds in
    let wide = c.in-Some.ensures.wide in
    let least = c.in-Some.ensures.least in
    let most = c.in-Some.ensures.most in
    let few = c.requires.most in
    let lost : c.in-Some.filled.block.size - avail_size (length c.set_next_block.new.self.extents) ≤ c.args.wide - avail_size c.args.count = omega (arith, wide, least, count) in
    let pushes : (blocks : List StackBlock) (x : File) → IsFreeSide x.bytes c.args.header.now c.args.table.now.next_block (free_lists c.args.table.now.extents blocks c.args.bucket.now.free)
    → Pushes c.args.header.now next' (free_lists c.args.table.now.extents blocks c.args.bucket.now.free) c.fill_block.new.table.extents c.fill_block.new.bucket.free c.set_next_block.new.self.extents c.in-Some.filled.block [] [] =
    λ blocks x side.
    let one = table_below c.args.header.now.next_block (free_lists c.args.table.now.extents blocks c.args.bucket.now.free) side.below in
    let two = bucket_below c.args.header.now.next_block (free_lists c.args.table.now.extents blocks c.args.bucket.now.free) side.below in
    let block = c.in-Some.ensures.block_below side.behind one two in
    let ends = block.ends in
    let below = c.in-Some.ensures.below in
    record {
      grows = omega arith;
      step = rw spare_is (c.in-Some.ensures.step one two);
      start = block.start;
      small = omega (arith, ends, below);
      room = omega (arith, holds, count);
      ends = block.ends;
      fits = block.fits;
      few = omega (arith, most, count, few);
      below = rw spare_is (c.in-Some.ensures.spare_below one two);
      given_below = tt;
      given_once = λ b. (let once = side.once b in omega (arith, once));
    }
    in
    rw (top_new, table_new)
    (by_push old new c.args.f.0 (take (avail_size (length c.set_next_block.new.self.extents)) c.write_block.new.buf) c.args.header.now c.args.size next' c.args.table.now.next_block c.args.table.now.extents c.args.bucket.now.free
    c.fill_block.new.table.extents c.fill_block.new.bucket.free c.set_next_block.new.self.extents c.in-Some.filled.block [] (c.args.wide - avail_size c.args.count)
    c.in_ok-write_block.ensures.wrote spells lost pushes)
