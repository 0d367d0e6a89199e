use Rattle.std.proofs.Common.{◌+◌, ◌*◌, length, ap, ◌∙◌, arith}
use Rattle.gd_layout.proofs.Pieces.{drop-more}
use Rattle.gd_layout.proofs.PutExtents.{padding_put}
use Rattle.gd_layout.proofs.PutBlocks.{head_is, avail_is, avail_right}
use Rattle.gd_layout.proofs.front.Layout+8+0.write_avail.Goals as goal

pub returns : goal.returns
returns c =
    let put = rw c.extents-2.ensures.are at c.put_extents.ensures.put in
    let back = rw c.extents-2.ensures.are at c.put_extents.ensures.back in
    let count = c.put_u32-2.ensures.reads ∙ ap length c.extents.ensures.are in
    let next = c.put_u64.ensures.reads ∙ c.next_block.ensures in
    let head =
    head_is c.put_u32.new.block c.put_u32-2.new.block c.put_u64.new.block c.put_extents.new.block c.args.size c.args.avail.now c.put_u32.ensures.reads count next c.put_u32-2.ensures.front c.put_u64.ensures.front c.put_extents.ensures.front c.requires.size c.requires.count in
    record {
      head = head;
      reads = avail_is c.put_extents.new.block c.args.size c.args.avail.now head (omega arith) put;
      right = avail_right c.put_extents.new.block c.args.size c.args.avail.now head put;
      padding = padding_put c.put_extents.new.block c.args.avail.now.extents put;
      beyond =
          back ∙ drop-more 16 (16 + 16 * length c.args.avail.now.extents) c.put_u64.new.block c.put_u32-2.new.block (omega arith) c.put_u64.ensures.back
          ∙ drop-more 8 (16 + 16 * length c.args.avail.now.extents) c.put_u32-2.new.block c.put_u32.new.block (omega arith) c.put_u32-2.ensures.back
          ∙ drop-more 4 (16 + 16 * length c.args.avail.now.extents) c.put_u32.new.block c.args.into.now (omega arith) c.put_u32.ensures.back;
    }
