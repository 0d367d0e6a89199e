use Rattle.std.proofs.Common.{◌+◌, ◌*◌, ◌∙◌, arith}
use Rattle.gd_layout.proofs.Pieces.{take-front, drop-more}
use Rattle.gd_layout.proofs.PutExtents.{put_more}
use Rattle.gd_layout.proofs.writing.put_extents.Goals as goal

pub loop-e-preserved : goal.loop-e-preserved
loop-e-preserved c = record {
  put = put_more c.loop-e.block c.put_extent.new.block c.args.at c.loop-e.e c.args.extents.now _ c.loop-e-test.true c.put_extent.ensures.front c.loop-e.invariant.put c.put_extent.ensures.put;
  front =
      take-front c.args.at (c.args.at + 16 * c.loop-e.e) c.put_extent.new.block c.loop-e.block (omega arith) c.put_extent.ensures.front ∙ c.loop-e.invariant.front;
  back =
      drop-more (c.args.at + 16 * c.loop-e.e + 16) (c.args.at + 16 * (c.loop-e.e + 1)) c.put_extent.new.block c.loop-e.block (omega arith) c.put_extent.ensures.back
      ∙ drop-more (c.args.at + 16 * c.loop-e.e) (c.args.at + 16 * (c.loop-e.e + 1)) c.loop-e.block c.args.block.now (omega arith) c.loop-e.invariant.back;
}
