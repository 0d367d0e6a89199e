use Rattle.std.proofs.Common.{◌≡◌, ◌+◌, ◌∙◌, arith}
use Rattle.gd_layout.proofs.Pieces.{take-front, drop-more}
use Rattle.gd_layout.proofs.PutExtents.{extent_put}
use Rattle.gd_layout.proofs.writing.put_extent.Goals as goal

pub returns-clause-put : goal.returns-clause-put
returns-clause-put c =
    extent_put c.put_u32.new.block c.put_u32-2.new.block c.put_u64.new.block c.args.at c.args.extent.now.size c.args.extent.now.at c.put_u32.ensures.reads c.put_u32-2.ensures.reads c.put_u64.ensures.reads c.put_u32-2.ensures.front c.put_u64.ensures.front (omega arith) (omega arith)

pub returns-clause-front : goal.returns-clause-front
returns-clause-front c =
    take-front c.args.at (c.args.at + 8) c.put_u64.new.block c.put_u32-2.new.block (omega arith) c.put_u64.ensures.front
    ∙ take-front c.args.at (c.args.at + 4) c.put_u32-2.new.block c.put_u32.new.block (omega arith) c.put_u32-2.ensures.front ∙ c.put_u32.ensures.front

pub returns-clause-back : goal.returns-clause-back
returns-clause-back c =
    let sixteen : c.args.at + 8 + 8 ≡ c.args.at + 16 = omega arith in
    rw (← sixteen) (c.put_u64.ensures.back ∙ drop-more (c.args.at + 4 + 4) (c.args.at + 8 + 8) c.put_u32-2.new.block c.put_u32.new.block (omega arith) c.put_u32-2.ensures.back
    ∙ drop-more (c.args.at + 4) (c.args.at + 8 + 8) c.put_u32.new.block c.args.block.now (omega arith) c.put_u32.ensures.back)
