use Rattle.std.proofs.Common.{◌+◌, sym, ◌∙◌, arith}
use Rattle.gd_layout.proofs.Pieces.{drop-more}
use Rattle.gd_layout.proofs.Written.{full_reads, full_right, full_front, empty_reads, empty_right}
use Rattle.gd_layout.proofs.writing.put_slot.Goals as goal

pub returns-in-Empty-clause-reads : goal.returns-in-Empty-clause-reads
returns-in-Empty-clause-reads c = empty_reads c.put_u32.new.block c.args.at c.put_u32.ensures.reads ∙ sym c.in-Empty.is

pub returns-in-Empty-clause-right : goal.returns-in-Empty-clause-right
returns-in-Empty-clause-right c = empty_right c.put_u32.new.block c.args.at c.put_u32.ensures.reads

pub returns-in-Full-clause-reads : goal.returns-in-Full-clause-reads
returns-in-Full-clause-reads c =
    let fits = rw c.in-Full.is at c.requires.fits in
    full_reads c.put_u32-in-Full.new.block c.put_four.new.block c.put_u64.new.block c.put_u32-in-Full-2.new.block c.put_u32-in-Full-3.new.block c.args.at c.in-Full.hash c.in-Full.place c.in-Full.key_size c.in-Full.value_size c.in-Full.start c.put_u32-in-Full.ensures.reads c.put_four.ensures.reads c.put_u64.ensures.reads c.put_u32-in-Full-2.ensures.reads c.put_u32-in-Full-3.ensures.reads c.put_four.ensures.front c.put_u64.ensures.front c.put_u32-in-Full-2.ensures.front c.put_u32-in-Full-3.ensures.front fits.0 fits.1 fits.2 fits.3
    ∙ sym c.in-Full.is

pub returns-in-Full-clause-right : goal.returns-in-Full-clause-right
returns-in-Full-clause-right c =
    let fits = rw c.in-Full.is at c.requires.fits in
    full_right c.put_u32-in-Full.new.block c.put_four.new.block c.put_u64.new.block c.put_u32-in-Full-2.new.block c.put_u32-in-Full-3.new.block c.args.at c.in-Full.hash c.in-Full.place c.in-Full.key_size c.in-Full.value_size c.in-Full.start c.put_u32-in-Full.ensures.reads c.put_four.ensures.reads c.put_u64.ensures.reads c.put_u32-in-Full-2.ensures.reads c.put_u32-in-Full-3.ensures.reads c.put_four.ensures.front c.put_u64.ensures.front c.put_u32-in-Full-2.ensures.front c.put_u32-in-Full-3.ensures.front fits.0 fits.1 fits.2 fits.3

pub returns-in-Full-clause-front : goal.returns-in-Full-clause-front
returns-in-Full-clause-front c =
    let fits = rw c.in-Full.is at c.requires.fits in
    full_front c.put_u32-in-Full.new.block c.put_four.new.block c.put_u64.new.block c.put_u32-in-Full-2.new.block c.put_u32-in-Full-3.new.block c.args.at c.in-Full.hash c.in-Full.place c.in-Full.key_size c.in-Full.value_size c.in-Full.start c.put_u32-in-Full.ensures.reads c.put_four.ensures.reads c.put_u64.ensures.reads c.put_u32-in-Full-2.ensures.reads c.put_u32-in-Full-3.ensures.reads c.put_four.ensures.front c.put_u64.ensures.front c.put_u32-in-Full-2.ensures.front c.put_u32-in-Full-3.ensures.front fits.0 fits.1 fits.2 fits.3 c.args.block.now c.put_u32-in-Full.ensures.front

pub returns-in-Empty-clause-back : goal.returns-in-Empty-clause-back
returns-in-Empty-clause-back c = drop-more (c.args.at + 4) (c.args.at + 24) c.put_u32.new.block c.args.block.now (omega arith) c.put_u32.ensures.back

pub returns-in-Empty-clause-empty : goal.returns-in-Empty-clause-empty
returns-in-Empty-clause-empty c = λ _. c.put_u32.ensures.back

pub returns-in-Full-clause-back : goal.returns-in-Full-clause-back
returns-in-Full-clause-back c =
    drop-more (c.args.at + 20 + 4) (c.args.at + 24) c.put_u32-in-Full-3.new.block c.put_u32-in-Full-2.new.block (omega arith) c.put_u32-in-Full-3.ensures.back
    ∙ drop-more (c.args.at + 16 + 4) (c.args.at + 24) c.put_u32-in-Full-2.new.block c.put_u64.new.block (omega arith) c.put_u32-in-Full-2.ensures.back
    ∙ drop-more (c.args.at + 8 + 8) (c.args.at + 24) c.put_u64.new.block c.put_four.new.block (omega arith) c.put_u64.ensures.back
    ∙ drop-more (c.args.at + 4 + 4) (c.args.at + 24) c.put_four.new.block c.put_u32-in-Full.new.block (omega arith) c.put_four.ensures.back
    ∙ drop-more (c.args.at + 4) (c.args.at + 24) c.put_u32-in-Full.new.block c.args.block.now (omega arith) c.put_u32-in-Full.ensures.back
