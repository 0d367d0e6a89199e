use Rattle.std.proofs.Common.{◌≡◌, length, drop, refl, ap, rules}
use Rattle.gd_format.specs.HeaderFault.{table_place}
use Rattle.gd_layout.proofs.PutWords.{words_are, front_words, back_words, six}
use Rattle.gd_layout.proofs.front.put_words.Goals as goal

pub returns-clause-reads : goal.returns-clause-reads
returns-clause-reads c = λ numsync.
    let len : length c.args.header.now.reserved ≡ 6 = search rules in
    words_are c.args.block.now c.put_u32.new.block c.put_u32-2.new.block c.put_u32-3.new.block c.put_u32-4.new.block c.put_u32-5.new.block c.put_u32-6.new.block c.put_u32-7.new.block c.put_u32-8.new.block _ c.put_u32.ensures.reads c.put_u32.ensures.front c.put_u32.ensures.back _ c.put_u32-2.ensures.reads c.put_u32-2.ensures.front c.put_u32-2.ensures.back _ c.put_u32-3.ensures.reads c.put_u32-3.ensures.front c.put_u32-3.ensures.back _ c.put_u32-4.ensures.reads c.put_u32-4.ensures.front c.put_u32-4.ensures.back _ c.put_u32-5.ensures.reads c.put_u32-5.ensures.front c.put_u32-5.ensures.back _ c.put_u32-6.ensures.reads c.put_u32-6.ensures.front c.put_u32-6.ensures.back _ c.put_u32-7.ensures.reads c.put_u32-7.ensures.front c.put_u32-7.ensures.back _ c.put_u32-8.ensures.reads c.put_u32-8.ensures.front c.put_u32-8.ensures.back
    c.args.header.now refl refl (six c.args.header.now.reserved len)

pub returns-clause-front : goal.returns-clause-front
returns-clause-front c =
    front_words c.args.block.now c.put_u32.new.block c.put_u32-2.new.block c.put_u32-3.new.block c.put_u32-4.new.block c.put_u32-5.new.block c.put_u32-6.new.block c.put_u32-7.new.block c.put_u32-8.new.block _ c.put_u32.ensures.reads c.put_u32.ensures.front c.put_u32.ensures.back _ c.put_u32-2.ensures.reads c.put_u32-2.ensures.front c.put_u32-2.ensures.back _ c.put_u32-3.ensures.reads c.put_u32-3.ensures.front c.put_u32-3.ensures.back _ c.put_u32-4.ensures.reads c.put_u32-4.ensures.front c.put_u32-4.ensures.back _ c.put_u32-5.ensures.reads c.put_u32-5.ensures.front c.put_u32-5.ensures.back _ c.put_u32-6.ensures.reads c.put_u32-6.ensures.front c.put_u32-6.ensures.back _ c.put_u32-7.ensures.reads c.put_u32-7.ensures.front c.put_u32-7.ensures.back _ c.put_u32-8.ensures.reads c.put_u32-8.ensures.front c.put_u32-8.ensures.back

pub returns-clause-back : goal.returns-clause-back
returns-clause-back c =
    let back : drop 72 c.put_u32-8.new.block ≡ drop 72 c.args.block.now =
    back_words c.args.block.now c.put_u32.new.block c.put_u32-2.new.block c.put_u32-3.new.block c.put_u32-4.new.block c.put_u32-5.new.block c.put_u32-6.new.block c.put_u32-7.new.block c.put_u32-8.new.block _ c.put_u32.ensures.reads c.put_u32.ensures.front c.put_u32.ensures.back _ c.put_u32-2.ensures.reads c.put_u32-2.ensures.front c.put_u32-2.ensures.back _ c.put_u32-3.ensures.reads c.put_u32-3.ensures.front c.put_u32-3.ensures.back _ c.put_u32-4.ensures.reads c.put_u32-4.ensures.front c.put_u32-4.ensures.back _ c.put_u32-5.ensures.reads c.put_u32-5.ensures.front c.put_u32-5.ensures.back _ c.put_u32-6.ensures.reads c.put_u32-6.ensures.front c.put_u32-6.ensures.back _ c.put_u32-7.ensures.reads c.put_u32-7.ensures.front c.put_u32-7.ensures.back _ c.put_u32-8.ensures.reads c.put_u32-8.ensures.front c.put_u32-8.ensures.back in
    let place : table_place c.args.header.now.magic ≡ 72 = ap table_place c.if-header-ne324508369.false in
    rw place back
