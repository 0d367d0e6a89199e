use Rattle.std.proofs.Common.{◌≡◌, ◌*◌, ◌^◌, length, ◌∙◌, arith}
use Rattle.byteorder.specs.Endian.{little_bytes}
use Rattle.gd_create.specs.NewFile.{repeated}
use Rattle.gd_create.proofs.Begins.{begin, dir_whole, entry_more}
use Rattle.gd_create.proofs.blocks.put_directory.Goals as goal

pub loop-i-init : goal.loop-i-init
loop-i-init c = begin c.fill.new.self (length c.args.block.now) (c.fill.ensures.after (λ y e. e))

pub loop-i-preserved : goal.loop-i-preserved
loop-i-preserved c =
    let b = c.put_u64.ensures (repeated c.loop-i.i (little_bytes 8 (2 * c.args.header.now.block))) c.loop-i.invariant in
    entry_more (little_bytes 8 (2 * c.args.header.now.block)) c.put_u64.new.block c.loop-i.i (rw c.from.ensures at b)

pub returns : goal.returns
returns c =
    let n = c.entries_of-i-end.ensures in
    let end : c.loop-i.i ≡ 2 ^ c.args.header.now.dir_bits = omega (arith, n) in
    dir_whole c.args.header.now.block c.args.header.now.dir_bits c.loop-i.block c.requires.new.sizes.size (c.loop-i.auto.block ∙ c.fill.ensures.len ∙ c.requires.length) (rw end at c.loop-i.invariant)
