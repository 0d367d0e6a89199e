use Rattle.std.proofs.Common.{◌^◌, ◌<◌, ◌≤◌, ◌∙◌, arith}
use Rattle.std.proofs.Math.Pow.{pow_mono}
use Rattle.gd_format.specs.HeaderFault.{dir_size_of}
use Rattle.gd_layout.proofs.PutFields.{fields_are, back_fields}
use Rattle.gd_layout.proofs.front.put_fields.Goals as goal

pub returns : goal.returns
returns c =
    let fits = c.requires.fits in
    let bits = fits.bits in
    let h = c.args.header.now in
    let small : 2 ^ c.args.header.now.dir_bits ≤ 2 ^ 27 = pow_mono {i = c.args.header.now.dir_bits} {j = 27} (omega (arith, bits)) in
    let size : dir_size_of c.args.header.now.dir_bits < 2 ^ 31 = omega (arith, small) in
    let dir = c.put_u32-3.ensures.reads ∙ c.dir_size.ensures in
    record {
      reads =
          fields_are c.args.block.now c.put_u32.new.block c.put_u32-2.new.block c.put_u64.new.block c.put_u32-3.new.block c.put_u32-4.new.block c.put_u32-5.new.block c.put_u32-6.new.block c.put_u64-2.new.block _ c.put_u32.ensures.reads c.put_u32.ensures.front c.put_u32.ensures.back _ c.put_u32-2.ensures.reads c.put_u32-2.ensures.front c.put_u32-2.ensures.back _ c.put_u64.ensures.reads c.put_u64.ensures.front c.put_u64.ensures.back (dir_size_of c.args.header.now.dir_bits) dir c.put_u32-3.ensures.front c.put_u32-3.ensures.back _ c.put_u32-4.ensures.reads c.put_u32-4.ensures.front c.put_u32-4.ensures.back _ c.put_u32-5.ensures.reads c.put_u32-5.ensures.front c.put_u32-5.ensures.back _ c.put_u32-6.ensures.reads c.put_u32-6.ensures.front c.put_u32-6.ensures.back _ c.put_u64-2.ensures.reads c.put_u64-2.ensures.front c.put_u64-2.ensures.back
          fits.block fits.dir size (omega (arith, bits)) fits.block fits.elems fits.next_block;
      back = back_fields c.args.block.now c.put_u32.new.block c.put_u32-2.new.block c.put_u64.new.block c.put_u32-3.new.block c.put_u32-4.new.block c.put_u32-5.new.block c.put_u32-6.new.block c.put_u64-2.new.block _ c.put_u32.ensures.reads c.put_u32.ensures.front c.put_u32.ensures.back _ c.put_u32-2.ensures.reads c.put_u32-2.ensures.front c.put_u32-2.ensures.back _ c.put_u64.ensures.reads c.put_u64.ensures.front c.put_u64.ensures.back _ c.put_u32-3.ensures.reads c.put_u32-3.ensures.front c.put_u32-3.ensures.back _ c.put_u32-4.ensures.reads c.put_u32-4.ensures.front c.put_u32-4.ensures.back _ c.put_u32-5.ensures.reads c.put_u32-5.ensures.front c.put_u32-5.ensures.back _ c.put_u32-6.ensures.reads c.put_u32-6.ensures.front c.put_u32-6.ensures.back _ c.put_u64-2.ensures.reads c.put_u64-2.ensures.front c.put_u64-2.ensures.back;
    }
