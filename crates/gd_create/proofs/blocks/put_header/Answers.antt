use Rattle.std.proofs.Common.{◌≡◌, [], length, ap, ◌∙◌, arith}
use Rattle.gd_create.specs.NewFile.{zeros}
use Rattle.gd_create.proofs.Powers.{bounds}
use Rattle.gd_create.proofs.Begins.{begin, has_fields, header_whole, words_begun}
use Rattle.gd_create.proofs.blocks.put_header.Goals as goal

pub returns : goal.returns
returns c =
    let h = c.args.header.now in
    let f = has_fields c.args.header.now c.requires.new.fields in
    let low = (bounds c.args.header.now.block c.args.header.now.dir_bits c.requires.new.sizes).least in
    let length_8 : length c.put_u64-2.new.block ≡ c.args.header.now.block =
    c.put_u64-2.auto.block ∙ c.put_u32-6.auto.block ∙ c.put_u32-5.auto.block ∙ c.put_u32-4.auto.block ∙ c.put_u32-3.auto.block ∙ c.put_u64.auto.block ∙ c.put_u32-2.auto.block ∙ c.put_u32.auto.block ∙ c.fill.ensures.len ∙ c.requires.length in
    let long : length c.put_u32-7.new.block ≡ c.args.header.now.block = c.put_u32-7.auto.block ∙ length_8 in
    let b0 = begin c.fill.new.self c.args.header.now.block (c.fill.ensures.after (λ y e. e) ∙ ap zeros c.requires.length) in
    let b4 = c.put_u32-3.ensures _ (c.put_u64.ensures _ (c.put_u32-2.ensures _ (c.put_u32.ensures [] b0))) in
    let b8 = c.put_u64-2.ensures _ (c.put_u32-6.ensures _ (c.put_u32-5.ensures _ (c.put_u32-4.ensures _ b4))) in
    let words = words_begun c.args.header.now.format _ c.put_u64-2.new.block (omega (arith, length_8, low)) b8 in
    let b9 = c.put_u32-7.ensures _ (rw (← c.place_of_table.ensures) at words) in
    header_whole c.args.header.now.format c.args.header.now.block c.args.header.now.dir_bits c.args.header.now.magic c.args.header.now.dir c.dir_size.result c.args.header.now.elems c.args.header.now.next_block c.args.header.now.avail_size c.place_of_table.result c.put_u32-7.new.block f.magic f.dir c.dir_size.ensures f.elems f.next f.table c.place_of_table.ensures long b9
