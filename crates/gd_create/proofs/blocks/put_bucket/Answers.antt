use Rattle.std.proofs.Common.{◌≡◌, ◌*◌, ℕ, [], length, ap, ◌∙◌, arith}
use Rattle.gd_create.specs.NewFile.{zeros}
use Rattle.gd_create.proofs.Powers.{bounds}
use Rattle.gd_create.proofs.Begins.{begin, has_fields, head_begun, bucket_whole}
use Rattle.gd_create.proofs.blocks.put_bucket.Goals as goal

pub put_slots-requires : goal.put_slots-requires
put_slots-requires c =
    let f = has_fields c.args.header.now c.requires.new.fields in
    let elems = f.elems in
    let low = (bounds c.args.header.now.block c.args.header.now.dir_bits c.requires.new.sizes).least in
    let long : length c.put_u32-4.new.block ≡ c.args.header.now.block = c.put_u32-4.auto.block ∙ c.put_u32-3.auto.block ∙ c.put_u64.auto.block ∙ c.put_u32-2.auto.block ∙ c.put_u32.auto.block ∙ c.fill.ensures.len ∙ c.requires.length in
    omega (arith, long, elems, low)

pub returns : goal.returns
returns c =
    let f = has_fields c.args.header.now c.requires.new.fields in
    let low = (bounds c.args.header.now.block c.args.header.now.dir_bits c.requires.new.sizes).least in
    let l1 : length c.put_u32.new.block ≡ c.args.header.now.block = c.put_u32.auto.block ∙ c.fill.ensures.len ∙ c.requires.length in
    let l2 : length c.put_u32-2.new.block ≡ c.args.header.now.block = c.put_u32-2.auto.block ∙ l1 in
    let l3 : length c.put_u64.new.block ≡ c.args.header.now.block = c.put_u64.auto.block ∙ l2 in
    let long : length c.put_slots.new.block ≡ c.args.header.now.block = c.put_slots.auto.block ∙ c.put_u32-4.auto.block ∙ c.put_u32-3.auto.block ∙ l3 in
    let b0 = begin c.fill.new.self c.args.header.now.block (c.fill.ensures.after (λ y e. e) ∙ ap zeros c.requires.length) in
    let d : 3 * c.from.result ≡ 3 * c.args.header.now.block = ap (λ (n : ℕ). 3 * n) c.from.ensures in
    let head = head_begun c.args.header.now.block (3 * c.from.result) c.put_u32.new.block c.put_u32-2.new.block c.put_u64.new.block c.put_u32-3.new.block c.put_u32-4.new.block d (omega (arith, l1, low)) (omega (arith, l2, low)) (omega (arith, l3, low))
    (c.put_u32.ensures [] b0) c.put_u32-2.ensures c.put_u64.ensures c.put_u32-3.ensures c.put_u32-4.ensures in
    bucket_whole c.args.header.now.block c.args.header.now.elems c.put_slots.new.block f.elems long (c.put_slots.ensures _ head)
