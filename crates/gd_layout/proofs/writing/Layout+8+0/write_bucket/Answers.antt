use Rattle.std.proofs.Common.{◌≡◌, ◌≤◌, length, ap, ◌∙◌, arith}
use Rattle.gd_format.specs.Field.{u32_at}
use Rattle.gd_layout.proofs.Pieces.{u32_at-front}
use Rattle.gd_layout.proofs.Written.{bucket_reads, bucket_right, count_right, free_put}
use Rattle.gd_layout.proofs.Zeros.{has_zeros}
use Rattle.gd_layout.proofs.writing.Layout+8+0.write_bucket.Goals as goal

pub returns : goal.returns
returns c =
    let first : u32_at c.put_extents.new.block 0 ≡ length c.args.bucket.now.free =
    u32_at-front 0 8 c.put_extents.new.block c.put_u32.new.block (omega arith) c.put_extents.ensures.front ∙ c.put_u32.ensures.reads ∙ ap length c.free.ensures.are in
    let few : length c.args.bucket.now.free ≤ 6 = rw c.free.ensures.are at c.free.ensures.most in
    let some = rw c.slots.ensures.are at c.full_count.ensures.most in
    let free = free_put c.put_extents.new.block c.args.bucket.now.free (rw c.free-2.ensures.are at c.put_extents.ensures.put) in
    let slots = rw c.slots-2.ensures.are at c.put_slots.ensures.reads in
    let put = rw c.free-2.ensures.are at c.put_extents.ensures.put in
    let back = rw c.free-2.ensures.are at c.put_extents.ensures.back in
    record {
      zeros = has_zeros c.fill.new.self c.put_u32.new.block c.put_extents.new.block c.put_u32-2.new.block c.put_u32-3.new.block c.put_slots.new.block _ c.args.bucket.now few (c.fill.ensures.after (λ y e. e)) c.put_u32.ensures.back c.put_extents.ensures.front back c.put_u32-2.ensures.front c.put_u32-2.ensures.back c.put_u32-3.ensures.front c.put_u32-3.ensures.back c.put_slots.ensures.front (rw c.slots-2.ensures.are at c.put_slots.ensures.back) put (rw c.slots-2.ensures.are at c.put_slots.ensures.empty);
      reads = bucket_reads c.put_extents.new.block c.put_u32-2.new.block c.put_u32-3.new.block c.put_slots.new.block (length c.args.bucket.now.slots) c.args.bucket.now.bits c.full_count.result c.args.bucket.now.free c.args.bucket.now.slots first free (c.put_u32-2.ensures.reads ∙ c.bits.ensures.is) c.put_u32-3.ensures.reads c.put_u32-2.ensures.front c.put_u32-3.ensures.front c.put_slots.ensures.front few (rw c.bits.ensures.is at c.bits.ensures.most) (omega (arith, some)) slots (rw c.slots-2.ensures.are at c.put_slots.ensures.right) (rw c.slots.ensures.are at c.full_count.ensures.is);
      right = bucket_right c.put_extents.new.block c.put_u32-2.new.block c.put_u32-3.new.block c.put_slots.new.block (length c.args.bucket.now.slots) c.args.bucket.now.bits c.full_count.result c.args.bucket.now.free c.args.bucket.now.slots first free (c.put_u32-2.ensures.reads ∙ c.bits.ensures.is) c.put_u32-3.ensures.reads c.put_u32-2.ensures.front c.put_u32-3.ensures.front c.put_slots.ensures.front few (rw c.bits.ensures.is at c.bits.ensures.most) (omega (arith, some)) slots (rw c.slots-2.ensures.are at c.put_slots.ensures.right) (rw c.slots.ensures.are at c.full_count.ensures.is);
      count = count_right c.put_extents.new.block c.put_u32-2.new.block c.put_u32-3.new.block c.put_slots.new.block (length c.args.bucket.now.slots) c.args.bucket.now.bits c.full_count.result c.args.bucket.now.free c.args.bucket.now.slots first free (c.put_u32-2.ensures.reads ∙ c.bits.ensures.is) c.put_u32-3.ensures.reads c.put_u32-2.ensures.front c.put_u32-3.ensures.front c.put_slots.ensures.front few (rw c.bits.ensures.is at c.bits.ensures.most) (omega (arith, some)) slots (rw c.slots-2.ensures.are at c.put_slots.ensures.right) (rw c.slots.ensures.are at c.full_count.ensures.is);
    }
