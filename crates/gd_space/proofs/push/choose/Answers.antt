use Rattle.std.proofs.Common.{◌≡◌, ◌+◌, ◌-◌, ◌*◌, ◌<◌, ◌^◌, ℕ, ap, arith}
use Rattle.gd_format.specs.Bucket.{Bucket}
use Rattle.gd_format.specs.Avail.{Avail}
use Rattle.gd_format.specs.Sound.{extent}
use Rattle.gd_space.proofs.Pushes.{chosen_inside, chosen_new, taken_below}
use Rattle.gd_space.proofs.push.choose.Goals as goal

pub returns-in-Some-clause-step : goal.returns-in-Some-clause-step
returns-in-Some-clause-step c = λ below bucket_below.
    let next = c.args.header.now.next_block in
    let whole = c.whole_for-whole.result in
    let holds = c.whole_for-whole.ensures.holds in
    let t = c.from.ensures in
    let u = c.from-2.ensures in
    let fits : next < 2 ^ 63 = (let n = c.requires.next in omega (arith, n)) in
    chosen_inside next c.args.n whole c.in-Some.block (extent (next + c.from-2.result) (whole - c.from.result)) _ _ _ _ holds (omega (arith, u)) (omega (arith, t)) (c.in-Some.ensures.step next fits below bucket_below)

pub returns-in-Some-clause-block_below : goal.returns-in-Some-clause-block_below
returns-in-Some-clause-block_below c = λ below bucket_below.
    let next = c.args.header.now.next_block in
    let whole = c.whole_for-whole.result in
    let n = c.requires.next in
    let size = c.in-Some.ensures.size in
    let wide = c.in-Some.ensures.wide in
    let cap = c.requires.capacity in
    let large = c.requires.large in
    let here = taken_below next c.in-Some.block _ _ _ _ (omega (arith, size)) (omega (arith, wide, cap, large)) below bucket_below (c.in-Some.ensures.step next (omega (arith, n)) below bucket_below) in
    let ends = here.ends in
    record { start = here.start; some = here.some; fits = here.fits; ends = omega (arith, ends) }

pub returns-clause-step : goal.returns-clause-step
returns-clause-step c = λ below bucket_below.
    let next = c.args.header.now.next_block in
    let block = c.args.header.now.block in
    let wide : ℕ = 8 * c.args.header.now.avail_size + 32 in
    let whole = c.whole_for-whole.result in
    let holds = c.whole_for-whole.ensures.holds in
    let t = c.from.ensures in
    let u = c.from-2.ensures in
    let v = c.from-3.ensures in
    let w = c.from-4.ensures in
    let cap = c.requires.capacity in
    let least = c.requires.block in
    let table : c.place_block.new.table.extents ≡ c.args.table.now.extents = ap (λ (x : Avail). x.extents) c.in_default.ensures.same_table in
    let bucket : c.place_block.new.bucket.free ≡ c.args.bucket.now.free = ap (λ (x : Bucket). x.free) c.in_default.ensures.same_bucket in
    rw (table, bucket, w, u, v, t) (chosen_new next c.args.n (8 * c.args.header.now.avail_size + 32) (whole + block)
    (extent (next + c.args.n + (8 * c.args.header.now.avail_size + 32)) (whole - c.args.n + block - (8 * c.args.header.now.avail_size + 32)))
    c.args.table.now.extents c.args.bucket.now.free (omega (arith, cap, least, holds)) (omega arith) (omega (arith, holds, cap, least)) below bucket_below)
