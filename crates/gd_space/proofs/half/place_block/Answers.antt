use Rattle.std.proofs.Common.{◌≡◌, ap}
use Rattle.gd_format.specs.Bucket.{Bucket}
use Rattle.gd_format.specs.Avail.{Avail}
use Rattle.gd_space.proofs.half.place_block.Goals as goal

pub returns-in-Some-clause-step : goal.returns-in-Some-clause-step
returns-in-Some-clause-step c = λ next lt below bucket_below. (c.in-Some.ensures.cut next lt below bucket_below).step

pub returns-clause-step : goal.returns-clause-step
returns-clause-step c = λ next lt below bucket_below.
    let table : c.serve.new.table.extents ≡ c.args.table.now.extents = ap (λ (x : Avail). x.extents) c.in_default.ensures.same_table in
    let bucket : c.serve.new.bucket.free ≡ c.args.bucket.now.free = ap (λ (x : Bucket). x.free) c.in_default.ensures.same_bucket in
    rw (← table, ← bucket) (c.in_ok-e.ensures.step next lt (rw table below) (rw bucket bucket_below))
