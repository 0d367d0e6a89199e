use Rattle.std.proofs.Common.{◌≡◌, ◌+◌, ◌-◌, ◌≤◌, ◌∷◌, [], ap, arith}
use Rattle.gd_format.specs.Bucket.{Bucket}
use Rattle.gd_format.specs.Avail.{Avail}
use Rattle.gd_format.specs.Sound.{extent}
use Rattle.gd_format.specs.FreeSide.{IsBelow}
use Rattle.gd_space.specs.Lists.{Step}
use Rattle.gd_space.proofs.Tooks.{took_served, took_put, took_exact, below-more}
use Rattle.gd_space.proofs.room.take_room.Goals as goal
use Rattle.gd_space.proofs.room.take_room.Goals.{then-rest-gt0+else-not-put, else-rest-gt0}

pub returns-in-Some-clause-took : goal.returns-in-Some-clause-took
returns-in-Some-clause-took c = λ below bucket_below. took_served _ _ _ _ _ _ _ c.requires.some below bucket_below (c.in-Some.ensures.cut _ (let n = c.requires.next in omega (arith, n)) below bucket_below)

pub returns-clause-took : goal.returns-clause-took
returns-clause-took c = λ below bucket_below.
    let next = c.args.header.now.next_block in
    let whole = c.whole_for-whole.result in
    let n = c.args.n in
    let holds = c.whole_for-whole.ensures.holds in
    let least = c.whole_for-whole.ensures.least in
    let large = c.requires.large in
    let t = c.from.ensures in
    let table : c.serve.new.table.extents ≡ c.args.table.now.extents = ap (λ (x : Avail). x.extents) c.in_default.ensures.same_table in
    let bucket : c.serve.new.bucket.free ≡ c.args.bucket.now.free = ap (λ (x : Bucket). x.free) c.in_default.ensures.same_bucket in
    let below_all = below-more next (next + whole) c.args.table.now.extents (omega arith) below in
    let bucket_all = below-more next (next + whole) c.args.bucket.now.free (omega arith) bucket_below in
    elim c.if-rest-gt0.branch [
      | then-rest-gt0+else-not-put w ↦
          let u = w.from-then-rest-gt0.ensures in
          let s = w.if-rest-gt0.true in
          let new : IsBelow (next + whole) (extent (next + w.from-then-rest-gt0.result) (whole - c.from.result)) = record { start = (let p = c.requires.some in omega (arith, u, p)); some = omega (arith, s); fits = omega (arith, least, large, t); ends = omega (arith, u, t, holds) } in
          let step = w.put.ensures.step w.if-not-put.false (next + whole) new (rw table below_all) (rw bucket bucket_all) in
          let at : next + w.from-then-rest-gt0.result ≡ next + n = omega (arith, u) in
          let size : whole - c.from.result ≡ whole - n = omega (arith, t) in
          let moved : Step (next + whole) c.args.table.now.extents c.args.bucket.now.free c.if-rest-gt0.table.extents c.if-rest-gt0.bucket.free (extent (next + w.from-then-rest-gt0.result) (whole - c.from.result) ∷ []) [] = rw (← table, ← bucket, w.table-is, w.bucket-is) step in
          took_put next n whole (extent (next + w.from-then-rest-gt0.result) (whole - c.from.result)) c.args.table.now.extents c.args.bucket.now.free c.if-rest-gt0.table.extents c.if-rest-gt0.bucket.free holds at size moved
      | else-rest-gt0 w ↦
          let none : whole - n ≤ 0 = (let s = w.if-rest-gt0.false in omega (arith, s, t)) in
          rw (w.table-is, w.bucket-is, table, bucket) (took_exact next n whole c.args.table.now.extents c.args.bucket.now.free holds none below bucket_below)
    ]
