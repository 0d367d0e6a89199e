use Rattle.std.proofs.Common.{◌≡◌, ◌+◌, ◌-◌, ◌∷◌, ◌++◌, [], ap, arith}
use Rattle.gd_format.specs.Bucket.{Bucket}
use Rattle.gd_format.specs.Avail.{Avail}
use Rattle.gd_format.specs.Sound.{extent}
use Rattle.gd_space.specs.Lists.{Split}
use Rattle.gd_space.proofs.Pushes.{taken_below}
use Rattle.gd_space.proofs.Fills.{fill_inside, fill_new, new_below}
use Rattle.gd_space.proofs.Tooks.{below-more}
use Rattle.gd_space.proofs.filling.fill_block.Goals as goal

pub returns-in-Some-clause-step : goal.returns-in-Some-clause-step
returns-in-Some-clause-step c = λ below bucket_below.
    let next = c.args.header.now.next_block in
    let n = c.requires.next in
    let step = c.in-Some.ensures.step next (omega (arith, n)) below bucket_below in
    fill_inside next c.in-Some.block _ _ _ _ _ _ step (c.move_last.ensures.split next step.table_below)

pub returns-in-Some-clause-spare_below : goal.returns-in-Some-clause-spare_below
returns-in-Some-clause-spare_below c = λ below bucket_below.
    let next = c.args.header.now.next_block in
    let n = c.requires.next in
    let step = c.in-Some.ensures.step next (omega (arith, n)) below bucket_below in
    below-more next (next + 0) c.move_last.new.spare.extents (omega arith) (c.move_last.ensures.split next step.table_below).two_below

pub returns-in-Some-clause-block_below : goal.returns-in-Some-clause-block_below
returns-in-Some-clause-block_below c = λ behind below bucket_below.
    let next = c.args.header.now.next_block in
    let n = c.requires.next in
    let size = c.in-Some.ensures.size in
    let wide = c.in-Some.ensures.wide in
    let block = c.requires.block in
    let large = c.requires.large in
    let here = taken_below next c.in-Some.block _ _ _ _ (omega (arith, size)) (omega (arith, wide, block, large)) below bucket_below (c.in-Some.ensures.step next (omega (arith, n)) below bucket_below) in
    let ends = here.ends in
    record { start = here.start; some = here.some; fits = here.fits; ends = omega (arith, ends) }

pub returns-clause-step : goal.returns-clause-step
returns-clause-step c = λ below bucket_below.
    let next = c.args.header.now.next_block in
    let block = c.requires.block in
    let u = c.from-2.ensures in
    let w = c.from-3.ensures in
    let table : c.place_block.new.table.extents ≡ c.args.table.now.extents = ap (λ (x : Avail). x.extents) c.in_default.ensures.same_table in
    let bucket : c.place_block.new.bucket.free ≡ c.args.bucket.now.free = ap (λ (x : Bucket). x.free) c.in_default.ensures.same_bucket in
    let split : Split next c.args.table.now.extents c.move_last-2.new.table.extents c.move_last-2.new.spare.extents = rw (← table) (c.move_last-2.ensures.split next (rw table below)) in
    let items : c.push.new.self.extents ≡ c.move_last-2.new.spare.extents ++ extent (next + c.from-2.result) (c.args.header.now.block - c.args.wide) ∷ [] = ap (λ (t : Avail). t.extents) c.push.ensures in
    rw (bucket, w) (fill_new next c.args.wide c.args.header.now.block (extent (next + c.from-2.result) (c.args.header.now.block - c.args.wide)) c.args.table.now.extents c.args.bucket.now.free c.move_last-2.new.table.extents c.move_last-2.new.spare.extents c.push.new.self.extents
    (omega (arith, block)) (omega (arith, u)) (omega arith) items bucket_below split)

pub returns-clause-spare_below : goal.returns-clause-spare_below
returns-clause-spare_below c = λ below bucket_below.
    let next = c.args.header.now.next_block in
    let block = c.requires.block in
    let large = c.requires.large in
    let wider = c.requires.wider in
    let u = c.from-2.ensures in
    let w = c.from-3.ensures in
    let table : c.place_block.new.table.extents ≡ c.args.table.now.extents = ap (λ (x : Avail). x.extents) c.in_default.ensures.same_table in
    let items : c.push.new.self.extents ≡ c.move_last-2.new.spare.extents ++ extent (next + c.from-2.result) (c.args.header.now.block - c.args.wide) ∷ [] = ap (λ (t : Avail). t.extents) c.push.ensures in
    rw w (new_below next c.args.wide c.args.header.now.block (extent (next + c.from-2.result) (c.args.header.now.block - c.args.wide)) c.move_last-2.new.spare.extents c.push.new.self.extents
    block (omega (arith, large)) (omega (arith, u)) (omega arith) (omega (arith, wider)) items (c.move_last-2.ensures.split next (rw table below)).two_below)

pub returns-clause-block_below : goal.returns-clause-block_below
returns-clause-block_below c = λ behind below bucket_below.
    let block = c.requires.block in
    let large = c.requires.large in
    let wider = c.requires.wider in
    let w = c.from-3.ensures in
    record { start = behind; some = omega (arith, wider); fits = omega (arith, block, large); ends = omega (arith, block, w) }
