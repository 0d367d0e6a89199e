use Rattle.std.proofs.Common.{◌≡◌, ap, ◌∙◌, arith}
use Rattle.std.specs.Prelude.{ℕ}
use Rattle.gd_format.specs.Field.{bytes_at}
use Rattle.gd_verify.proofs.Bucketing.{free_is_right, records_are, free_are}
use Rattle.gd_verify.proofs.buckets.read_bucket.Goals as goal

pub returns-clause-right : goal.returns-clause-right
returns-clause-right g c =
    λ file told has.
    let ends = has.ends in
    let size = c.requires.size in
    let read = c.in_ok-fill.ensures.read file told (omega (arith, ends, size)) in
    let block : c.fill.new.buf ≡ bytes_at file c.args.at c.args.header.now.block = read ∙ ap (λ (n : ℕ). bytes_at file c.args.at n) size in
    free_is_right file c.fill.new.buf c.args.header.now c.args.at block c.in-Ok-push_free.right has c.in-Ok-push_free.ensures.right

pub returns-clause-records : goal.returns-clause-records
returns-clause-records g c =
    λ file told has right.
    let ends = has.ends in
    let size = c.requires.size in
    let read = c.in_ok-fill.ensures.read file told (omega (arith, ends, size)) in
    let block : c.fill.new.buf ≡ bytes_at file c.args.at c.args.header.now.block = read ∙ ap (λ (n : ℕ). bytes_at file c.args.at n) size in
    records_are file c.fill.new.buf c.args.header.now c.args.at block c.args.records.now.items c.push_records.new.list.items c.in-Ok.ensures.held

pub returns-clause-free : goal.returns-clause-free
returns-clause-free g c =
    λ file told has right.
    let ends = has.ends in
    let size = c.requires.size in
    let read = c.in_ok-fill.ensures.read file told (omega (arith, ends, size)) in
    let block : c.fill.new.buf ≡ bytes_at file c.args.at c.args.header.now.block = read ∙ ap (λ (n : ℕ). bytes_at file c.args.at n) size in
    free_are file c.fill.new.buf c.args.header.now c.args.at block c.args.free.now.items c.push_free.new.list.items (c.in-Ok-push_free.ensures.held right)
