use Rattle.std.proofs.Common.{arith}
use Rattle.gd_readable.proofs.Left.{bucket_left, walk_bucket, header_of_walk, dir_of_walk}
use Rattle.gd_readable.proofs.Runs.{run_range}
use Rattle.gd_readable.proofs.records.next_bucket.Goals as goal

pub next_first-requires-clause-header : goal.next_first-requires-clause-header
next_first-requires-clause-header c = header_of_walk c.args.file.now c.args.header.now c.args.entry c.args.block.now c.args.slot c.requires

pub bucket_of-requires-clause-header : goal.bucket_of-requires-clause-header
bucket_of-requires-clause-header c = header_of_walk c.args.file.now c.args.header.now c.args.entry c.args.block.now c.args.slot c.requires

pub overflow_add-result : goal.overflow_add-result
overflow_add-result c =
    let head = header_of_walk c.args.file.now c.args.header.now c.args.entry c.args.block.now c.args.slot c.requires in
    let range = run_range c.args.header.now.dir_bits head.bits in
    let found = c.in-Some.ensures.some in
    let below = found.1 in
    omega (arith, range, below)

pub next_first-requires-clause-readable : goal.next_first-requires-clause-readable
next_first-requires-clause-readable c = dir_of_walk c.args.file.now c.args.header.now c.args.entry c.args.block.now c.args.slot c.requires

pub bucket_of-requires-clause-readable : goal.bucket_of-requires-clause-readable
bucket_of-requires-clause-readable c = dir_of_walk c.args.file.now c.args.header.now c.args.entry c.args.block.now c.args.slot c.requires

pub returns-clause-some : goal.returns-clause-some
returns-clause-some c =
    let found = c.in-Some.ensures.some in
    let low = found.0 in
    let file = c.args.file.now in
    let h = c.args.header.now in
    let block = c.args.block.now in
    let w = c.requires in (
      bucket_left file h c.args.entry block c.args.slot w c.in-Some.i c.bucket_of.result.now found.2 c.bucket_of.ensures.block,
      walk_bucket file h c.args.entry block c.args.slot w c.in-Some.i c.bucket_of.result.now found.1 c.bucket_of.ensures.block,
      omega arith,
    )
