use Rattle.gd_format.specs.File.{bits_at}
use Rattle.gd_readable.proofs.Runs.{run_ends}
use Rattle.gd_readable.proofs.directory.entry_run.Goals as goal

pub other_in_run-requires-clause-within : goal.other_in_run-requires-clause-within
other_in_run-requires-clause-within c =
    let facts = c.in-Some-run_of.ensures.some in
    run_ends c.args.i c.args.header.now.dir_bits (bits_at c.block_from-block.result.now) c.in-Some-run_of.run' facts.1 c.if-i-run-ne0.false c.requires.within facts.2
