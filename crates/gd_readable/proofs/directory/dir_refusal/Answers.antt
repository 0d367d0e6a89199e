use Rattle.std.proofs.Common.{◌≡◌, ◌^◌, Some, arith}
use Rattle.gd_format.specs.File.{dir_fault, entry_fault}
use Rattle.gd_readable.proofs.Steps.{walk_stops}
use Rattle.gd_readable.proofs.Runs.{run_range}
use Rattle.gd_readable.proofs.directory.dir_refusal.Goals as goal

pub returns-in-Err : goal.returns-in-Err
returns-in-Err c =
    let whole = run_range c.args.header.now.dir_bits c.requires.bits in
    let fault : entry_fault c.args.file.now c.args.header.now c.runs.i ≡ Some c.in-Err.e = rw c.in-Err.is at c.in_ok-run.ensures.refused in
    walk_stops c.args.file.now c.args.header.now (2 ^ c.args.header.now.dir_bits) c.runs.i (dir_fault c.args.file.now c.args.header.now) c.in-Err.e
    c.runs.invariant.rest (omega (arith, whole.0, c.runs-test.true)) fault
