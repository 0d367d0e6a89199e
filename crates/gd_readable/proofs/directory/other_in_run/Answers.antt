use Rattle.std.proofs.Common.{◌≡◌, ◌+◌, Some, sym, rules}
use Rattle.gd_base.specs.declared.errors.DbError.TheVariants.{BadDirEntry}
use Rattle.gd_format.specs.File.{run_fault}
use Rattle.gd_format.proofs.Firsts.{first_below_found}
use Rattle.gd_readable.proofs.directory.other_in_run.Goals as goal

pub returns-then-entry_from-own : goal.returns-then-entry_from-own
unfolding run_fault
returns-then-entry_from-own c =
    let at : run_fault c.args.file.now c.args.header.now c.args.i c.loop-j.j ≡ Some (BadDirEntry (c.args.i + c.loop-j.j)) = search rules in
    sym (first_below_found (run_fault c.args.file.now c.args.header.now c.args.i) c.args.run c.loop-j.j (BadDirEntry (c.args.i + c.loop-j.j)) c.loop-j-test.true c.loop-j.invariant at)
