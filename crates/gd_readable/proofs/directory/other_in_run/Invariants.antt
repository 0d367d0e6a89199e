use Rattle.std.proofs.Common.{◌≡◌, None}
use Rattle.gd_format.specs.First.{first_below}
use Rattle.gd_format.specs.File.{run_fault}
use Rattle.gd_readable.proofs.directory.other_in_run.Given as goal

abbrev pub invariant-loop-j : goal.invariant-loop-j
invariant-loop-j l = first_below l.j (run_fault l.file l.header l.i) ≡ None
