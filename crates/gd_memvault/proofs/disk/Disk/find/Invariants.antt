use Rattle.std.proofs.Common.{◌≡◌, take}
use Rattle.gd_memvault.specs.Disk.{names_of}
use Rattle.gd_memvault.proofs.disk.Disk.find.Given as goal

abbrev pub invariant-loop-entry : goal.invariant-loop-entry
invariant-loop-entry l = l.found ≡ names_of (take l.entry-index l.entry-items) l.name
