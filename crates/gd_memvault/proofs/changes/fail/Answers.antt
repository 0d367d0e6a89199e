use Rattle.std.proofs.Common.{refl}
use Rattle.gd_memvault.specs.Disk.{call_of}
use Rattle.gd_memvault.proofs.Logs.{may_stay}
use Rattle.gd_memvault.proofs.changes.fail.Goals as goal

pub keep-requires-clause-effect : goal.keep-requires-clause-effect
keep-requires-clause-effect c = may_stay (call_of c.args.step) _ c.args.same c.args.same c.requires.same refl
