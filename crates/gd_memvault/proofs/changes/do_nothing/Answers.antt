use Rattle.std.proofs.Common.{rules}
use Rattle.gd_memvault.proofs.Logs.{nothing_full, nothing_idle}
use Rattle.gd_memvault.proofs.changes.do_nothing.Goals as goal

pub returns-then-has_room : goal.returns-then-has_room
returns-then-has_room c = λ d. nothing_idle c.args.log.now d c.in-Some.log c.idle.new.self c.in-Some.is (search rules) c.idle.ensures

pub returns-else-has_room : goal.returns-else-has_room
returns-else-has_room c = λ d. nothing_full c.args.log.now d c.in-Some.log c.in-Some.is (search rules)
