use Rattle.std.proofs.Common.{◌-◌}
use Rattle.gd_update.proofs.Ways.{IsOnWay}
use Rattle.gd_update.proofs.growing.grow.Given as goal

abbrev pub invariant-loop-file : goal.invariant-loop-file
invariant-loop-file g l = IsOnWay (g.V.Vault.view_of l.fn.vault) (g.V.Vault.view_of l.vault) l.fn.file l.file l.hash l.at l.fn.bucket l.bucket l.first l.second

abbrev pub decreases-loop-file : goal.decreases-loop-file
decreases-loop-file g l = 24 - l.bucket.bits
