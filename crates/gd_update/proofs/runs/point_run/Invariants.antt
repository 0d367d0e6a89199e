use Rattle.std.proofs.Common.{◌-◌}
use Rattle.gd_update.specs.Runs.{IsPointed}
use Rattle.gd_update.specs.Loops.{IsAlong}
use Rattle.gd_update.proofs.runs.point_run.Given as goal

abbrev pub invariant-loop-done : goal.invariant-loop-done
invariant-loop-done g l = IsAlong (g.V.Vault.view_of l.fn.vault) (g.V.Vault.view_of l.vault) l.file.id l.count l.done 8 (IsPointed l.place l.done l.address)

abbrev pub decreases-loop-done : goal.decreases-loop-done
decreases-loop-done g l = l.count - l.done
