use Rattle.std.proofs.Common.{subst}
use Rattle.gd_vault.specs.Events.Call.{Remove}
use Rattle.gd_memvault.specs.Disk.{disk_content}
use Rattle.gd_memvault.specs.Image.{RunsNames}
use Rattle.gd_memvault.proofs.Running.{removed_runs}
use Rattle.gd_memvault.proofs.disk.Disk.run_remove.Goals as goal

pub returns-in-Ok : goal.returns-in-Ok
returns-in-Ok c =
    subst (λ n. RunsNames (disk_content c.args.before.now) (Remove n) c.args.self.now c.bind.new.self) c.in_ok-copied.ensures
    (removed_runs (disk_content c.args.before.now) c.in_ok-copied.field-0 c.args.self.now c.bind.new.self c.in-Ok.ensures.names c.bind.ensures.files)
