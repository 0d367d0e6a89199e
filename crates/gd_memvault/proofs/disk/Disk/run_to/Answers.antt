use Rattle.std.proofs.Common.{◌∙◌, ap, subst}
use Rattle.gd_vault.specs.Events.Call.{Replace}
use Rattle.gd_memvault.specs.Disk.{disk_content, names_of}
use Rattle.gd_memvault.specs.Image.{RunsNames}
use Rattle.gd_memvault.proofs.Running.{to_runs}
use Rattle.gd_memvault.proofs.disk.Disk.run_to.Goals as goal

pub returns-in-Ok : goal.returns-in-Ok
returns-in-Ok c =
    subst (λ n. RunsNames (disk_content c.args.before.now) (Replace c.args.from.now n) c.args.self.now c.bind.new.self) c.in_ok-copied.ensures
    (to_runs (disk_content c.args.before.now) c.args.from.now c.in_ok-copied.field-0 c.find-id.result c.args.self.now c.bind.new.self c.in-Ok.ensures.names c.bind.ensures.files (c.find-id.ensures ∙ ap (names_of c.args.before.now.names) c.as_slice.ensures))
