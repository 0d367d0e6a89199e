use Rattle.std.proofs.Common.{◌∙◌, ap₂, subst, sym}
use Rattle.std.specs.Str.{bytes_eq}
use Rattle.gd_vault.specs.Events.Call.{Replace}
use Rattle.gd_memvault.specs.Disk.{disk_content}
use Rattle.gd_memvault.specs.Image.{RunsNames}
use Rattle.gd_memvault.proofs.Names.{differ}
use Rattle.gd_memvault.proofs.Running.{from_runs}
use Rattle.gd_memvault.proofs.disk.Disk.run_from.Goals as goal

pub returns-in-Ok : goal.returns-in-Ok
returns-in-Ok c =
    let ne = differ c.args.from.now c.args.to.now c.eq.result (c.eq.ensures ∙ ap₂ bytes_eq c.as_slice.ensures c.as_slice-else-next-eq0.ensures) c.if-eq.false in
    subst (λ n. RunsNames (disk_content c.args.before.now) (Replace n c.args.to.now) c.args.self.now c.bind.new.self) c.in_ok-copied.ensures
    (from_runs (disk_content c.args.before.now) c.in_ok-copied.field-0 c.args.to.now c.args.self.now c.bind.new.self (λ e. ne (sym c.in_ok-copied.ensures ∙ e)) c.in-Ok.ensures.names c.bind.ensures.files)
