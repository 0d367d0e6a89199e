use Rattle.std.proofs.Common.{ap, ap₂, sym, subst}
use Rattle.gd_vault.specs.Views.Told.{Records}
use Rattle.gd_vault.specs.Lawful.{IsLawful}
use Rattle.gd_memvault.specs.Disk.{disk_content}
use Rattle.gd_memvault.specs.Log.{events_of}
use Rattle.gd_memvault.specs.LogData.{LogData}
use Rattle.gd_memvault.proofs.Candidates.{image_proper}
use Rattle.gd_memvault.proofs.memory.MemVault.image_at.Goals as goal

pub invariant_of-result : goal.invariant_of-result
invariant_of-result c =
    let d = c.in_ok-disk.disk in
    subst (λ (l : LogData). IsLawful (disk_content d) (events_of (disk_content d) l)) (sym c.new.ensures) (image_proper c.args.self.now c.args.t d c.requires c.in_ok-disk.ensures.left)

pub returns-clause-quiet : goal.returns-clause-quiet
returns-clause-quiet c = λ quiet first es told.
    let d = c.in_ok-disk.disk in
    ap₂ Records (c.in_ok-disk.ensures.quiet quiet first es told) (ap (λ (l : LogData). events_of (disk_content d) l) c.new.ensures)
