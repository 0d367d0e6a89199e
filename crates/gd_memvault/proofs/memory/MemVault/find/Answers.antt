use Rattle.std.proofs.Common.{◌∙◌, ap, sym}
use Rattle.gd_vault.specs.Views.{content_of}
use Rattle.gd_memvault.specs.Disk.{disk_content}
use Rattle.gd_memvault.specs.Log.{told_of}
use Rattle.gd_memvault.specs.Memory.{memory_told}
use Rattle.gd_memvault.proofs.Sounds.{found_there}
use Rattle.gd_memvault.proofs.memory.MemVault.find.Goals as goal

pub returns-in-Some-clause-there : goal.returns-in-Some-clause-there
returns-in-Some-clause-there c =
    let same = ap memory_told c.self.view_is in
    λ d told. found_there (told_of c.self.inside.disk c.self.inside.log) c.self.invariant (disk_content c.now.result.now) c.args.name.now c.in-Some.id c.now.ensures (sym c.find.ensures ∙ c.in-Some.is) d (ap content_of same ∙ told)
