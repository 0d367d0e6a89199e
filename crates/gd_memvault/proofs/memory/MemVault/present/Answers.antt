use Rattle.std.proofs.Common.{◌∙◌, ap, sym}
use Rattle.gd_memvault.specs.Log.{told_of}
use Rattle.gd_memvault.specs.Memory.{memory_told}
use Rattle.gd_memvault.proofs.Logs.{moment_told}
use Rattle.gd_memvault.proofs.memory.MemVault.present.Goals as goal

pub returns-in-Some-clause-moment : goal.returns-in-Some-clause-moment
returns-in-Some-clause-moment c = λ first es is.
    c.moment.ensures ∙ moment_told c.self.inside.disk c.in-Some.log first es (ap (told_of c.self.inside.disk) (sym c.in-Some.is) ∙ ap memory_told c.self.view_is ∙ is)
