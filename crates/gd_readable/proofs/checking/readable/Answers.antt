use Rattle.gd_readable.proofs.Refusals.{reads_file}
use Rattle.gd_readable.proofs.checking.readable.Goals as goal

pub returns-in-Ok-clause-readable : goal.returns-in-Ok-clause-readable
returns-in-Ok-clause-readable g c = reads_file c.in-Ok.answer c.args.f.0 (g.V.Vault.view_of c.args.vault.now) c.in-Ok.ensures.readable
