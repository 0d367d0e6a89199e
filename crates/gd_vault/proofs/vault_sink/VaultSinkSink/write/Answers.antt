use Rattle.std.proofs.Common.{refl}
use Rattle.gd_vault.proofs.Files.{has_file, only_wrote, written_stays}
use Rattle.gd_vault.proofs.vault_sink.VaultSinkSink.write.Goals as goal

pub write_at-requires-clause-file : goal.write_at-requires-clause-file
write_at-requires-clause-file g c = has_file (g.V.Vault.view_of c.args.self.now.vault.now) c.args.self.now.f.0 c.args.self.now.there

pub returns-in-Ok-clause-kept : goal.returns-in-Ok-clause-kept
returns-in-Ok-clause-kept g c = (refl, refl, only_wrote c.in-Ok.ensures.wrote)

pub returns-in-Err-clause-kept : goal.returns-in-Err-clause-kept
returns-in-Err-clause-kept g c = (refl, refl, only_wrote c.in-Err.ensures.wrote)

pub returns-in-Err-clause-bytes : goal.returns-in-Err-clause-bytes
returns-in-Err-clause-bytes g c = written_stays c.in-Err.ensures.wrote c.args.self.now.there c.args.self.now.inside
