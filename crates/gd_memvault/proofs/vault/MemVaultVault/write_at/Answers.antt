use Rattle.gd_vault.specs.Events.Call.{Write}
use Rattle.gd_memvault.proofs.Calls.{wrote_nothing}
use Rattle.gd_memvault.proofs.vault.MemVaultVault.write_at.Goals as goal

pub returns-in-Err-clause-wrote : goal.returns-in-Err-clause-wrote
returns-in-Err-clause-wrote c = wrote_nothing c.starve_next.ensures.failed (c.starve_next.ensures.changed (Write c.args.f.0 c.args.at c.args.bytes.now))

pub returns-in-Err-clause-too_long : goal.returns-in-Err-clause-too_long
returns-in-Err-clause-too_long c = λ _. record {
  failed = c.starve_next.ensures.failed;
  content = c.starve_next.ensures.content;
  bytes_written = (let h = c.starve_next.ensures.changed (Write c.args.f.0 c.args.at c.args.bytes.now) in h.bytes_written);
}
