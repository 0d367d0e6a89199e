use Rattle.gd_vault.specs.Events.Call.{Remove}
use Rattle.gd_memvault.proofs.vault.MemVaultVault.remove.Goals as goal

pub returns-in-Err-clause-changed : goal.returns-in-Err-clause-changed
returns-in-Err-clause-changed c = c.starve_next.ensures.changed (Remove c.args.name.now)
