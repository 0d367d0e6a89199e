use Rattle.gd_vault.specs.Events.Call.{Replace}
use Rattle.gd_memvault.proofs.vault.MemVaultVault.replace.Goals as goal

pub returns-in-Err-clause-changed : goal.returns-in-Err-clause-changed
returns-in-Err-clause-changed c = c.starve_next.ensures.changed (Replace c.args.from.now c.args.to.now)

pub returns-in-Err-from_slice-clause-changed : goal.returns-in-Err-from_slice-clause-changed
returns-in-Err-from_slice-clause-changed c = c.starve_next-in-Err-from_slice.ensures.changed (Replace c.args.from.now c.args.to.now)
