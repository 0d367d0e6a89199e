use Rattle.gd_vault.specs.Events.Call.{Create}
use Rattle.gd_memvault.proofs.memory.MemVault.create_next.Goals as goal

pub returns-in-Err-clause-changed : goal.returns-in-Err-clause-changed
returns-in-Err-clause-changed c = c.starve_next.ensures.changed (Create c.args.name.now c.args.mode)
