use Rattle.std.proofs.Common.{ap}
use Rattle.gd_memvault.specs.Memory.{memory_told}
use Rattle.gd_memvault.proofs.Calls.{other_error}
use Rattle.gd_memvault.proofs.Idles.{none_not_idle}
use Rattle.gd_memvault.proofs.vault.MemVaultVault.create.Goals as goal

pub returns-in-Err-clause-made : goal.returns-in-Err-clause-made
returns-in-Err-clause-made c = other_error c.in-Err.ensures.changed

pub returns-then-is_some-clause-idle : goal.returns-then-is_some-clause-idle
returns-then-is_some-clause-idle c = none_not_idle (memory_told c.args.self.now) (memory_told c.next_call.new.self) (ap memory_told c.next_call.ensures.rest)
