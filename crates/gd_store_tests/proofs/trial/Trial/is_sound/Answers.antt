use Rattle.std.proofs.Common.{refl}
use Rattle.gd_memvault.specs.Memory.{memory_view}
use Rattle.gd_store.proofs.Asking.{same_cached}
use Rattle.gd_store_tests.proofs.Kept.{kept}
use Rattle.gd_store_tests.proofs.trial.Trial.is_sound.Goals as goal

pub invariant_of-self : goal.invariant_of-self
invariant_of-self c = kept (memory_view c.self.inside.vault) (memory_view c.sound.new.vault) c.self.inside.store c.self.inside.store (same_cached c.self.inside.store c.self.inside.store refl) c.sound.ensures.asks c.self.invariant
