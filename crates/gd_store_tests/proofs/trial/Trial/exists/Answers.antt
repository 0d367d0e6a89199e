use Rattle.gd_memvault.specs.Memory.{memory_view}
use Rattle.gd_store_tests.proofs.Kept.{kept}
use Rattle.gd_store_tests.proofs.trial.Trial.exists.Goals as goal

pub invariant_of-self : goal.invariant_of-self
invariant_of-self c = kept (memory_view c.self.inside.vault) (memory_view c.exists.new.vault) c.self.inside.store c.exists.new.self c.exists.ensures.same c.exists.ensures.asks c.self.invariant
