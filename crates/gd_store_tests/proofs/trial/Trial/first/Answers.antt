use Rattle.gd_memvault.specs.Memory.{memory_view}
use Rattle.gd_store_tests.proofs.Kept.{kept}
use Rattle.gd_store_tests.proofs.trial.Trial.first.Goals as goal

pub invariant_of-self : goal.invariant_of-self
invariant_of-self c = kept (memory_view c.self.inside.vault) (memory_view c.first.new.vault) c.self.inside.store c.first.new.self c.first.ensures.same c.first.ensures.asks c.self.invariant
