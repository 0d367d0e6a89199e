use Rattle.gd_memvault.specs.Memory.{memory_view}
use Rattle.gd_store_tests.proofs.Kept.{kept}
use Rattle.gd_store_tests.proofs.trial.Trial.fetch.Goals as goal

pub invariant_of-self : goal.invariant_of-self
invariant_of-self c = kept (memory_view c.self.inside.vault) (memory_view c.fetch.new.vault) c.self.inside.store c.fetch.new.self c.fetch.ensures.same c.fetch.ensures.asks c.self.invariant
