use Rattle.std.proofs.Common.{arith}
use Rattle.gd_memvault.specs.Memory.{memory_view}
use Rattle.gd_space_tests.proofs.Trials.{gave_back}
use Rattle.gd_space_tests.proofs.trial.Trial.give.Goals as goal

pub invariant_of-self : goal.invariant_of-self
invariant_of-self c =
    let e = c.in-Ok.ensures in
    rw c.remove-e.ensures.items
    (gave_back (memory_view c.self.inside.vault) (memory_view c.give.new.vault) c.self.inside.f.0 c.self.inside.header c.give.new.header c.self.inside.space c.give.new.self c.self.inside.bucket c.give.new.bucket c.self.inside.used.items c.args.place c.remove-e.result c.self.invariant e.gave e.header e.below c.give.ensures.length c.give.ensures.block c.give.ensures.slots (omega arith) c.remove-e.ensures.value)
