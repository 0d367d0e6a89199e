use Rattle.std.proofs.Common.{arith}
use Rattle.gd_memvault.specs.Memory.{memory_view}
use Rattle.gd_space_tests.proofs.Trials.{took}
use Rattle.gd_space_tests.proofs.trial.Trial.take.Goals as goal

pub invariant_of-self : goal.invariant_of-self
invariant_of-self c =
    let e = c.in-Ok.ensures in
    rw (c.push.ensures.items, c.in-Ok-push.is)
    (took (memory_view c.self.inside.vault) (memory_view c.take.new.vault) c.self.inside.f.0 c.self.inside.header c.take.new.header c.self.inside.space c.take.new.self c.self.inside.bucket c.take.new.bucket c.self.inside.used.items c.in-Ok.at c.args.n c.self.invariant e.done e.header e.below c.take.ensures.length c.take.ensures.block c.take.ensures.slots (omega arith) (omega arith))
