use Rattle.std.proofs.Common.{arith}
use Rattle.gd_load.proofs.incoming.Incoming.with_machine.Goals as goal

pub invariant_of-result : goal.invariant_of-result
invariant_of-result g c = record {
  within = c.args.self.within;
  inside = c.args.self.inside;
  few = c.args.self.few;
  taken = omega (arith, c.new.ensures.taken, c.requires);
  exact = λ going. omega (arith, c.new.ensures.taken, c.requires);
}
