use Rattle.std.proofs.Common.{ap, rules}
use Rattle.gd_base.proofs.Inputs.{gives}
use Rattle.gd_base.proofs.mem_source.MemSourceSource.read.Goals as goal

pub returns-clause-bytes : goal.returns-clause-bytes
returns-clause-bytes c =
    gives c.self.inside.bytes c.as_slice-2.result.now c.args.buf.now c.give-count.new.buf c.args.self.now.left c.self.inside.place c.give-count.result
    c.as_slice-2.ensures (search rules) (ap (λ s. s.left) c.self.view_is) c.self.invariant c.give-count.ensures.count c.give-count.ensures.bytes
