use Rattle.std.proofs.Common.{rules}
use Rattle.gd_loader.proofs.Fronts.{gives}
use Rattle.gd_loader.proofs.held.HeldSource.read.Goals as goal

pub returns-clause-bytes : goal.returns-clause-bytes
returns-clause-bytes c =
    gives c.self.inside.bytes.items c.deref.result.now c.args.buf.now c.give-count.new.buf c.args.self.now c.self.inside.place c.give-count.result
    c.deref.ensures.value (search rules) c.self.view_is c.self.invariant c.give-count.ensures.count c.give-count.ensures.bytes
