use Rattle.std.proofs.Common.{◌∙◌}
use Rattle.gd_memvault.proofs.Names.{names_next}
use Rattle.gd_memvault.proofs.disk.Disk.find.Goals as goal

pub loop-entry-preserved : goal.loop-entry-preserved
loop-entry-preserved c = c.newer-found.ensures ∙ names_next c.args.name.now c.deref-entry-items.result.now c.loop-entry.entry-index c.entry-item.result c.loop-entry.found c.loop-entry-test.true c.entry-item.is c.loop-entry.invariant
