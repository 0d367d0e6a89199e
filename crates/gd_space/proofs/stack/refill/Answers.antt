use Rattle.std.proofs.lemmas.List.Elements.{recursion_from_All}
use Rattle.gd_layout.specs.Fits.{FitsExtent}
use Rattle.gd_space.proofs.Stacks.{room-kept}
use Rattle.gd_space.proofs.stack.refill.Goals as goal

pub returns-clause-fields : goal.returns-clause-fields
returns-clause-fields c = λ right. recursion_from_All FitsExtent c.read_avail_into.new.into.extents (c.read_avail_into.ensures.fit right)

pub returns-clause-room : goal.returns-clause-room
returns-clause-room c = room-kept c.args.bytes.now c.read_avail_into.result c.args.into.now c.read_avail_into.new.into c.read_avail_into.ensures.read c.read_avail_into.ensures.kept
