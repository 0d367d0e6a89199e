use Rattle.std.proofs.Common.{◌≡◌}
use Rattle.gd_format.specs.First.{list_below}
use Rattle.gd_format.specs.Avail.{extent_at}
use Rattle.gd_layout.proofs.avail.put_first.Given as goal

abbrev pub invariant-loop-e : goal.invariant-loop-e
invariant-loop-e l = l.into ≡ record l.initial.into { extents = list_below l.e (extent_at l.bytes) }
