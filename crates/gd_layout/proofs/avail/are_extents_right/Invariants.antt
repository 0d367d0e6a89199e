use Rattle.std.proofs.Common.{◌≡◌, true}
use Rattle.gd_format.specs.First.{all_below}
use Rattle.gd_format.specs.Avail.{is_extent_right_at}
use Rattle.gd_layout.proofs.avail.are_extents_right.Given as goal

abbrev pub invariant-loop-e : goal.invariant-loop-e
invariant-loop-e l = all_below l.e (is_extent_right_at l.bytes) ≡ true
