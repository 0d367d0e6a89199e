use Rattle.std.proofs.Common.{◌≡◌, take}
use Rattle.gd_space.specs.Sizes.{largest}
use Rattle.gd_space.proofs.lists.largest_in.Given as goal

abbrev pub invariant-loop-e : goal.invariant-loop-e
invariant-loop-e l = l.most ≡ largest (take l.e-index l.list)
