use Rattle.std.proofs.Common.{◌<◌, take}
use Rattle.gd_space.specs.Sizes.{largest}
use Rattle.gd_space.proofs.lists.first_fit.Given as goal

abbrev pub invariant-loop-i : goal.invariant-loop-i
invariant-loop-i l = largest (take l.i l.list) < l.n
