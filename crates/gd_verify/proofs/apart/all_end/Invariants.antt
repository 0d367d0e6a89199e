use Rattle.std.proofs.Common.{take}
use Rattle.gd_verify.specs.Apart.{AllEnd}
use Rattle.gd_verify.proofs.apart.all_end.Given as goal

abbrev pub invariant-loop-k : goal.invariant-loop-k
invariant-loop-k l = AllEnd l.place (take l.k-index l.list)
