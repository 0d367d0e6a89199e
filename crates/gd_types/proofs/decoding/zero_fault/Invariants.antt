use Rattle.std.proofs.Common.{◌≡◌, drop}
use Rattle.gd_types.specs.Decoding.{zero_fault}
use Rattle.gd_types.proofs.decoding.zero_fault.Given as goal

abbrev pub invariant-loop-at : goal.invariant-loop-at
invariant-loop-at l = zero_fault l.bytes ≡ zero_fault (drop l.at l.bytes)
