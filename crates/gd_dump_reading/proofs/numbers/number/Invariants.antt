use Rattle.std.proofs.Common.{◌≡◌, ◌-◌, ◌^◌, min, take}
use Rattle.gd_dump_reading.specs.Numbers.{value_of}
use Rattle.gd_dump_reading.proofs.numbers.number.Given as goal

abbrev pub invariant-loop-b : goal.invariant-loop-b
invariant-loop-b l = l.n ≡ min (value_of (take l.b-index l.digits)) (2 ^ 64 - 1)
