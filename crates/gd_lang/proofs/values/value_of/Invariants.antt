use Rattle.std.proofs.Common.{◌≡◌, ◌^◌, min, take}
use Rattle.gd_lang.specs.Values.{value_of}
use Rattle.gd_lang.proofs.values.value_of.Given as goal

abbrev pub invariant-loop-byte : goal.invariant-loop-byte
invariant-loop-byte l = l.value ≡ min (value_of (take l.byte-index l.digits)) (2 ^ 64)
