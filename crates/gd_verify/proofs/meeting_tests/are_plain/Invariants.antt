use Rattle.std.proofs.Common.{◌<◌, ℕ, get_or}
use Rattle.gd_format.specs.declared.Held.{Held}
use Rattle.gd_verify.specs.Apart.{IsPlain}
use Rattle.gd_verify.proofs.meeting_tests.are_plain.Given as goal

abbrev pub invariant-loop-k : goal.invariant-loop-k
invariant-loop-k l = (j : ℕ) (d : Held) → j < l.k-index → IsPlain (get_or l.list j d)
