use Rattle.std.proofs.Common.{ℕ, ◌+◌, ◌%◌, ◌<◌, length}
use Rattle.gd_bucket.specs.Removing.{from_home}
use Rattle.gd_bucket.proofs.removing.next_to_move.Given as goal

abbrev pub invariant-loop-t : goal.invariant-loop-t
invariant-loop-t l = (u : ℕ) → 0 < u → u < l.t → from_home l.slots ((l.hole + u) % length l.slots) < u
