use Rattle.std.proofs.Common.{length}
use Rattle.gd_bucket.proofs.Falls.{total_worth}
use Rattle.gd_bucket.proofs.Holes.{IsOpen}
use Rattle.gd_bucket.proofs.removing.remove_slot.Given as goal

abbrev pub invariant-loop-next : goal.invariant-loop-next
invariant-loop-next l = IsOpen l.fn.bucket l.bucket l.fn.place l.hole

abbrev pub decreases-loop-next : goal.decreases-loop-next
decreases-loop-next l = total_worth (length l.bucket.slots) l.bucket.slots
