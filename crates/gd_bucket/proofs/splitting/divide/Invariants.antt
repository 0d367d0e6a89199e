use Rattle.std.proofs.Common.{take}
use Rattle.gd_bucket.proofs.Parts.{IsParted}
use Rattle.gd_bucket.proofs.splitting.divide.Given as goal

abbrev pub invariant-loop-slot : goal.invariant-loop-slot
invariant-loop-slot l = IsParted l.bucket l.first l.second (take l.slot-index l.slots) l.bucket.free l.initial.second.free
