use Rattle.std.proofs.Common.{◌≡◌, take}
use Rattle.gd_bucket.proofs.splitting.move_free.Given as goal

abbrev pub invariant-loop-extent : goal.invariant-loop-extent
invariant-loop-extent l = l.first ≡ record l.initial.first { free = take l.extent-index l.free }
