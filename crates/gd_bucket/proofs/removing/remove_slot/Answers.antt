use Rattle.gd_bucket.specs.Removing.{MayMove, NoneMoves}
use Rattle.gd_bucket.proofs.Holes.{starts, goes_on, comes_down, finishes}
use Rattle.gd_bucket.proofs.removing.remove_slot.Goals as goal

pub loop-next-init : goal.loop-next-init
loop-next-init c = starts c.args.bucket.now c.put_slot.new.self c.args.place c.requires c.put_slot.ensures

pub loop-next-smaller : goal.loop-next-smaller
loop-next-smaller c =
    let move : MayMove c.loop-next.bucket.slots c.loop-next.hole c.in-Some.next = rw c.slots.ensures.are at c.in-Some.ensures.some in
    comes_down c.args.bucket.now c.loop-next.bucket c.move_slot.new.bucket c.args.place c.loop-next.hole c.in-Some.next c.loop-next.invariant move c.move_slot.ensures

pub loop-next-preserved : goal.loop-next-preserved
loop-next-preserved c =
    let move : MayMove c.loop-next.bucket.slots c.loop-next.hole c.in-Some.next = rw c.slots.ensures.are at c.in-Some.ensures.some in
    goes_on c.args.bucket.now c.loop-next.bucket c.move_slot.new.bucket c.args.place c.loop-next.hole c.in-Some.next c.loop-next.invariant move c.move_slot.ensures

pub returns-clause-reached : goal.returns-clause-reached
returns-clause-reached c = λ reached.
    let none : NoneMoves c.loop-next.bucket.slots c.loop-next.hole = rw c.slots.ensures.are at c.in_default.ensures.none in
    finishes c.args.bucket.now c.loop-next.bucket c.args.place c.loop-next.hole c.loop-next.invariant none reached
