use Rattle.std.proofs.Common.{◌<◌, ◌∷◌, length, set, sym, subst}
use Rattle.std.proofs.Math.ListN.{length-set}
use Rattle.gd_format.specs.Bucket.{Bucket}
use Rattle.gd_format.specs.Slots.{hash_in, AreReached, SameSlots}
use Rattle.gd_bucket.specs.Probing.{IsFirstEmpty}
use Rattle.gd_bucket.proofs.Inserts.{inserted_reaches}
use Rattle.gd_bucket.proofs.Falls.{filled_same}
use Rattle.gd_bucket.proofs.probing.insert_slot.Goals as goal

pub returns-clause-others : goal.returns-clause-others
returns-clause-others c =
    let first : IsFirstEmpty c.args.bucket.now.slots (hash_in c.args.slot) c.first_empty-place.result = rw (c.slots.ensures.are, c.hash_in.ensures) at c.first_empty-place.ensures.is in
    let below : c.first_empty-place.result < length c.args.bucket.now.slots = rw c.slots.ensures.are at c.first_empty-place.ensures.below in
    subst (λ (b : Bucket). SameSlots b.slots (c.args.slot ∷ c.args.bucket.now.slots)) (sym c.put_slot.ensures)
    (filled_same c.args.bucket.now.slots c.first_empty-place.result c.args.slot below first.empty)

pub returns-clause-reached : goal.returns-clause-reached
returns-clause-reached c = λ old.
    let first : IsFirstEmpty c.args.bucket.now.slots (hash_in c.args.slot) c.first_empty-place.result = rw (c.slots.ensures.are, c.hash_in.ensures) at c.first_empty-place.ensures.is in
    let done = inserted_reaches c.args.bucket.now.slots c.first_empty-place.result c.args.slot c.requires.full first old in
    let e = length-set c.args.bucket.now.slots c.first_empty-place.result c.args.slot in
    let whole : AreReached (set c.args.bucket.now.slots c.first_empty-place.result c.args.slot) (length (set c.args.bucket.now.slots c.first_empty-place.result c.args.slot)) = rw e done in
    subst (λ (b : Bucket). AreReached b.slots (length b.slots)) (sym c.put_slot.ensures) whole
