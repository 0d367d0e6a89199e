use Rattle.std.specs.Prelude.{IfSome}
use Rattle.std.proofs.Common.{◌≡◌, ◌∙◌, ℕ, List, Option, true, get_or, ap, subst}
use Rattle.gd_format.specs.Bucket.{Bucket}
use Rattle.gd_format.specs.declared.Slot.{Slot}
use Rattle.gd_format.specs.declared.Slot.TheVariants.{Empty}
use Rattle.gd_format.specs.Slots.{is_full, hash_in}
use Rattle.gd_bucket.proofs.Holes.{full_in}
use Rattle.gd_bucket.proofs.Maps.{replaced_reaches}
use Rattle.gd_update.proofs.Places.{replaced, added}
use Rattle.gd_update.proofs.slots.put_slot.Goals as goal

pub returns-in_default-clause-made : goal.returns-in_default-clause-made
returns-in_default-clause-made c = added c.args.bucket.now.slots c.insert_slot.new.bucket.slots c.args.slot c.insert_slot.ensures.others

pub returns-clause-made : goal.returns-clause-made
returns-clause-made c =
    let slots = c.args.bucket.now.slots in
    let was : is_full (get_or c.args.bucket.now.slots c.in-Some.place Empty) ≡ true = subst (λ (o : Option ℕ). IfSome o (λ p. is_full (get_or c.args.bucket.now.slots p Empty) ≡ true)) c.in-Some.is c.requires.some in
    let now = ap (λ (b : Bucket). b.slots) c.put_slot.ensures in
    rw (now, c.slots.ensures.are) (replaced slots c.in-Some.place c.args.slot (full_in slots c.in-Some.place was))

pub returns-clause-reached : goal.returns-clause-reached
returns-clause-reached c = λ hash reached.
    let slots = c.args.bucket.now.slots in
    let was : is_full (get_or c.args.bucket.now.slots c.in-Some.place Empty) ≡ true = subst (λ (o : Option ℕ). IfSome o (λ p. is_full (get_or c.args.bucket.now.slots p Empty) ≡ true)) c.in-Some.is c.requires.some in
    let now = ap (λ (b : Bucket). b.slots) c.put_slot.ensures in
    let same = c.slots.ensures.are in
    let full_was : is_full (get_or c.slots.result.now c.in-Some.place Empty) ≡ true = rw same was in
    let one = hash full_was ∙ ap (λ (xs : List Slot). hash_in (get_or xs c.in-Some.place Empty)) same in
    rw now (replaced_reaches slots c.in-Some.place c.args.slot reached was c.requires.full one)
