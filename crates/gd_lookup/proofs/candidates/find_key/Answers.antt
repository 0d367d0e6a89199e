use Rattle.std.proofs.Common.{◌≡◌, true, false, length, get_or, ap, sym, ◌∙◌, rules, arith}
use Rattle.gd_format.specs.declared.Slot.TheVariants.{Empty}
use Rattle.gd_bucket.specs.Probing.{slot_after, HasNoCandidate}
use Rattle.gd_map_laws.specs.Find.{is_slot_of}
use Rattle.gd_lookup.proofs.Keys.{absent_of, lies, own_slot, passed_on}
use Rattle.gd_lookup.proofs.Opens.{is_told, was_told}
use Rattle.gd_lookup.proofs.candidates.find_key.Goals as goal

pub returns-in_default-clause-absent : goal.returns-in_default-clause-absent
returns-in_default-clause-absent g c =
    λ d x told there.
    let none : HasNoCandidate c.args.bucket.now.slots c.args.hash c.args.key.now c.candidates.from = rw c.in_default.is at c.find.ensures.none in
    absent_of x.bytes c.args.key.now c.args.bucket.now.slots (c.requires.bucket.is_key d x told there) c.args.hash c.requires.hash c.candidates.from (c.candidates.invariant.passed d x told there) none

pub is_own-requires-clause-inside : goal.is_own-requires-clause-inside
is_own-requires-clause-inside g c =
    λ d x told there.
    let below = c.place_from_home-place.ensures.below in
    let len : length c.slots-slots.result.now ≡ length c.args.bucket.now.slots = ap length c.slots-slots.ensures.are in
    let bucket = c.requires.bucket.is_key d x (was_told c.candidates.invariant.asks d told) there in
    rw c.slots-slots.ensures.are (lies x.bytes c.args.key.now c.args.bucket.now.slots bucket c.place_from_home-place.result (omega (arith, below, len)))

pub returns-then-own-clause-present : goal.returns-then-own-clause-present
returns-then-own-clause-present g c =
    λ d x told there.
    let told_one = is_told c.candidates.invariant.asks d told in
    let own : is_slot_of x.bytes c.args.key.now (get_or c.args.bucket.now.slots c.place_from_home-place.result Empty) ≡ true = rw c.slots-slots.ensures.are at (sym (c.in_ok-own.ensures.own d x told_one there) ∙ c.if-own.true) in
    let below = c.place_from_home-place.ensures.below in
    let len : length c.slots-slots.result.now ≡ length c.args.bucket.now.slots = ap length c.slots-slots.ensures.are in
    own_slot x.bytes c.args.key.now c.args.bucket.now.slots (c.requires.bucket.is_key d x told there) c.place_from_home-place.result (omega (arith, below, len)) own

pub candidates-preserved : goal.candidates-preserved
candidates-preserved g c =
    let old = c.candidates.invariant in
    let next = c.in-Some.ensures.found in
    record {
      far = let high = next.high in omega (arith, high);
      asks = search rules;
      answered = omega (arith, old.answered, c.in_ok-own.ensures.answered);
      passed =
          λ d x told there.
          let told_one = is_told old.asks d told in
          let own : is_slot_of x.bytes c.args.key.now (get_or c.args.bucket.now.slots c.place_from_home-place.result Empty) ≡ false = rw c.slots-slots.ensures.are at (sym (c.in_ok-own.ensures.own d x told_one there) ∙ c.if-own.false) in
          let here : is_slot_of x.bytes c.args.key.now (slot_after c.args.bucket.now.slots c.args.hash c.in-Some.distance) ≡ false = search rules in
          passed_on x.bytes c.args.key.now c.args.bucket.now.slots (c.requires.bucket.is_key d x told there) c.args.hash c.requires.hash c.candidates.from c.in-Some.distance (old.passed d x told there) next here;
    }
