use Rattle.std.proofs.Common.{◌≡◌, ◌+◌, SFits, ◌∙◌, rules, arith}
use Rattle.std.specs.Int.{w64}
use Rattle.std.proofs.lemmas.Int.{to_z-of_z}
use Rattle.gd_format.specs.File.{entry_at}
use Rattle.gd_verify.proofs.Placing.{entry_in_page, entry_from_zero, place_more}
use Rattle.gd_verify.proofs.directory.push_places.Goals as goal

pub returns-then-not-branch-clause-below : goal.returns-then-not-branch-clause-below
returns-then-not-branch-clause-below c =
    λ file h i read page.
    let ends = page.ends in
    let lt = c.loop-e-test.true in
    let entry : c.address-entry.result ≡ entry_at file h (i + c.loop-e.e) = c.address-entry.ensures ∙ entry_in_page file c.args.entries.now h i c.args.count c.loop-e.e page lt in
    let fits : SFits w64 c.address-entry.result = search rules in
    let back = to_z-of_z w64 c.address-entry.result fits in
    entry_from_zero file h read (i + c.loop-e.e) _ (omega arith) (back ∙ entry) (c.in_ok-push_place.ensures.below c.if-not-branch.true)

pub loop-e-preserved : goal.loop-e-preserved
loop-e-preserved c = record {
  low = c.in_ok-push_place.ensures.low;
  placed =
      λ file h i read page start.
      let ends = page.ends in
      let lt = c.loop-e-test.true in
      let entry : c.address-entry.result ≡ entry_at file h (i + c.loop-e.e) = c.address-entry.ensures ∙ entry_in_page file c.args.entries.now h i c.args.count c.loop-e.e page lt in
      let fits : SFits w64 c.address-entry.result = search rules in
      let back = to_z-of_z w64 c.address-entry.result fits in
      let before = c.loop-e.invariant.placed file h i read page start in
      let next : i + (c.loop-e.e + 1) ≡ i + c.loop-e.e + 1 = omega arith in
      let step = place_more file h read (i + c.loop-e.e) _ _ c.loop-e.places.items c.push_place.new.places.items (omega arith) before (back ∙ entry) (c.in_ok-push_place.ensures.again c.if-not-branch.false) (c.in_ok-push_place.ensures.more c.if-not-branch.false) in
      rw next step;
}
