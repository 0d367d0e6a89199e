use Rattle.std.proofs.Common.{◌≡◌, ◌++◌, map, sym, ap, ◌∙◌, arith}
use Rattle.std.specs.Prelude.{ℕ, List, Some}
use Rattle.std.specs.List.{flat_map}
use Rattle.std.proofs.lemmas.List.{take_all}
use Rattle.gd_format.specs.First.{first_some}
use Rattle.gd_format.specs.Sound.{free_held, records_held}
use Rattle.gd_readable.specs.Asks.{kept_of, bytes_in}
use Rattle.gd_readable.proofs.Asks.{told_then}
use Rattle.gd_verify.specs.Known.{free_fault_at}
use Rattle.gd_verify.proofs.Bucketing.{bucket_at, none_more, found, flat_more}
use Rattle.gd_verify.proofs.buckets.buckets_refusal.Goals as goal

pub returns-then-not-branch-clause-refusal : goal.returns-then-not-branch-clause-refusal
returns-then-not-branch-clause-refusal g c =
    λ file told all.
    let told_here : bytes_in (kept_of (g.V.Vault.view_of c.loop-at.vault)) c.args.f.0 ≡ Some file = told_then _ _ c.args.f.0 file c.loop-at.invariant.same told in
    let has = bucket_at file c.args.header.now c.args.places.now c.loop-at.at-index 0 c.loop-at-test.true all in
    let wrong = sym (c.in_ok-read_bucket.ensures.right file told_here has) ∙ c.if-not-branch.true in
    sym (found file c.args.header.now c.args.places.now c.loop-at.at-index 0 c.loop-at-test.true (c.loop-at.invariant.none file told all) wrong)

pub loop-at-preserved : goal.loop-at-preserved
loop-at-preserved g c = record {
  same = c.in_ok-read_bucket.ensures.same ∙ c.loop-at.invariant.same;
  later = omega (arith, c.loop-at.invariant.later, c.in_ok-read_bucket.ensures.answered);
  size = c.read_bucket.auto.block ∙ c.loop-at.invariant.size;
  plain_records = c.in_ok-read_bucket.ensures.plain_records;
  plain_free = c.in_ok-read_bucket.ensures.plain_free;
  none =
      λ file told all.
      let told_here : bytes_in (kept_of (g.V.Vault.view_of c.loop-at.vault)) c.args.f.0 ≡ Some file = told_then _ _ c.args.f.0 file c.loop-at.invariant.same told in
      let has = bucket_at file c.args.header.now c.args.places.now c.loop-at.at-index 0 c.loop-at-test.true all in
      let right = sym (c.in_ok-read_bucket.ensures.right file told_here has) ∙ c.if-not-branch.false in
      none_more file c.args.header.now c.args.places.now c.loop-at.at-index 0 c.loop-at-test.true (c.loop-at.invariant.none file told all) right;
  records =
      λ file told all.
      let told_here : bytes_in (kept_of (g.V.Vault.view_of c.loop-at.vault)) c.args.f.0 ≡ Some file = told_then _ _ c.args.f.0 file c.loop-at.invariant.same told in
      let has = bucket_at file c.args.header.now c.args.places.now c.loop-at.at-index 0 c.loop-at-test.true all in
      flat_more file c.args.header.now c.args.places.now c.loop-at.at-index 0 c.loop-at-test.true (records_held file c.args.header.now) c.args.records.now.items c.loop-at.records.items c.read_bucket.new.records.items (c.loop-at.invariant.records file told all) (c.in_ok-read_bucket.ensures.records file told_here has c.if-not-branch.false);
  free =
      λ file told all.
      let told_here : bytes_in (kept_of (g.V.Vault.view_of c.loop-at.vault)) c.args.f.0 ≡ Some file = told_then _ _ c.args.f.0 file c.loop-at.invariant.same told in
      let has = bucket_at file c.args.header.now c.args.places.now c.loop-at.at-index 0 c.loop-at-test.true all in
      flat_more file c.args.header.now c.args.places.now c.loop-at.at-index 0 c.loop-at-test.true (free_held file c.args.header.now) c.args.free.now.items c.loop-at.free.items c.read_bucket.new.free.items (c.loop-at.invariant.free file told all) (c.in_ok-read_bucket.ensures.free file told_here has c.if-not-branch.false);
}

pub returns-clause-refusal : goal.returns-clause-refusal
returns-clause-refusal g c =
    λ file told all.
    let whole = take_all c.loop-at.at-index c.args.places.now c.loop-at-test.false in
    sym (sym (ap (λ (xs : List ℕ). first_some (map (free_fault_at file c.args.header.now) xs)) whole) ∙ c.loop-at.invariant.none file told all)

pub returns-clause-records : goal.returns-clause-records
returns-clause-records g c =
    λ file told all none.
    let whole = take_all c.loop-at.at-index c.args.places.now c.loop-at-test.false in
    c.loop-at.invariant.records file told all ∙ ap (λ (xs : List ℕ). c.args.records.now.items ++ flat_map (records_held file c.args.header.now) xs) whole

pub returns-clause-free : goal.returns-clause-free
returns-clause-free g c =
    λ file told all none.
    let whole = take_all c.loop-at.at-index c.args.places.now c.loop-at-test.false in
    c.loop-at.invariant.free file told all ∙ ap (λ (xs : List ℕ). c.args.free.now.items ++ flat_map (free_held file c.args.header.now) xs) whole
