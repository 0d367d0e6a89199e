use Rattle.std.proofs.Common.{◌≡◌, ◌++◌, [], List, sym, ap, ◌∙◌}
use Rattle.std.specs.List.{All, flat_map}
use Rattle.gd_format.specs.declared.Held.{Held}
use Rattle.gd_format.specs.File.{places_of}
use Rattle.gd_format.specs.Sound.{free_held, meet_fault}
use Rattle.gd_readable.specs.Asks.{kept_of, bytes_in, Tells}
use Rattle.gd_readable.proofs.Asks.{told_then}
use Rattle.gd_verify.specs.Known.{IsReadBy, HasBucket}
use Rattle.gd_verify.specs.Refused.{fixed_held}
use Rattle.gd_verify.proofs.Placing.{have_buckets}
use Rattle.gd_verify.proofs.Orders.{order_free, order_meet}
use Rattle.gd_verify.proofs.OfFile.{refusal_kind}
use Rattle.gd_verify.proofs.sounding.extents_refusal.Goals as goal

pub returns-in-Some-clause-refusal : goal.returns-in-Some-clause-refusal
returns-in-Some-clause-refusal g c =
    λ file told read.
    let told_one = told_then _ _ c.args.f.0 file c.in_ok-places.ensures.same told in
    let places : Tells (bytes_in (kept_of (g.V.Vault.view_of c.args.vault.now)) c.args.f.0) (λ file. IsReadBy file c.args.header.now → c.in-Ok.places.items ≡ places_of file c.args.header.now) = rw c.in-Ok.is at c.in_ok-places.ensures.places in
    let is : c.deref-2.result.now ≡ places_of file c.args.header.now = c.deref-2.ensures.value ∙ places file told read in
    let all : All (HasBucket file c.args.header.now) c.deref-2.result.now = rw is (have_buckets file c.args.header.now read) in
    order_free file c.args.header.now c.args.space.now c.deref-2.result.now c.in-Some.e is (sym c.in-Some.is ∙ c.in_ok-refusal.ensures.refusal file told_one all)

pub returns-in-Ok-meet_refusal-clause-kind : goal.returns-in-Ok-meet_refusal-clause-kind
returns-in-Ok-meet_refusal-clause-kind g c = refusal_kind c.in-Ok-meet_refusal.refusal c.args.header.now.next_block _ c.in-Ok-meet_refusal.ensures

pub returns-in-Ok-meet_refusal-clause-refusal : goal.returns-in-Ok-meet_refusal-clause-refusal
returns-in-Ok-meet_refusal-clause-refusal g c =
    λ file told read.
    let told_one = told_then _ _ c.args.f.0 file c.in_ok-places.ensures.same told in
    let places : Tells (bytes_in (kept_of (g.V.Vault.view_of c.args.vault.now)) c.args.f.0) (λ file. IsReadBy file c.args.header.now → c.in-Ok.places.items ≡ places_of file c.args.header.now) = rw c.in-Ok.is at c.in_ok-places.ensures.places in
    let is : c.deref-2.result.now ≡ places_of file c.args.header.now = c.deref-2.ensures.value ∙ places file told read in
    let all : All (HasBucket file c.args.header.now) c.deref-2.result.now = rw is (have_buckets file c.args.header.now read) in
    order_meet file c.args.header.now c.deref-2.result.now c.args.space.now c.in_ok-list.list.items c.buckets_refusal.new.records.items c.buckets_refusal.new.free.items c.push_all.new.list.items c.push_all-2.new.list.items c.in-Ok-meet_refusal.refusal
    is
    (sym c.in_default-refusal.is ∙ c.in_ok-refusal.ensures.refusal file told_one all)
    (c.in_ok-list.ensures.held ∙ ap (fixed_held c.args.header.now) (c.deref.ensures.value ∙ sym c.deref-2.ensures.value))
    (c.in_ok-refusal.ensures.records file told_one all c.in_default-refusal.is)
    (c.in_ok-refusal.ensures.free file told_one all c.in_default-refusal.is ∙ ap (λ (xs : List Held). xs ++ flat_map (free_held file c.args.header.now) c.deref-2.result.now) c.new-free.ensures.items)
    c.in_ok-push_all.ensures.last
    (c.in_ok-push_all-2.ensures.last ∙ ap (λ (xs : List Held). c.push_all.new.list.items ++ xs) c.deref-3.ensures.value)
    (c.in-Ok-meet_refusal.ensures ∙ ap (meet_fault c.args.header.now.next_block []) c.deref-4.ensures.value)
