use Rattle.std.proofs.Common.{◌≡◌, ◌∙◌, [], ◌∷◌, ◌++◌, Some, None, Ok, Err, refl, ap, sym, subst}
use Rattle.gd_base.proofs.Waits.{Waits, waits-nothing}
use Rattle.gd_base.proofs.Writes.{put-nothing}
use Rattle.gd_base.specs.Streams.{WritesFront}
use Rattle.gd_types.specs.Decoding.{datum_fault, datum_text}
use Rattle.gd_readable.specs.Standing.{StandsIn, left_of}
use Rattle.gd_vault.specs.Views.{content_of}
use Rattle.gd_session.specs.State.{seen}
use Rattle.gd_session.specs.Texts.{line, pair_text}
use Rattle.gd_session.proofs.Asked.{nothing_asked}
use Rattle.gd_session.proofs.Commands.{asks_trans}
use Rattle.gd_session.proofs.Listings.{AtFile, all_listed, at_now, failed_listed, misfit_listed, none_yet, now_fits, now_misfits, one_more, stopped_listed}
use Rattle.gd_session.proofs.Spaced.{line_parts, pair_fits}
use Rattle.gd_session.proofs.session.Session.put_lines.Goals as goal

pub records-init : goal.records-init
records-init g c = record {
  asks = nothing_asked (g.V.Vault.view_of c.args.vault.now);
  file = refl;
  stands = c.requires.stands;
  put = λ d x told is. none_yet (seen c.args.self.now) (left_of x.bytes c.args.walk.now) _ _ (waits-nothing _ _ (put-nothing (g.O.Sink.written c.args.out.now)));
  answered = refl;
  faults = refl;
  kept = g.met.O.Sink.kept_self c.args.out.now;
}

pub next-requires-clause-same : goal.next-requires-clause-same
next-requires-clause-same g c = λ d told x is.
    let old = c.records.invariant in
    at_now (g.V.Vault.view_of c.args.vault.now) (g.V.Vault.view_of c.records.vault) c.args.walk.now.f c.records.walk.f (λ file. StandsIn file c.records.walk) old.asks.told old.file old.stands d x told is

pub returns-in-Err-clause-lines : goal.returns-in-Err-clause-lines
returns-in-Err-clause-lines g c =
    λ d x told is.
    let old = c.records.invariant in
    stopped_listed (seen c.args.self.now) (left_of x.bytes c.args.walk.now) (left_of x.bytes c.records.walk) c.in-Err.error _ _ _ _ _ _ c.in-Err.ensures.refused
    (λ none. let no_ : None ≡ Some d = sym none ∙ (ap content_of old.asks.told ∙ told) in cc) (old.put d x told is)

pub returns-in_default-clause-lines : goal.returns-in_default-clause-lines
returns-in_default-clause-lines g c =
    λ d x told is.
    let old = c.records.invariant in
    let none : AtFile (g.V.Vault.view_of c.records.vault) c.records.walk.f (λ file. left_of file c.records.walk ≡ []) = rw c.in_default.is at c.in-Ok.ensures.none in
    all_listed (seen c.args.self.now) (left_of x.bytes c.args.walk.now) (left_of x.bytes c.records.walk) _ _ _ _ (none d (ap content_of old.asks.told ∙ told) x (ap d.files old.file ∙ is)) (old.put d x told is)

pub returns-in-Some-misfit-clause-lines : goal.returns-in-Some-misfit-clause-lines
returns-in-Some-misfit-clause-lines g c =
    λ d x told is.
    let old = c.records.invariant in
    let some : AtFile (g.V.Vault.view_of c.records.vault) c.records.walk.f (λ file. left_of file c.records.walk ≡ (c.in-Some.key, c.in-Some.content) ∷ left_of file c.next.new.self) = rw c.in-Some.is at c.in-Ok.ensures.some in
    misfit_listed (seen c.args.self.now) (left_of x.bytes c.args.walk.now) (left_of x.bytes c.records.walk) (left_of x.bytes c.next.new.self) (c.in-Some.key, c.in-Some.content) c.in-Some-misfit.error _ _ _ _
    (some d (ap content_of old.asks.told ∙ told) x (ap d.files old.file ∙ is))
    (now_misfits _ c.args.self.now c.in-Some.key c.in-Some.content _ _ c.in-Some-misfit.error c.self.view_is c.as_slice.ensures c.as_slice-in-records.ensures (sym c.misfit.ensures ∙ c.in-Some-misfit.is)) (old.put d x told is)

pub put_pair_line-put-requires-clause-content_fits : goal.put_pair_line-put-requires-clause-content_fits
put_pair_line-put-requires-clause-content_fits g c =
    let f = pair_fits c.self.inside.key_form c.self.inside.content_form c.as_slice.result.now c.as_slice-in-records.result.now [] (sym c.misfit.ensures ∙ c.in_default-misfit.is) in
    subst (λ t. datum_fault c.self.inside.content_form t ≡ None) (c.as_slice-in-records.ensures ∙ sym c.as_slice-in-records-3.ensures) f.1

pub returns-in-Err-put-clause-lines : goal.returns-in-Err-put-clause-lines
returns-in-Err-put-clause-lines g c =
    λ d x told is.
    let old = c.records.invariant in
    let k = datum_text c.self.inside.key_form c.as_slice-in-records-2.result.now c.as_slice-in-records-4.result.now in
    let v = datum_text c.self.inside.content_form c.as_slice-in-records-3.result.now c.as_slice-in-records-4.result.now in
    let some : AtFile (g.V.Vault.view_of c.records.vault) c.records.walk.f (λ file. left_of file c.records.walk ≡ (c.in-Some.key, c.in-Some.content) ∷ left_of file c.next.new.self) = rw c.in-Some.is at c.in-Ok.ensures.some in
    let fits = now_fits _ c.args.self.now _ _ _ c.in-Some.key c.in-Some.content _ _ c.self.view_is c.as_slice.ensures c.as_slice-in-records.ensures c.as_slice-in-records-2.ensures c.as_slice-in-records-3.ensures c.as_slice-in-records-4.ensures (sym c.misfit.ensures ∙ c.in_default-misfit.is) in
    failed_listed (seen c.args.self.now) (left_of x.bytes c.args.walk.now) (left_of x.bytes c.records.walk) (left_of x.bytes c.next.new.self) (c.in-Some.key, c.in-Some.content) (k ++ 32 ∷ v) _ (g.O.Sink.written c.records.out) (g.O.Sink.written c.put_pair_line-put.new.out) _ c.records.page.items c.put_pair_line-put.new.page.items
    (some d (ap content_of old.asks.told ∙ told) x (ap d.files old.file ∙ is)) fits (old.put d x told is)
    (subst (λ t. WritesFront (g.O.Sink.written c.records.out) (g.O.Sink.written c.put_pair_line-put.new.out) (c.records.page.items ++ t)) (line_parts k v) c.in-Err-put.ensures.bytes)

pub records-preserved : goal.records-preserved
records-preserved g c =
    let old = c.records.invariant in
    let before = g.V.Vault.view_of c.args.vault.now in
    let here = g.V.Vault.view_of c.records.vault in
    let k = datum_text c.self.inside.key_form c.as_slice-in-records-2.result.now c.as_slice-in-records-4.result.now in
    let v = datum_text c.self.inside.content_form c.as_slice-in-records-3.result.now c.as_slice-in-records-4.result.now in
    let some : AtFile here c.records.walk.f (λ file. left_of file c.records.walk ≡ (c.in-Some.key, c.in-Some.content) ∷ left_of file c.next.new.self) = rw c.in-Some.is at c.in-Ok.ensures.some in
    let fits = now_fits _ c.args.self.now _ _ _ c.in-Some.key c.in-Some.content _ _ c.self.view_is c.as_slice.ensures c.as_slice-in-records.ensures c.as_slice-in-records-2.ensures c.as_slice-in-records-3.ensures c.as_slice-in-records-4.ensures (sym c.misfit.ensures ∙ c.in_default-misfit.is) in
    record {
      asks = asks_trans before here (g.V.Vault.view_of c.next.new.vault) old.asks c.in-Ok.ensures.asks;
      file = c.in-Ok.ensures.file ∙ old.file;
      stands = at_now here before c.records.walk.f c.args.walk.now.f (λ file. StandsIn file c.next.new.self) (sym old.asks.told) (sym old.file) (λ d x told is. c.in-Ok.ensures.stands d told x is);
      put =
          λ d x told is.
          one_more (seen c.args.self.now) (left_of x.bytes c.args.walk.now) (left_of x.bytes c.records.walk) (left_of x.bytes c.next.new.self) (c.in-Some.key, c.in-Some.content) (k ++ 32 ∷ v) _ (g.O.Sink.written c.records.out) (g.O.Sink.written c.put_pair_line-put.new.out) _ c.records.page.items c.put_pair_line-put.new.page.items
          (old.put d x told is) (some d (ap content_of old.asks.told ∙ told) x (ap d.files old.file ∙ is)) fits
          (subst (λ t. Waits (g.O.Sink.written c.records.out) c.records.page.items (g.O.Sink.written c.put_pair_line-put.new.out) c.put_pair_line-put.new.page.items t) (line_parts k v) c.in-Ok-put.ensures.bytes);
      answered = c.in-Ok.ensures.answered ∙ old.answered;
      faults = c.in-Ok-put.ensures.cause.answered ∙ old.faults;
      kept = g.met.O.Sink.kept_on c.args.out.now c.records.out c.put_pair_line-put.new.out old.kept c.put_pair_line-put.ensures.kept;
    }
