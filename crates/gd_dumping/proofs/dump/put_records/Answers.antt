use Rattle.std.proofs.Common.{◌≡◌, ◌∙◌, ◌<◌, [], ◌∷◌, ◌++◌, Some, refl, ap, sym, arith, length}
use Rattle.gd_base.specs.Pages.{Pends}
use Rattle.gd_base.proofs.Waits.{Waits, pends-after, pends-front, waits-more}
use Rattle.gd_vault.specs.Content.{File}
use Rattle.gd_vault.specs.Views.{IsAt, content_of}
use Rattle.gd_readable.specs.Standing.{StandsIn, left_of, slots_of_walk}
use Rattle.gd_dumping.specs.Dump.{AtFile}
use Rattle.gd_dumping.specs.Forms.{pair_in, pairs_in}
use Rattle.gd_dumping.proofs.Files.{asks_on, at_now, pends_stop}
use Rattle.gd_dumping.proofs.Ends.{counted_on, err_map, output_counts, walk_counts}
use Rattle.gd_dumping.proofs.Texts.{pairs_more, pairs_split}
use Rattle.gd_dumping.proofs.dump.put_records.Goals as goal

pub next-requires-clause-same : goal.next-requires-clause-same
next-requires-clause-same g c =
    let old = c.records.invariant in
    at_now (g.V.Vault.view_of c.args.vault.now) (g.V.Vault.view_of c.records.vault) c.args.walk.now.f c.records.walk.f (λ file. StandsIn file c.records.walk) old.asks.told old.file old.stands

pub returns-in_err-key-clause-bytes : goal.returns-in_err-key-clause-bytes
returns-in_err-key-clause-bytes g c =
    λ d told x is.
    let done = c.records.invariant.put d told x is in
    rw done.2 (pends_stop _ c.from_residual.result _ _ _ _ done.0 (pairs_in c.args.form (left_of x.bytes c.records.walk)) c.from_residual.ensures.1 done.1)

pub returns-in_err-put_pair-clause-bytes : goal.returns-in_err-put_pair-clause-bytes
returns-in_err-put_pair-clause-bytes g c =
    λ d told x is.
    let old = c.records.invariant in
    let done = old.put d told x is in
    let some : AtFile (g.V.Vault.view_of c.records.vault) c.records.walk.f (λ file. left_of file c.records.walk ≡ (c.in-Some.key, c.in-Some.value) ∷ left_of file c.next.new.self) = rw c.in-Some.is at c.in_ok-key.ensures.some in
    let next = some d (ap content_of old.asks.told ∙ told) x (ap d.files old.file ∙ is) in
    let sink = g.O.Sink in
    let r = c.from_residual-in_err-put_pair.result in
    let pair = pair_in c.args.form c.in-Some.key c.in-Some.value in
    let rest = pairs_in c.args.form (left_of x.bytes c.next.new.self) in
    rw (done.2, pairs_split c.args.form (c.in-Some.key, c.in-Some.value) (left_of x.bytes c.records.walk) (left_of x.bytes c.next.new.self) next)
    (pends-after r _ _ _ _ _ _ done.0 (pair ++ rest) done.1
    (pends-front _ r _ _ _ _ pair rest c.from_residual-in_err-put_pair.ensures.1 (rw (c.as_slice.ensures, c.as_slice-in-Some.ensures) at c.in_err-put_pair.ensures.bytes)))

pub records-preserved : goal.records-preserved
records-preserved g c =
    let old = c.records.invariant in
    let before = g.V.Vault.view_of c.args.vault.now in
    let here = g.V.Vault.view_of c.records.vault in
    let sink = g.O.Sink in
    let some : AtFile here c.records.walk.f (λ file. left_of file c.records.walk ≡ (c.in-Some.key, c.in-Some.value) ∷ left_of file c.next.new.self) = rw c.in-Some.is at c.in_ok-key.ensures.some in
    let further : slots_of_walk c.next.new.self < slots_of_walk c.records.walk = rw c.in-Some.is at c.in_ok-key.ensures.further in
    let pair = pair_in c.args.form c.in-Some.key c.in-Some.value in
    let put : Waits (sink.written c.records.out) c.records.page.items (sink.written c.put_pair.new.out) c.put_pair.new.page.items pair = rw (c.as_slice.ensures, c.as_slice-in-Some.ensures) at c.in_ok-put_pair.ensures.bytes in
    record {
      asks = asks_on before here (g.V.Vault.view_of c.next.new.vault) old.asks c.in_ok-key.ensures.asks;
      file = c.in_ok-key.ensures.file ∙ old.file;
      stands = at_now here before c.records.walk.f c.args.walk.now.f (λ file. StandsIn file c.next.new.self) (sym old.asks.told) (sym old.file) c.in_ok-key.ensures.stands;
      put =
          λ d told x is.
          let done = old.put d told x is in
          let next = some d (ap content_of old.asks.told ∙ told) x (ap d.files old.file ∙ is) in (
            done.0 ++ pair,
            waits-more _ _ _ _ _ _ done.0 pair done.1 put,
            pairs_more c.args.form _ done.0 (c.in-Some.key, c.in-Some.value) (left_of x.bytes c.records.walk) (left_of x.bytes c.next.new.self) done.2 next,
          );
      count =
          λ d told x is.
          let next = some d (ap content_of old.asks.told ∙ told) x (ap d.files old.file ∙ is) in
          let more : length (left_of x.bytes c.records.walk) ≡ length ((c.in-Some.key, c.in-Some.value) ∷ left_of x.bytes c.next.new.self) = ap length next in
          omega (arith, old.count d told x is, more);
      few = omega (arith, old.few, further);
      answered = c.in_ok-key.ensures.answered ∙ old.answered;
      faults = c.in_ok-put_pair.ensures.cause.answered ∙ old.faults;
      kept = g.met.O.Sink.kept_on c.args.out.now c.records.out c.put_pair.new.out old.kept c.put_pair.ensures.kept;
    }

pub returns-clause-count : goal.returns-clause-count
returns-clause-count g c =
    λ d told x is.
    let old = c.records.invariant in
    let none : AtFile (g.V.Vault.view_of c.records.vault) c.records.walk.f (λ file. left_of file c.records.walk ≡ []) = rw c.in_default.is at c.in_ok-key.ensures.none in
    let end : length (left_of x.bytes c.records.walk) ≡ 0 = ap length (none d (ap content_of old.asks.told ∙ told) x (ap d.files old.file ∙ is)) in
    omega (arith, old.count d told x is, end)

pub returns-in_err-key-clause-counted : goal.returns-in_err-key-clause-counted
returns-in_err-key-clause-counted g c =
    let old = c.records.invariant in
    err_map _ _ c.from_residual.result c.from_residual.ensures.1
    (λ e gives. counted_on e _ _ _ _ _ _ (walk_counts _ e _ _ _ _ gives c.in_err-key.ensures.counted refl) old.answered old.faults)

pub returns-in_err-put_pair-clause-counted : goal.returns-in_err-put_pair-clause-counted
returns-in_err-put_pair-clause-counted g c =
    let old = c.records.invariant in
    err_map _ _ c.from_residual-in_err-put_pair.result c.from_residual-in_err-put_pair.ensures.1
    (λ e gives. counted_on e _ _ _ _ _ _ (output_counts e _ _ _ _ gives refl c.in_err-put_pair.ensures.cause.failed c.in_err-put_pair.ensures.cause.once) (c.in_ok-key.ensures.answered ∙ old.answered) old.faults)

pub returns-clause-answered : goal.returns-clause-answered
returns-clause-answered g c =
    let old = c.records.invariant in
    (c.in_ok-key.ensures.answered ∙ old.answered, old.faults)
