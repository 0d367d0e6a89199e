use Rattle.std.proofs.Common.{◌≡◌, List, ℕ, Ok, refl, sym, ap, subst, ◌∙◌}
use Rattle.gd_types.specs.Encoding.{Refuses, typed_bytes}
use Rattle.gd_session.specs.Due.{changing}
use Rattle.gd_session.specs.Rows.{Needs, Stores, ToWrite}
use Rattle.gd_session.specs.State.{Held}
use Rattle.gd_session.proofs.Asked.{nothing_asked}
use Rattle.gd_session.proofs.Encoded.{content_refused, typed_caused, with_content, words_caused}
use Rattle.gd_session.proofs.Counting.{words_counts, words_out}
use Rattle.gd_session.proofs.session.Session.answer_content.Goals as goal

pub returns-in-Ok-clause-answer : goal.returns-in-Ok-clause-answer
returns-in-Ok-clause-answer g c =
    let typed = ap (λ (h : Held). typed_bytes h.content_form c.args.words.now) (sym c.self.view_is) ∙ c.in-Ok.ensures in
    with_content c.args.words.now c.in-Ok.content (λ v. Needs (ToWrite (Stores c.args.how c.args.key v))) _ _ c.answer.result typed c.answer.ensures.answer

pub returns-in-Ok-clause-cause : goal.returns-in-Ok-clause-cause
returns-in-Ok-clause-cause g c =
    let typed = ap (λ (h : Held). typed_bytes h.content_form c.args.words.now) (sym c.self.view_is) ∙ c.in-Ok.ensures in
    typed_caused _ c.in-Ok.content _ changing _ _ c.answer.result typed c.answer.ensures.cause

pub returns-in-Err-clause-answer : goal.returns-in-Err-clause-answer
returns-in-Err-clause-answer g c =
    let refuses = subst (λ (h : Held). Refuses c.in-Err.error (typed_bytes h.content_form c.args.words.now)) c.self.view_is c.in-Err.ensures in
    content_refused c.args.words.now c.in-Err.error (λ v. Needs (ToWrite (Stores c.args.how c.args.key v))) _ _ c.refused_words.result c.refused_words.ensures refuses (nothing_asked (g.V.Vault.view_of c.args.vault.now)) refl refl

pub returns-in-Err-clause-cause : goal.returns-in-Err-clause-cause
returns-in-Err-clause-cause g c =
    let refuses = subst (λ (h : Held). Refuses c.in-Err.error (typed_bytes h.content_form c.args.words.now)) c.self.view_is c.in-Err.ensures in
    words_caused _ _ changing _ _ c.in-Err.error c.refused_words.result c.refused_words.ensures refuses refl refl refl

pub returns-in-Err-clause-counted : goal.returns-in-Err-clause-counted
returns-in-Err-clause-counted g c = words_counts c.in-Err.error c.refused_words.result _ c.refused_words.ensures

pub returns-in-Err-clause-sink : goal.returns-in-Err-clause-sink
returns-in-Err-clause-sink g c = words_out c.in-Err.error c.refused_words.result _ c.refused_words.ensures
