use Rattle.std.proofs.Common.{◌≡◌, List, ℕ, Ok, refl, sym, ap, subst, ◌∙◌}
use Rattle.gd_types.specs.Encoding.{Refuses, typed_bytes}
use Rattle.gd_session.specs.Due.{changing}
use Rattle.gd_session.specs.Rows.{Needs, Stores, ToWrite, WithContent}
use Rattle.gd_session.specs.State.{Held}
use Rattle.gd_session.proofs.Asked.{nothing_asked}
use Rattle.gd_session.proofs.Encoded.{key_refused, typed_caused, with_key, words_caused}
use Rattle.gd_session.proofs.Counting.{words_counts, words_out}
use Rattle.gd_session.proofs.session.Session.answer_pair.Goals as goal

pub returns-in-Ok-clause-answer : goal.returns-in-Ok-clause-answer
returns-in-Ok-clause-answer g c =
    let typed = ap (λ (h : Held). typed_bytes h.key_form c.args.key.now) (sym c.self.view_is) ∙ c.in-Ok.ensures in
    with_key c.args.key.now c.in-Ok.key (λ k. WithContent c.args.content.now (λ v. Needs (ToWrite (Stores c.args.how k v)))) _ _ c.answer_content.result typed c.answer_content.ensures.answer

pub returns-in-Ok-clause-cause : goal.returns-in-Ok-clause-cause
returns-in-Ok-clause-cause g c =
    let typed = ap (λ (h : Held). typed_bytes h.key_form c.args.key.now) (sym c.self.view_is) ∙ c.in-Ok.ensures in
    typed_caused _ c.in-Ok.key _ changing _ _ c.answer_content.result typed c.answer_content.ensures.cause

pub returns-in-Err-clause-answer : goal.returns-in-Err-clause-answer
returns-in-Err-clause-answer g c =
    let refuses = subst (λ (h : Held). Refuses c.in-Err.error (typed_bytes h.key_form c.args.key.now)) c.self.view_is c.in-Err.ensures in
    key_refused c.args.key.now c.in-Err.error (λ k. WithContent c.args.content.now (λ v. Needs (ToWrite (Stores c.args.how k v)))) _ _ c.refused_words.result c.refused_words.ensures refuses (nothing_asked (g.V.Vault.view_of c.args.vault.now)) refl refl

pub returns-in-Err-clause-cause : goal.returns-in-Err-clause-cause
returns-in-Err-clause-cause g c =
    let refuses = subst (λ (h : Held). Refuses c.in-Err.error (typed_bytes h.key_form c.args.key.now)) c.self.view_is c.in-Err.ensures in
    words_caused _ _ changing _ _ c.in-Err.error c.refused_words.result c.refused_words.ensures refuses refl refl refl

pub returns-in-Err-clause-counted : goal.returns-in-Err-clause-counted
returns-in-Err-clause-counted g c = words_counts c.in-Err.error c.refused_words.result _ c.refused_words.ensures

pub returns-in-Err-clause-sink : goal.returns-in-Err-clause-sink
returns-in-Err-clause-sink g c = words_out c.in-Err.error c.refused_words.result _ c.refused_words.ensures
