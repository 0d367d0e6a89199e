use Rattle.std.proofs.Common.{◌≡◌, List, ℕ, Ok, refl, sym, ap, subst, ◌∙◌}
use Rattle.gd_types.specs.Encoding.{Refuses, typed_bytes}
use Rattle.gd_session.specs.Calls.{Answers}
use Rattle.gd_session.specs.Due.{phase_due}
use Rattle.gd_session.specs.Requests.{keyed_due, keyed_kind, keyed_request, request_row}
use Rattle.gd_session.specs.Rows.{Needs}
use Rattle.gd_session.specs.State.{Held, seen}
use Rattle.gd_session.proofs.Asked.{nothing_asked}
use Rattle.gd_session.proofs.Encoded.{key_refused, keyed_answer, keyed_caused, keyed_proper, keyed_quits, keyed_types, typed_caused, with_key, words_caused}
use Rattle.gd_session.proofs.Counting.{keyed_counts, words_counts, words_out}
use Rattle.gd_session.proofs.session.Session.answer_key.Goals as goal

pub answer-requires-clause-proper : goal.answer-requires-clause-proper
answer-requires-clause-proper g c = keyed_proper c.args.keyed _ c.in-Ok.key c.request.ensures

pub returns-in-Ok-clause-answer : goal.returns-in-Ok-clause-answer
returns-in-Ok-clause-answer g c =
    let typed = ap (λ (h : Held). typed_bytes h.key_form c.args.words.now) (sym c.self.view_is) ∙ c.in-Ok.ensures in
    with_key c.args.words.now c.in-Ok.key (λ k. Needs (request_row (keyed_request c.args.keyed k))) _ _ c.answer.result typed (keyed_answer _ _ _ _ c.answer.result c.request.ensures c.answer.ensures.answer)

pub returns-in-Ok-clause-cause : goal.returns-in-Ok-clause-cause
returns-in-Ok-clause-cause g c =
    let typed = ap (λ (h : Held). typed_bytes h.key_form c.args.words.now) (sym c.self.view_is) ∙ c.in-Ok.ensures in
    typed_caused _ c.in-Ok.key _ _ _ _ c.answer.result typed (keyed_caused c.args.keyed _ c.in-Ok.key _ _ _ c.answer.result c.request.ensures c.answer.ensures.cause)

pub returns-in-Err-clause-answer : goal.returns-in-Err-clause-answer
returns-in-Err-clause-answer g c =
    let refuses = subst (λ (h : Held). Refuses c.in-Err.error (typed_bytes h.key_form c.args.words.now)) c.self.view_is c.in-Err.ensures in
    key_refused c.args.words.now c.in-Err.error (λ k. Needs (request_row (keyed_request c.args.keyed k))) _ _ c.refused_words.result c.refused_words.ensures refuses (nothing_asked (g.V.Vault.view_of c.args.vault.now)) refl refl

pub returns-in-Err-clause-cause : goal.returns-in-Err-clause-cause
returns-in-Err-clause-cause g c =
    let refuses = subst (λ (h : Held). Refuses c.in-Err.error (typed_bytes h.key_form c.args.words.now)) c.self.view_is c.in-Err.ensures in
    words_caused _ _ (keyed_kind c.args.keyed) _ _ c.in-Err.error c.refused_words.result c.refused_words.ensures refuses (keyed_quits c.args.keyed) (keyed_types c.args.keyed) refl

pub returns-in-Ok-clause-counted : goal.returns-in-Ok-clause-counted
returns-in-Ok-clause-counted g c = keyed_counts c.args.keyed _ c.in-Ok.key c.answer.result _ _ c.request.ensures c.answer.ensures.counted

pub returns-in-Err-clause-counted : goal.returns-in-Err-clause-counted
returns-in-Err-clause-counted g c = words_counts c.in-Err.error c.refused_words.result _ c.refused_words.ensures

pub returns-in-Err-clause-sink : goal.returns-in-Err-clause-sink
returns-in-Err-clause-sink g c = words_out c.in-Err.error c.refused_words.result _ c.refused_words.ensures
