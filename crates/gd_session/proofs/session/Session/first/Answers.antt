use Rattle.std.proofs.Common.{◌≡◌, true, false, refl, sym, ap, ◌∙◌, subst}
use Rattle.gd_session.specs.Calls.{is_fresh}
use Rattle.gd_session.specs.Rows.{first_row}
use Rattle.gd_session.specs.State.{Held}
use Rattle.gd_session.proofs.Asked.{ready_asked}
use Rattle.gd_session.proofs.Commands.{asks_trans}
use Rattle.gd_session.proofs.Keys.{found_answer, found_caused, not_found, not_found_caused}
use Rattle.gd_session.proofs.Counting.{counts_from}
use Rattle.gd_session.proofs.session.Session.first.Goals as goal

pub show-requires-clause-ready : goal.show-requires-clause-ready
show-requires-clause-ready g c = ready_asked (g.V.Vault.view_of c.args.vault.now) _ c.args.self.now _ c.requires.ready c.first_key.ensures.same c.first_key.ensures.asks

pub show-requires-clause-opened : goal.show-requires-clause-opened
show-requires-clause-opened g c = subst (λ (h : Held). is_fresh h.phase ≡ false) (sym c.first_key.ensures.same) c.requires.opened

pub returns-in-Ok-clause-asks : goal.returns-in-Ok-clause-asks
returns-in-Ok-clause-asks g c = asks_trans _ _ _ c.first_key.ensures.asks c.show.ensures.asks

pub returns-in-Ok-clause-answer : goal.returns-in-Ok-clause-answer
returns-in-Ok-clause-answer g c = found_answer first_row c.args.self.now _ _ _ c.in-Ok.key _ _ _ c.show.result c.first_key.ensures.same c.first_key.ensures.asks c.in-Ok.ensures.finds (λ next. c.show.ensures.answer first_row next)

pub returns-in-Ok-clause-cause : goal.returns-in-Ok-clause-cause
returns-in-Ok-clause-cause g c = found_caused c.args.self.now _ _ _ c.in-Ok.key _ _ _ c.show.result c.first_key.ensures.same c.first_key.ensures.asks first_row c.in-Ok.ensures.finds c.show.ensures.cause

pub returns-in-Err-clause-ready : goal.returns-in-Err-clause-ready
returns-in-Err-clause-ready g c = ready_asked (g.V.Vault.view_of c.args.vault.now) _ c.args.self.now _ c.requires.ready c.first_key.ensures.same c.first_key.ensures.asks

pub returns-in-Err-clause-answer : goal.returns-in-Err-clause-answer
returns-in-Err-clause-answer g c = not_found first_row c.args.self.now _ _ _ _ _ c.in-Err.error c.first_key.ensures.same c.in-Err.ensures.finds

pub returns-in-Err-clause-cause : goal.returns-in-Err-clause-cause
returns-in-Err-clause-cause g c = not_found_caused first_row c.args.self.now _ _ _ _ _ c.in-Err.error c.first_key.ensures.same c.in-Err.ensures.finds

pub returns-in-Ok-clause-counted : goal.returns-in-Ok-clause-counted
returns-in-Ok-clause-counted g c = counts_from c.show.result _ _ _ c.in-Ok.ensures.answered c.show.ensures.counted
