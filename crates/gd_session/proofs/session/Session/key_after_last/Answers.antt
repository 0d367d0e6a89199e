use Rattle.std.proofs.Common.{◌≡◌, true, false, Some, None, Ok, Err, refl, sym, ap, subst, ◌∙◌}
use Rattle.gd_format.specs.File.{records}
use Rattle.gd_base.specs.declared.errors.DbError.TheVariants.{ItemNotFound}
use Rattle.gd_store.specs.Replies.{next_due}
use Rattle.gd_session.specs.Due.{ask_due, showing}
use Rattle.gd_session.specs.Rows.{Asks, next_row}
use Rattle.gd_session.specs.State.{Held, seen}
use Rattle.gd_session.proofs.Asked.{nothing_asked, open_at, shut_answer}
use Rattle.gd_session.proofs.Caused.{shut_caused}
use Rattle.gd_session.proofs.Changed.{same_store}
use Rattle.gd_session.proofs.Commands.{held_phase, held_same, ok_map, shut_seen}
use Rattle.gd_session.proofs.Keys.{broken_last, finds, finds_as, next_at, next_link, no_last, none_kept}
use Rattle.gd_session.proofs.session.Session.key_after_last.Goals as goal

pub returns-in_default : goal.returns-in_default
returns-in_default g c =
    let u = g.V.Vault.view_of c.args.vault.now in
    let asks = nothing_asked u in
    let shut = shut_seen _ _ c.self.view_is c.requires.opened c.in_default.not-Open in
    record {
      same = c.self.view_is;
      asks = asks;
      answered = tt;
      counted = refl;
      finds = record {
        answer = λ out failed. shut_answer (Asks (next_row c.args.self.now.last)) _ _ shut asks refl refl;
        cause = λ out failed. shut_caused ask_due showing _ _ refl shut refl;
      };
    }

pub returns-clause-same : goal.returns-clause-same
returns-clause-same g c = held_same _ _ _ _ c.self.view_is c.in-Open.is (same_store _ _ c.next.ensures.same)

pub returns-then-is_broken-clause-finds : goal.returns-then-is_broken-clause-finds
returns-then-is_broken-clause-finds g c =
    let p = held_phase _ _ c.in-Open.store c.self.view_is c.in-Open.is in
    let u = g.V.Vault.view_of c.args.vault.now in
    let is_open = open_at u c.args.self.now c.in-Open.store c.requires.ready p in
    broken_last (next_row c.args.self.now.last) c.args.self.now u c.in-Open.store p is_open.there (sym c.is_broken.ensures ∙ c.if-is_broken.true)

pub returns-in_default-last-clause-finds : goal.returns-in_default-last-clause-finds
returns-in_default-last-clause-finds g c =
    let p = held_phase _ _ c.in-Open.store c.self.view_is c.in-Open.is in
    let u = g.V.Vault.view_of c.args.vault.now in
    let is_open = open_at u c.args.self.now c.in-Open.store c.requires.ready p in
    no_last c.args.self.now u c.in-Open.store p is_open.there (ap (λ (h : Held). h.last) (sym c.self.view_is) ∙ none_kept _ c.in_default-last.not-Some) (sym c.is_broken.ensures ∙ c.if-is_broken.false)

pub returns-clause-finds : goal.returns-clause-finds
returns-clause-finds g c =
    let p = held_phase _ _ c.in-Open.store c.self.view_is c.in-Open.is in
    let u = g.V.Vault.view_of c.args.vault.now in
    let is_open = open_at u c.args.self.now c.in-Open.store c.requires.ready p in
    let e = c.next.ensures in
    let key = c.as_slice.result.now in
    let last = ap (λ (h : Held). h.last) (sym c.self.view_is) ∙ (c.in-Some.is ∙ ap Some (sym c.as_slice.ensures)) in
    finds_as (next_row c.args.self.now.last) (next_row (Some key)) c.args.self.now u (g.V.Vault.view_of c.next.new.vault) c.next.result (ap next_row last)
    (finds (next_row (Some key)) (λ file. next_due key (records file)) c.args.self.now u (g.V.Vault.view_of c.next.new.vault) c.in-Open.store c.next.result p is_open.there e.asks (λ b. (e.broken b).0) (λ b. (e.broken b).2)
    (λ b. ok_map c.next.result _ _ (λ k h. next_at u c.args.self.now c.in-Open.store key k is_open.fits b h) e.next) e.refused (next_link key (seen c.args.self.now)))
