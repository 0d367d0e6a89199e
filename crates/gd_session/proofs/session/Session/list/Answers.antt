use Rattle.std.proofs.Common.{◌≡◌, ◌∙◌, ℕ, List, Some, refl, sym, ap, subst, arith, ◌≤◌}
use Rattle.gd_format.specs.File.{records}
use Rattle.gd_readable.specs.Standing.{StandsIn, left_of}
use Rattle.gd_store.proofs.Asking.{is_readable}
use Rattle.gd_vault.specs.Views.{content_of}
use Rattle.gd_session.specs.Due.{ask_due, showing}
use Rattle.gd_session.specs.Listing.{IsListCause, Listed}
use Rattle.gd_session.specs.Rows as rows
use Rattle.gd_session.specs.State.{seen}
use Rattle.gd_session.specs.Texts.{Pair}
use Rattle.gd_session.proofs.Asked.{broken_answer, nothing_asked, open_at, ready_asked, shut_answer}
use Rattle.gd_session.proofs.Caused.{shut_caused}
use Rattle.gd_session.proofs.Commands.{asks_trans, held_phase, seen_phase, shut_seen}
use Rattle.gd_session.proofs.Listings.{at_now, list_answer, list_refused}
use Rattle.gd_session.proofs.Counting.{list_from}
use Rattle.gd_session.proofs.session.Session.list.Goals as goal

pub returns-in_default : goal.returns-in_default
returns-in_default g c =
    let u = g.V.Vault.view_of c.args.vault.now in
    let asks = nothing_asked u in
    let shut = shut_seen _ _ c.self.view_is c.requires.opened c.in_default.not-Open in
    record {
      same = refl;
      ready = c.requires.ready;
      asks = asks;
      later = omega arith;
      kept = g.met.O.Sink.kept_self c.args.out.now;
      counted = refl;
      sink = refl;
      answer = shut_answer rows.Lists _ _ shut asks refl refl;
      cause = shut_caused ask_due showing _ _ refl shut refl;
    }

pub returns-then-is_broken-clause-answer : goal.returns-then-is_broken-clause-answer
returns-then-is_broken-clause-answer g c =
    let q = seen_phase c.args.self.now c.in-Open.store (held_phase _ _ c.in-Open.store c.self.view_is c.in-Open.is) in
    broken_answer rows.Lists _ _ c.in-Open.store q (sym c.is_broken.ensures ∙ c.if-is_broken.true) (nothing_asked (g.V.Vault.view_of c.args.vault.now)) refl refl

pub start-requires-clause-readable : goal.start-requires-clause-readable
start-requires-clause-readable g c = λ d told x is.
    let p = held_phase _ _ c.in-Open.store c.self.view_is c.in-Open.is in
    let is_open = open_at (g.V.Vault.view_of c.args.vault.now) c.args.self.now c.in-Open.store c.requires.ready p in
    let o = is_open.fits (sym c.is_broken.ensures ∙ c.if-is_broken.false) d x told (ap d.files (sym c.file.ensures) ∙ is) in
    (is_readable c.in-Open.store.access c.in-Open.store.header c.in-Open.store.table x.bytes o.right, c.header.ensures.is ∙ o.header)

pub returns-in-Err-clause-ready : goal.returns-in-Err-clause-ready
returns-in-Err-clause-ready g c = ready_asked (g.V.Vault.view_of c.args.vault.now) (g.V.Vault.view_of c.start.new.vault) c.args.self.now _ c.requires.ready refl c.start.ensures.asks

pub returns-in-Err-clause-answer : goal.returns-in-Err-clause-answer
returns-in-Err-clause-answer g c =
    let p = held_phase _ _ c.in-Open.store c.self.view_is c.in-Open.is in
    let is_open = open_at (g.V.Vault.view_of c.args.vault.now) c.args.self.now c.in-Open.store c.requires.ready p in
    list_refused _ _ c.in-Open.store c.in-Err.error (seen_phase c.args.self.now c.in-Open.store p) (sym c.is_broken.ensures ∙ c.if-is_broken.false) is_open.there c.start.ensures.asks refl refl c.in-Err.ensures.refused

pub list_walk-requires-clause-stands : goal.list_walk-requires-clause-stands
list_walk-requires-clause-stands g c = λ d x told is.
    c.in-Ok.ensures.stands d (ap content_of (sym c.start.ensures.asks.told) ∙ told) x (ap d.files (sym c.in-Ok.ensures.file) ∙ is)

pub returns-clause-ready : goal.returns-clause-ready
returns-clause-ready g c =
    ready_asked (g.V.Vault.view_of c.args.vault.now) (g.V.Vault.view_of c.list_walk.new.vault) c.args.self.now _ c.requires.ready refl (asks_trans _ _ _ c.start.ensures.asks c.list_walk.ensures.asks)

pub returns-clause-answer : goal.returns-clause-answer
returns-clause-answer g c =
    let p = held_phase _ _ c.in-Open.store c.self.view_is c.in-Open.is in
    let u = g.V.Vault.view_of c.args.vault.now in
    let is_open = open_at u c.args.self.now c.in-Open.store c.requires.ready p in
    let r = c.list_walk.result in
    let s = c.list_walk.ensures in
    list_answer _ _ c.in-Open.store r (seen_phase c.args.self.now c.in-Open.store p) (sym c.is_broken.ensures ∙ c.if-is_broken.false) is_open.there (asks_trans _ _ _ c.start.ensures.asks s.asks) refl
    (λ d x told is.
    let here = ap d.files c.file.ensures ∙ is in
    subst (λ (ps : List Pair). Listed (seen c.args.self.now) ps r (g.O.Sink.written c.args.out.now) (g.O.Sink.written c.list_walk.new.out)) (c.in-Ok.ensures.records d told x here)
    (s.listed d x (ap content_of c.start.ensures.asks.told ∙ told) (ap d.files c.in-Ok.ensures.file ∙ here)))
    (subst (λ (n : ℕ). IsListCause r n (g.V.Vault.view_of c.list_walk.new.vault).faults (g.O.Sink.fault_count c.args.out.now) (g.O.Sink.fault_count c.list_walk.new.out)) c.in-Ok.ensures.answered s.cause)

pub returns-clause-counted : goal.returns-clause-counted
returns-clause-counted g c = list_from c.list_walk.result _ _ _ c.in-Ok.ensures.answered c.list_walk.ensures.counted
