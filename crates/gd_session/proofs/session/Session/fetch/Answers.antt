use Rattle.std.proofs.Common.{◌≡◌, Ok, Err, refl, sym, ap, ◌∙◌, ◌≤◌, arith}
use Rattle.gd_store.specs.Replies.{is_of_asking}
use Rattle.gd_vault.specs.Views.{OnlyAsks}
use Rattle.gd_session.specs.Due.{ask_due, showing}
use Rattle.gd_session.specs.Rows.{Asks, fetch_row}
use Rattle.gd_session.specs.State.{seen}
use Rattle.gd_session.proofs.Asked.{asks_answered, asks_refused, nothing_asked, open_asked, open_at, ready_asked, shut_answer}
use Rattle.gd_session.proofs.Caused.{answered_caused, refused_caused, scene_same, shows_caused, shut_caused}
use Rattle.gd_session.proofs.Changed.{same_store}
use Rattle.gd_session.proofs.Commands.{absent_link, fetch_shown, held_phase, held_same, seen_phase, shows_for, shut_seen}
use Rattle.gd_session.proofs.Counting.{shows_counts}
use Rattle.gd_session.proofs.session.Session.fetch.Goals as goal
use Rattle.gd_session.proofs.session.Session.fetch.Goals.{in-Ok, in-Err}

pub returns-in_default : goal.returns-in_default
returns-in_default g c =
    let u = g.V.Vault.view_of c.args.vault.now in
    let asks = nothing_asked u in
    let shut = shut_seen _ _ c.self.view_is c.requires.opened c.in_default.not-Open in
    record {
      ready = ready_asked u u c.args.self.now _ c.requires.ready c.self.view_is asks;
      same = c.self.view_is;
      asks = asks;
      later = omega arith;
      kept = g.met.O.Sink.kept_self c.args.out.now;
      counted = refl;
      sink = refl;
      answer = shut_answer (Asks (fetch_row c.args.key.now)) _ _ shut asks refl (ap seen c.self.view_is);
      cause = shut_caused ask_due showing _ _ refl shut (scene_same _ _ u u _ _ c.self.view_is refl);
    }

pub returns-clause-same : goal.returns-clause-same
returns-clause-same g c = held_same _ _ _ _ c.self.view_is c.in-Open.is (same_store _ _ c.fetch.ensures.same)

pub returns-clause-ready : goal.returns-clause-ready
returns-clause-ready g c =
    let u = g.V.Vault.view_of c.args.vault.now in
    ready_asked u (g.V.Vault.view_of c.fetch.new.vault) c.args.self.now _ c.requires.ready (held_same _ _ _ _ c.self.view_is c.in-Open.is (same_store _ _ c.fetch.ensures.same)) c.fetch.ensures.asks

pub returns-clause-answer : goal.returns-clause-answer
returns-clause-answer g c =
    let p = held_phase _ _ c.in-Open.store c.self.view_is c.in-Open.is in
    let q = seen_phase c.args.self.now c.in-Open.store p in
    let is_open = open_at (g.V.Vault.view_of c.args.vault.now) c.args.self.now c.in-Open.store c.requires.ready p in
    let same = ap seen (held_same _ _ _ _ c.self.view_is c.in-Open.is (same_store _ _ c.fetch.ensures.same)) in
    let asks = c.fetch.ensures.asks in
    elim c.match-fetch.branch [
      | in-Ok w ↦ rw (w.result-is, w.out-is) (asks_answered (fetch_row c.args.key.now) _ _ c.in-Open.store w.say_datum.result w.in-Ok.content c.fetch.result w.in-Ok.is q is_open.there asks (λ b. (c.fetch.ensures.broken b).0)
          (λ k x told there. fetch_shown _ _ c.args.key.now w.in-Ok.content _ _ w.say_datum.result (w.in-Ok.ensures.value k x told there) (shows_for _ _ _ w.in-Ok.content _ w.say_datum.result _ _ _ _ c.self.view_is w.as_slice.ensures w.as_slice-in-Ok.ensures w.say_datum.ensures.shows) same refl))
      | in-Err w ↦ rw (w.result-is, w.out-is) (asks_refused (fetch_row c.args.key.now) _ _ _ c.in-Open.store w.in-Err.error c.fetch.result w.in-Err.is q is_open.there asks refl same (λ b. (c.fetch.ensures.broken b).0)
          w.in-Err.ensures.refused (absent_link c.args.key.now _ w.in-Err.error))
    ]

pub returns-clause-cause : goal.returns-clause-cause
returns-clause-cause g c =
    let p = held_phase _ _ c.in-Open.store c.self.view_is c.in-Open.is in
    let q = seen_phase c.args.self.now c.in-Open.store p in
    let back = held_same _ _ _ _ c.self.view_is c.in-Open.is (same_store _ _ c.fetch.ensures.same) in
    elim c.match-fetch.branch [
      | in-Ok w ↦ rw (w.result-is, w.out-is) (answered_caused showing _ _ c.in-Open.store w.say_datum.result w.in-Ok.content c.fetch.result w.in-Ok.is refl q (λ b. (c.fetch.ensures.broken b).0)
          (shows_caused showing _ _ _ w.say_datum.result refl refl refl w.say_datum.ensures.shows))
      | in-Err w ↦ rw (w.result-is, w.out-is) (refused_caused showing is_of_asking _ _ c.in-Open.store w.in-Err.error c.fetch.result _ w.in-Err.is refl refl refl refl q (λ b. (c.fetch.ensures.broken b).0)
          (λ b. scene_same _ _ _ _ _ _ back (c.fetch.ensures.broken b).2) (λ b. (w.in-Err.ensures.refused b).kind) (λ b. (w.in-Err.ensures.refused b).cause))
    ]

pub returns-clause-counted : goal.returns-clause-counted
returns-clause-counted g c =
    elim c.match-fetch.branch [
      | in-Ok w ↦ rw w.result-is (shows_counts _ w.say_datum.result _ _ _ _ _ _ w.say_datum.ensures.shows w.in-Ok.ensures.answered)
      | in-Err w ↦ rw w.result-is w.in-Err.ensures.counted
    ]

pub returns-clause-sink : goal.returns-clause-sink
returns-clause-sink g c =
    elim c.match-fetch.branch [
      | in-Ok w ↦ rw (w.result-is, w.out-is) w.say_datum.ensures.sink
      | in-Err w ↦ rw (w.result-is, w.out-is) refl
    ]
