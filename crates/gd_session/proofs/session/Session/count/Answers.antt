use Rattle.std.proofs.Common.{◌≡◌, Ok, Err, refl, sym, ap, ◌∙◌, ◌≤◌, arith}
use Rattle.std.specs.Fmt.{decimal}
use Rattle.gd_open.specs.Reading.{is_of_read}
use Rattle.gd_store.specs.Replies.{none_due}
use Rattle.gd_vault.specs.Views.{OnlyAsks}
use Rattle.gd_session.specs.Due.{ask_due, counting}
use Rattle.gd_session.specs.Rows.{Asks, count_row}
use Rattle.gd_session.specs.State.{seen}
use Rattle.gd_session.specs.Texts.{line}
use Rattle.gd_session.proofs.Asked.{asks_answered, asks_refused, nothing_asked, open_asked, open_at, ready_asked, shut_answer}
use Rattle.gd_session.proofs.Caused.{answered_caused, refused_caused, said_caused, scene_same, shut_caused}
use Rattle.gd_session.proofs.Changed.{same_store}
use Rattle.gd_session.proofs.Commands.{count_shown, held_phase, held_same, none_link, read_asking, seen_phase, shut_seen}
use Rattle.gd_session.proofs.Counting.{said_counts}
use Rattle.gd_session.proofs.session.Session.count.Goals as goal
use Rattle.gd_session.proofs.session.Session.count.Goals.{in-Ok, in-Err}

pub returns-in_default : goal.returns-in_default
returns-in_default g c =
    let u = g.V.Vault.view_of c.args.vault.now in
    let asks = nothing_asked u in
    let shut = shut_seen _ _ c.self.view_is c.requires.opened c.in_default.not-Open in
    record {
      ready = ready_asked u u c.args.self.now _ c.requires.ready c.self.view_is asks;
      same = c.self.view_is;
      asks = asks;
      later = omega arith;
      kept = g.met.O.Sink.kept_self c.args.out.now;
      counted = refl;
      sink = refl;
      answer = shut_answer (Asks count_row) _ _ shut asks refl (ap seen c.self.view_is);
      cause = shut_caused ask_due counting _ _ refl shut (scene_same _ _ u u _ _ c.self.view_is refl);
    }

pub returns-clause-same : goal.returns-clause-same
returns-clause-same g c = held_same _ _ _ _ c.self.view_is c.in-Open.is (same_store _ _ c.count.ensures.same)

pub returns-clause-ready : goal.returns-clause-ready
returns-clause-ready g c =
    let u = g.V.Vault.view_of c.args.vault.now in
    ready_asked u (g.V.Vault.view_of c.count.new.vault) c.args.self.now _ c.requires.ready (held_same _ _ _ _ c.self.view_is c.in-Open.is (same_store _ _ c.count.ensures.same)) c.count.ensures.asks

pub returns-clause-answer : goal.returns-clause-answer
returns-clause-answer g c =
    let p = held_phase _ _ c.in-Open.store c.self.view_is c.in-Open.is in
    let q = seen_phase c.args.self.now c.in-Open.store p in
    let is_open = open_at (g.V.Vault.view_of c.args.vault.now) c.args.self.now c.in-Open.store c.requires.ready p in
    let same = ap seen (held_same _ _ _ _ c.self.view_is c.in-Open.is (same_store _ _ c.count.ensures.same)) in
    let asks = c.count.ensures.asks in
    elim c.match-count.branch [
      | in-Ok w ↦ rw (w.result-is, w.out-is) (asks_answered count_row _ _ c.in-Open.store w.say_number.result w.in-Ok.count c.count.result w.in-Ok.is q is_open.there asks (λ b. (c.count.ensures.broken b).0)
          (λ k x told there. count_shown _ _ w.in-Ok.count _ _ w.say_number.result (w.in-Ok.ensures.count k x told there) w.say_number.ensures.said same refl))
      | in-Err w ↦ rw (w.result-is, w.out-is) (asks_refused count_row _ _ _ c.in-Open.store w.in-Err.error c.count.result w.in-Err.is q is_open.there asks refl same (λ b. (c.count.ensures.broken b).0)
          (λ b. read_asking w.in-Err.error _ _ _ (w.in-Err.ensures.refused b)) (none_link count_row _ w.in-Err.error))
    ]

pub returns-clause-cause : goal.returns-clause-cause
returns-clause-cause g c =
    let p = held_phase _ _ c.in-Open.store c.self.view_is c.in-Open.is in
    let q = seen_phase c.args.self.now c.in-Open.store p in
    let back = held_same _ _ _ _ c.self.view_is c.in-Open.is (same_store _ _ c.count.ensures.same) in
    elim c.match-count.branch [
      | in-Ok w ↦ rw (w.result-is, w.out-is) (answered_caused counting _ _ c.in-Open.store w.say_number.result w.in-Ok.count c.count.result w.in-Ok.is refl q (λ b. (c.count.ensures.broken b).0)
          (said_caused counting (line (decimal w.in-Ok.count)) _ _ w.say_number.result refl refl w.say_number.ensures.said))
      | in-Err w ↦ rw (w.result-is, w.out-is) (refused_caused counting is_of_read _ _ c.in-Open.store w.in-Err.error c.count.result _ w.in-Err.is refl refl refl refl q (λ b. (c.count.ensures.broken b).0)
          (λ b. scene_same _ _ _ _ _ _ back (c.count.ensures.broken b).2) (λ b. (w.in-Err.ensures.refused b).kind) (λ b. (w.in-Err.ensures.refused b).cause))
    ]

pub returns-clause-counted : goal.returns-clause-counted
returns-clause-counted g c =
    elim c.match-count.branch [
      | in-Ok w ↦ rw w.result-is (said_counts _ w.say_number.result _ _ _ _ _ _ w.say_number.ensures.said w.in-Ok.ensures.answered)
      | in-Err w ↦ rw w.result-is w.in-Err.ensures.counted
    ]

pub returns-clause-sink : goal.returns-clause-sink
returns-clause-sink g c =
    elim c.match-count.branch [
      | in-Ok w ↦ rw (w.result-is, w.out-is) w.say_number.ensures.sink
      | in-Err w ↦ rw (w.result-is, w.out-is) refl
    ]
