use Rattle.std.proofs.Common.{◌≡◌, Some, refl, sym, ap, subst, ◌∙◌, arith}
use Rattle.gd_store.specs.Replies.{is_of_asking}
use Rattle.gd_session.specs.Calls.{IsOpen}
use Rattle.gd_session.specs.Due.{ask_due, showing}
use Rattle.gd_session.specs.Rows.{Asks}
use Rattle.gd_session.specs.State.{Held, seen}
use Rattle.gd_session.specs.Said.{Shows}
use Rattle.gd_session.specs.Texts.{pair_text}
use Rattle.gd_session.specs.declared.reply.Reply.{Reply}
use Rattle.gd_session.specs.declared.reply.Reply.TheVariants.{Done}
use Rattle.gd_session.proofs.Asked.{nothing_asked, open_asked, open_at, ready_asked, shut_answer}
use Rattle.gd_session.proofs.Caused.{answered_caused, caused_done, refused_caused, scene_same, shows_caused, shut_caused}
use Rattle.gd_session.proofs.Changed.{same_store}
use Rattle.gd_session.proofs.Commands.{held_phase, held_same, seen_phase, shut_seen}
use Rattle.gd_session.proofs.Keys.{at_store, pair_for, printed_state, show_answered, show_refused}
use Rattle.gd_session.proofs.Counting.{out_as, shows_counts}
use Rattle.gd_session.proofs.session.Session.show.Goals as goal

pub returns-in_default : goal.returns-in_default
returns-in_default g c =
    let u = g.V.Vault.view_of c.args.vault.now in
    let asks = nothing_asked u in
    let shut = shut_seen _ _ c.self.view_is c.requires.opened c.in_default.not-Open in
    record {
      ready = ready_asked u u c.args.self.now _ c.requires.ready c.self.view_is asks;
      asks = asks;
      later = omega arith;
      kept = g.met.O.Sink.kept_self c.args.out.now;
      counted = refl;
      sink = refl;
      answer = λ row next. shut_answer (Asks row) _ _ shut asks refl (ap seen c.self.view_is);
      cause = shut_caused ask_due showing _ _ refl shut (scene_same _ _ u u _ _ c.self.view_is refl);
    }

pub returns-in-Err-clause-ready : goal.returns-in-Err-clause-ready
returns-in-Err-clause-ready g c =
    ready_asked (g.V.Vault.view_of c.args.vault.now) (g.V.Vault.view_of c.fetch.new.vault) c.args.self.now _ c.requires.ready (held_same _ _ _ _ c.self.view_is c.in-Open.is (same_store _ _ c.fetch.ensures.same)) c.fetch.ensures.asks

pub returns-in-Err-clause-answer : goal.returns-in-Err-clause-answer
returns-in-Err-clause-answer g c = λ row next.
    let u = g.V.Vault.view_of c.args.vault.now in
    let p = held_phase _ _ c.in-Open.store c.self.view_is c.in-Open.is in
    let is_open = open_at u c.args.self.now c.in-Open.store c.requires.ready p in
    let e = c.fetch.ensures in
    show_refused row c.args.self.now c.args.key u _ _ _ c.in-Open.store c.in-Err.error c.fetch.result c.in-Err.is p is_open.there e.asks refl
    (ap seen (held_same _ _ _ _ c.self.view_is c.in-Open.is (same_store _ _ e.same))) (λ b. (e.broken b).0) (λ b. rw c.as_slice.ensures at c.in-Err.ensures.refused b) (at_store row c.args.self.now u c.args.key c.in-Open.store p next)

pub returns-in-Err-clause-cause : goal.returns-in-Err-clause-cause
returns-in-Err-clause-cause g c =
    let q = seen_phase c.args.self.now c.in-Open.store (held_phase _ _ c.in-Open.store c.self.view_is c.in-Open.is) in
    let e = c.fetch.ensures in
    let back = held_same _ _ _ _ c.self.view_is c.in-Open.is (same_store _ _ e.same) in
    refused_caused showing is_of_asking _ _ c.in-Open.store c.in-Err.error c.fetch.result _ c.in-Err.is refl refl refl refl q (λ b. (e.broken b).0)
    (λ b. scene_same _ _ _ _ _ _ back (e.broken b).2) (λ b. (c.in-Err.ensures.refused b).kind) (λ b. (c.in-Err.ensures.refused b).cause)

pub returns-in-Done-clause-ready : goal.returns-in-Done-clause-ready
returns-in-Done-clause-ready g c =
    let u = g.V.Vault.view_of c.args.vault.now in
    let v = g.V.Vault.view_of c.fetch.new.vault in
    let p = held_phase _ _ c.in-Open.store c.self.view_is c.in-Open.is in
    let is_open = open_at u c.args.self.now c.in-Open.store c.requires.ready p in
    subst (λ (n : Held). IsOpen v n.settings.file c.fetch.new.self) (sym c.self.view_is)
    (open_asked u v c.args.self.now.settings.file c.in-Open.store c.fetch.new.self is_open (same_store _ _ c.fetch.ensures.same) c.fetch.ensures.asks)

pub returns-in-Done-clause-answer : goal.returns-in-Done-clause-answer
returns-in-Done-clause-answer g c = λ row next.
    let u = g.V.Vault.view_of c.args.vault.now in
    let p = held_phase _ _ c.in-Open.store c.self.view_is c.in-Open.is in
    let is_open = open_at u c.args.self.now c.in-Open.store c.requires.ready p in
    let e = c.fetch.ensures in
    let same = same_store _ _ e.same in
    let shows = pair_for _ c.args.self.now c.as_slice-2.result.now c.as_slice-3.result.now c.as_slice-4.result.now c.args.key c.in-Ok.content c.say_pair-reply.result _ _ _ _ c.self.view_is c.as_slice-2.ensures c.as_slice-3.ensures c.as_slice-4.ensures c.say_pair-reply.ensures.shows in
    show_answered row c.args.self.now c.args.key c.in-Ok.content u _ _ _ c.in-Open.store Done c.fetch.result c.in-Ok.is p is_open.there e.asks (λ b. (e.broken b).0)
    (rw c.as_slice.ensures at c.in-Ok.ensures.value) (at_store row c.args.self.now u c.args.key c.in-Open.store p next)
    (subst (λ (r : Reply). Shows (pair_text (seen c.args.self.now) (c.args.key, c.in-Ok.content)) r (g.O.Sink.written c.args.out.now) (g.O.Sink.written c.say_pair-reply.new.out) (g.O.Sink.fault_count c.args.out.now) (g.O.Sink.fault_count c.say_pair-reply.new.out)) c.in-Done.is shows)
    (λ d. printed_state _ _ _ _ c.args.key c.self.view_is c.in-Open.is same) (λ other. absurd (other refl))

pub returns-in-Done-clause-cause : goal.returns-in-Done-clause-cause
returns-in-Done-clause-cause g c =
    let q = seen_phase c.args.self.now c.in-Open.store (held_phase _ _ c.in-Open.store c.self.view_is c.in-Open.is) in
    answered_caused showing _ _ c.in-Open.store Done c.in-Ok.content c.fetch.result c.in-Ok.is refl q (λ b. (c.fetch.ensures.broken b).0) (caused_done showing _ _ refl)

pub returns-clause-ready : goal.returns-clause-ready
returns-clause-ready g c =
    ready_asked (g.V.Vault.view_of c.args.vault.now) (g.V.Vault.view_of c.fetch.new.vault) c.args.self.now _ c.requires.ready (held_same _ _ _ _ c.self.view_is c.in-Open.is (same_store _ _ c.fetch.ensures.same)) c.fetch.ensures.asks

pub returns-clause-answer : goal.returns-clause-answer
returns-clause-answer g c = λ row next.
    let u = g.V.Vault.view_of c.args.vault.now in
    let p = held_phase _ _ c.in-Open.store c.self.view_is c.in-Open.is in
    let is_open = open_at u c.args.self.now c.in-Open.store c.requires.ready p in
    let e = c.fetch.ensures in
    let same = same_store _ _ e.same in
    let shows = pair_for _ c.args.self.now c.as_slice-2.result.now c.as_slice-3.result.now c.as_slice-4.result.now c.args.key c.in-Ok.content c.say_pair-reply.result _ _ _ _ c.self.view_is c.as_slice-2.ensures c.as_slice-3.ensures c.as_slice-4.ensures c.say_pair-reply.ensures.shows in
    show_answered row c.args.self.now c.args.key c.in-Ok.content u _ _ _ c.in-Open.store c.say_pair-reply.result c.fetch.result c.in-Ok.is p is_open.there e.asks (λ b. (e.broken b).0)
    (rw c.as_slice.ensures at c.in-Ok.ensures.value) (at_store row c.args.self.now u c.args.key c.in-Open.store p next) shows
    (λ d. absurd (c.in_default-reply.not-Done d)) (λ other. ap seen (held_same _ _ _ _ c.self.view_is c.in-Open.is same))

pub returns-clause-cause : goal.returns-clause-cause
returns-clause-cause g c =
    let q = seen_phase c.args.self.now c.in-Open.store (held_phase _ _ c.in-Open.store c.self.view_is c.in-Open.is) in
    answered_caused showing _ _ c.in-Open.store c.say_pair-reply.result c.in-Ok.content c.fetch.result c.in-Ok.is refl q (λ b. (c.fetch.ensures.broken b).0)
    (shows_caused showing _ _ _ c.say_pair-reply.result refl refl refl c.say_pair-reply.ensures.shows)

pub returns-in-Done-clause-counted : goal.returns-in-Done-clause-counted
returns-in-Done-clause-counted g c = c.in-Ok.ensures.answered

pub returns-in-Done-clause-sink : goal.returns-in-Done-clause-sink
returns-in-Done-clause-sink g c = out_as Done c.say_pair-reply.result _ _ (sym c.in-Done.is) c.say_pair-reply.ensures.sink

pub returns-clause-counted : goal.returns-clause-counted
returns-clause-counted g c = shows_counts _ c.say_pair-reply.result _ _ _ _ _ _ c.say_pair-reply.ensures.shows c.in-Ok.ensures.answered
