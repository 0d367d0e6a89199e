use Rattle.std.proofs.Common.{Some, refl, ap}
use Rattle.gd_format.specs.File.{records}
use Rattle.gd_store.specs.Replies.{next_due}
use Rattle.gd_session.specs.Due.{ask_due, showing}
use Rattle.gd_session.specs.Rows.{Asks, next_row}
use Rattle.gd_session.specs.State.{seen}
use Rattle.gd_session.proofs.Asked.{nothing_asked, open_at, shut_answer}
use Rattle.gd_session.proofs.Caused.{shut_caused}
use Rattle.gd_session.proofs.Changed.{same_store}
use Rattle.gd_session.proofs.Commands.{held_phase, held_same, ok_map, shut_seen}
use Rattle.gd_session.proofs.Keys.{finds, next_at, next_link}
use Rattle.gd_session.proofs.session.Session.key_after.Goals as goal

pub returns-in_default : goal.returns-in_default
returns-in_default g c =
    let u = g.V.Vault.view_of c.args.vault.now in
    let asks = nothing_asked u in
    let shut = shut_seen _ _ c.self.view_is c.requires.opened c.in_default.not-Open in
    record {
      same = c.self.view_is;
      asks = asks;
      answered = tt;
      counted = refl;
      finds = record {
        answer = λ out failed. shut_answer (Asks (next_row (Some c.args.key.now))) _ _ shut asks refl refl;
        cause = λ out failed. shut_caused ask_due showing _ _ refl shut refl;
      };
    }

pub returns-clause-same : goal.returns-clause-same
returns-clause-same g c = held_same _ _ _ _ c.self.view_is c.in-Open.is (same_store _ _ c.next.ensures.same)

pub returns-clause-finds : goal.returns-clause-finds
returns-clause-finds g c =
    let p = held_phase _ _ c.in-Open.store c.self.view_is c.in-Open.is in
    let u = g.V.Vault.view_of c.args.vault.now in
    let is_open = open_at u c.args.self.now c.in-Open.store c.requires.ready p in
    let e = c.next.ensures in
    finds (next_row (Some c.args.key.now)) (λ file. next_due c.args.key.now (records file)) c.args.self.now u (g.V.Vault.view_of c.next.new.vault) c.in-Open.store c.next.result p is_open.there e.asks (λ b. (e.broken b).0) (λ b. (e.broken b).2)
    (λ b. ok_map c.next.result _ _ (λ k h. next_at u c.args.self.now c.in-Open.store c.args.key.now k is_open.fits b h) e.next) e.refused (next_link c.args.key.now (seen c.args.self.now))
