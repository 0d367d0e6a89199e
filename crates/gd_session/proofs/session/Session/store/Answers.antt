use Rattle.std.proofs.Common.{◌≡◌, Ok, Err, refl, sym, ap, subst, ◌∙◌, None, Some}
use Rattle.std.specs.FinMap.{insert}
use Rattle.gd_vault.proofs.Within.{within_refl}
use Rattle.gd_session.specs.Calls.{IsOpen}
use Rattle.gd_session.specs.Due.{moving, write_due}
use Rattle.gd_session.specs.Rows.{Stores, ToWrite, stores_due}
use Rattle.gd_session.specs.State.{Held, seen}
use Rattle.gd_store.specs.Replies.{is_fault, is_of_storing}
use Rattle.gd_session.proofs.Asked.{nothing_asked, open_at, ready_asked, shut_answer}
use Rattle.gd_session.proofs.Caused.{change_answered, change_refused, scene_same, shut_caused}
use Rattle.gd_session.proofs.Changed.{broken_is, changes_answered, changes_refused, frame_open, kept_same, not_fault_err, not_fault_ok, open_changed, refuses_map, state_stays}
use Rattle.gd_session.proofs.Commands.{held_phase, held_same, rest_same, seen_changed, seen_phase, shut_seen, still_opened, stores_none}
use Rattle.gd_session.proofs.session.Session.store.Goals as goal
use Rattle.gd_session.proofs.session.Session.store.Goals.{in-Ok, in-Err}

pub returns-in_default : goal.returns-in_default
returns-in_default g c =
    let u = g.V.Vault.view_of c.args.vault.now in
    let asks = nothing_asked u in
    let shut = shut_seen _ _ c.self.view_is c.requires.opened c.in_default.not-Open in
    record {
      ready = ready_asked u u c.args.self.now _ c.requires.ready c.self.view_is asks;
      stays = λ other. ap seen c.self.view_is;
      rest = rest_same _ _ c.self.view_is;
      opened = still_opened _ _ c.self.view_is c.requires.opened;
      frame = within_refl u;
      counted = refl;
      answer = λ out failed. shut_answer (ToWrite (Stores c.args.how c.args.key.now c.args.content.now)) _ _ shut asks refl (ap seen c.self.view_is);
      cause = λ out failed. shut_caused write_due moving _ _ refl shut (scene_same _ _ u u _ _ c.self.view_is refl);
    }

pub returns-clause-ready : goal.returns-clause-ready
returns-clause-ready g c =
    let p = held_phase _ _ c.in-Open.store c.self.view_is c.in-Open.is in
    let u = g.V.Vault.view_of c.args.vault.now in
    let is_open = open_at u c.args.self.now c.in-Open.store c.requires.ready p in
    let e = c.store.ensures in
    subst (λ (n : Held). IsOpen (g.V.Vault.view_of c.store.new.vault) n.settings.file c.store.new.self) (sym c.self.view_is)
    (open_changed u (g.V.Vault.view_of c.store.new.vault) c.args.self.now.settings.file c.in-Open.store c.store.new.self is_open e.same e.fits e.there e.frame.within
    (λ b k told. (e.broken b).1))

pub returns-clause-stays : goal.returns-clause-stays
returns-clause-stays g c = λ other.
    let q = seen_phase c.args.self.now c.in-Open.store (held_phase _ _ c.in-Open.store c.self.view_is c.in-Open.is) in
    let e = c.store.ensures in
    elim c.match-store.branch [
      | in-Ok w ↦ state_stays _ _ c.in-Open.store c.store.new.self c.store.result q (seen_changed _ _ c.store.new.self c.self.view_is) e.same e.breaks (not_fault_ok c.store.result w.in-Ok.field-0 w.in-Ok.is)
      | in-Err w ↦ state_stays _ _ c.in-Open.store c.store.new.self c.store.result q (seen_changed _ _ c.store.new.self c.self.view_is) e.same e.breaks (not_fault_err c.store.result w.in-Err.refusal _ w.in-Err.is w.result-is other)
    ]

pub returns-clause-frame : goal.returns-clause-frame
returns-clause-frame g c =
    frame_open (g.V.Vault.view_of c.args.vault.now) (g.V.Vault.view_of c.store.new.vault) c.args.self.now.phase c.in-Open.store (held_phase _ _ c.in-Open.store c.self.view_is c.in-Open.is) c.store.ensures.frame.within

pub returns-clause-answer : goal.returns-clause-answer
returns-clause-answer g c = λ out failed.
    let p = held_phase _ _ c.in-Open.store c.self.view_is c.in-Open.is in
    let q = seen_phase c.args.self.now c.in-Open.store p in
    let u = g.V.Vault.view_of c.args.vault.now in
    let is_open = open_at u c.args.self.now c.in-Open.store c.requires.ready p in
    let state = seen_changed _ _ c.store.new.self c.self.view_is in
    let e = c.store.ensures in
    elim c.match-store.branch [
      | in-Ok w ↦ rw w.result-is (changes_answered (stores_due c.args.how c.args.key.now c.args.content.now) (λ m. insert m c.args.key.now c.args.content.now) _ _ _ c.in-Open.store c.store.new.self c.store.result w.in-Ok.field-0 w.in-Ok.is q state refl is_open.there is_open.fits e.same (λ b. (e.broken b).0) (λ b a. (e.reader b a).0) (broken_is _ _ _ e.breaks)
          (λ calm. stores_none u c.in-Open.store c.args.how c.args.key.now c.args.content.now None is_open.fits calm w.in-Ok.ensures.due) w.in-Ok.ensures.stored e.frame.marks e.frame.within)
      | in-Err w ↦ rw w.result-is (changes_refused (stores_due c.args.how c.args.key.now c.args.content.now) (λ m. insert m c.args.key.now c.args.content.now) _ _ c.in-Open.store c.store.new.self w.in-Err.refusal c.store.result w.in-Err.is
          (record { phase = q; state = state; written = refl; has = is_open.there; keeps = e.same; frame = e.frame.within; marks = e.frame.marks; kept = kept_same w.in-Err.refusal u _ _ _ w.in-Err.ensures.kept }) (λ b. (e.broken b).0) (λ b a. (e.reader b a).0)
          (λ calm. broken_is _ _ _ e.breaks calm ∙ ap is_fault w.in-Err.is)
          (λ calm writer. refuses_map _ _ _ w.in-Err.refusal (λ due. stores_none u c.in-Open.store c.args.how c.args.key.now c.args.content.now (Some w.in-Err.refusal) is_open.fits calm due) (w.in-Err.ensures.refused calm writer).cause))
    ]

pub returns-clause-cause : goal.returns-clause-cause
returns-clause-cause g c = λ out failed.
    let p = held_phase _ _ c.in-Open.store c.self.view_is c.in-Open.is in
    let q = seen_phase c.args.self.now c.in-Open.store p in
    let e = c.store.ensures in
    elim c.match-store.branch [
      | in-Ok w ↦ rw w.result-is (change_answered moving _ _ c.in-Open.store w.in-Ok.field-0 c.store.result w.in-Ok.is refl q (λ b. (e.broken b).0) (λ b a. (e.reader b a).0))
      | in-Err w ↦ rw w.result-is (change_refused moving is_of_storing _ _ c.in-Open.store w.in-Err.refusal c.store.result _ w.in-Err.is refl refl refl refl q (λ b. (e.broken b).0) (λ b. scene_same _ _ _ _ _ _ (held_same _ _ _ _ c.self.view_is c.in-Open.is (e.broken b).1) (e.broken b).2)
          (λ b a. (e.reader b a).0) (λ b a. scene_same _ _ _ _ _ _ (held_same _ _ _ _ c.self.view_is c.in-Open.is (e.reader b a).1) (e.reader b a).2)
          (λ b a. (w.in-Err.ensures.refused b a).kind) (λ b a. (w.in-Err.ensures.refused b a).cause))
    ]

pub returns-clause-counted : goal.returns-clause-counted
returns-clause-counted g c =
    elim c.match-store.branch [
      | in-Ok w ↦ rw w.result-is w.in-Ok.ensures.answered
      | in-Err w ↦ rw w.result-is w.in-Err.ensures.counted
    ]
