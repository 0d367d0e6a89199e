use Rattle.std.proofs.Common.{refl, ap, inl, inr, ◌∙◌}
use Rattle.gd_session.specs.State.{Held, seen}
use Rattle.gd_session.proofs.Closed.{can_close, close_done, close_done_caused, close_failed, close_failed_caused, closed_phase, closed_state, ready_shut, synced_at}
use Rattle.gd_session.specs.declared.reply.Reply.TheVariants.{Refused}
use Rattle.gd_session.proofs.Moved.{closes_done, closes_failed}
use Rattle.gd_session.proofs.session.Session.close.Goals as goal
use Rattle.gd_session.proofs.session.Session.close.Goals.{in-Ok, in-Err}

pub close_phase-requires : goal.close_phase-requires
close_phase-requires g c = can_close (g.V.Vault.view_of c.args.vault.now) _ c.args.self.now c.replace-phase.result c.self.view_is c.replace-phase.ensures.value c.requires.ready

pub returns-clause-ready : goal.returns-clause-ready
returns-clause-ready g c = ready_shut (g.V.Vault.view_of c.close_phase.new.vault) c.self.inside.settings.file c.replace-phase.new.dest c.replace-phase.ensures.after

pub returns-clause-answer : goal.returns-clause-answer
returns-clause-answer g c = λ out failed.
    let state = closed_state _ _ c.replace-phase.new.dest c.self.view_is c.replace-phase.ensures.after in
    elim c.match-close_phase.branch [
      | in-Ok w ↦ rw w.result-is (close_done _ _ c.replace-phase.result w.in-Ok.field-0 state refl w.in-Ok.ensures.closing)
      | in-Err w ↦ rw w.result-is (close_failed _ _ c.replace-phase.result w.in-Err.error (closed_phase _ c.args.self.now c.replace-phase.result c.self.view_is c.replace-phase.ensures.value) state refl w.in-Err.ensures.closing)
    ]

pub returns-clause-cause : goal.returns-clause-cause
returns-clause-cause g c = λ out failed.
    elim c.match-close_phase.branch [
      | in-Ok w ↦ rw w.result-is (close_done_caused _ _)
      | in-Err w ↦ rw w.result-is (close_failed_caused c.replace-phase.result _ _ w.in-Err.error w.in-Err.ensures.closing)
    ]

pub returns-clause-synced : goal.returns-clause-synced
returns-clause-synced g c =
    let same = c.replace-phase.ensures.value ∙ ap (λ (h : Held). h.phase) c.self.view_is in
    elim c.match-close_phase.branch [
      | in-Ok w ↦ rw w.result-is (synced_at c.replace-phase.result c.args.self.now.phase _ _ _ same w.in-Ok.ensures.synced)
      | in-Err w ↦ rw w.result-is (w.in-Err.ensures.closing.1, synced_at c.replace-phase.result c.args.self.now.phase _ _ _ same w.in-Err.ensures.synced)
    ]

pub returns-clause-fault : goal.returns-clause-fault
returns-clause-fault g c =
    elim c.match-close_phase.branch [
      | in-Ok w ↦ rw w.result-is (inl refl)
      | in-Err w ↦ rw w.result-is (inr (ap Refused w.in-Err.ensures.closing.1, w.in-Err.ensures.closing.2))
    ]

pub returns-clause-counted : goal.returns-clause-counted
returns-clause-counted g c =
    elim c.match-close_phase.branch [
      | in-Ok w ↦ rw w.result-is w.in-Ok.ensures.answered
      | in-Err w ↦ rw w.result-is w.in-Err.ensures.counted
    ]

pub returns-clause-leaves : goal.returns-clause-leaves
returns-clause-leaves g c =
    let state = closed_state _ _ c.replace-phase.new.dest c.self.view_is c.replace-phase.ensures.after in
    elim c.match-close_phase.branch [
      | in-Ok w ↦ rw w.result-is (closes_done (seen c.args.self.now) _ state)
      | in-Err w ↦ rw w.result-is (closes_failed (seen c.args.self.now) _ c.replace-phase.result w.in-Err.error (g.V.Vault.view_of c.args.vault.now) (g.V.Vault.view_of c.close_phase.new.vault) (closed_phase _ c.args.self.now c.replace-phase.result c.self.view_is c.replace-phase.ensures.value) state w.in-Err.ensures.closing)
    ]
