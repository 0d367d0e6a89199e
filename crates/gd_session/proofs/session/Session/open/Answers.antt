use Rattle.std.proofs.Common.{Ok, Err, refl, ap, ◌∙◌}
use Rattle.gd_vault.proofs.Within.{within_trans}
use Rattle.gd_session.proofs.Closed.{can_close, close_done_caused, close_failed_caused, ready_shut, synced_at}
use Rattle.gd_session.specs.State.{Held, naming, seen}
use Rattle.gd_session.proofs.Framed.{within_at}
use Rattle.gd_session.specs.declared.reply.Reply.TheVariants.{Refused}
use Rattle.gd_session.proofs.Reopened.{opened_at, refused_at, reopen_caused, reopen_refused, reopen_unclosed, reopened, settings_moved, state_open, state_shut}
use Rattle.gd_session.proofs.Counting.{counts_from}
use Rattle.gd_session.proofs.Moved.{reopens_done, reopens_refused, reopens_unclosed}
use Rattle.gd_session.proofs.session.Session.open.Goals as goal

pub close_phase-requires : goal.close_phase-requires
close_phase-requires g c = can_close (g.V.Vault.view_of c.args.vault.now) _ c.args.self.now c.replace-phase.result c.self.view_is c.replace-phase.ensures.value c.requires.ready

pub returns-in-Err-clause-ready : goal.returns-in-Err-clause-ready
returns-in-Err-clause-ready g c = ready_shut (g.V.Vault.view_of c.close_phase.new.vault) c.set_name.new.file c.replace-phase.new.dest c.replace-phase.ensures.after

pub returns-in-Err-clause-answer : goal.returns-in-Err-clause-answer
returns-in-Err-clause-answer g c = λ out failed.
    reopen_unclosed c.args.name.now _ _ c.replace-phase.result c.in-Err.error (state_shut _ c.args.self.now c.args.name.now c.set_name.new.file c.replace-phase.new.dest c.self.view_is c.set_name.ensures c.replace-phase.ensures.after) refl c.in-Err.ensures.closing

pub returns-in-Err-clause-cause : goal.returns-in-Err-clause-cause
returns-in-Err-clause-cause g c = λ out failed. close_failed_caused c.replace-phase.result _ _ c.in-Err.error c.in-Err.ensures.closing

pub returns-in-Err-open_named-clause-ready : goal.returns-in-Err-open_named-clause-ready
returns-in-Err-open_named-clause-ready g c = ready_shut (g.V.Vault.view_of c.open_named.new.vault) c.set_name.new.file c.replace-phase.new.dest c.replace-phase.ensures.after

pub returns-in-Err-open_named-clause-grows : goal.returns-in-Err-open_named-clause-grows
returns-in-Err-open_named-clause-grows g c = within_trans c.close_phase.ensures.grows c.open_named.ensures.grows

pub returns-in-Err-open_named-clause-answer : goal.returns-in-Err-open_named-clause-answer
returns-in-Err-open_named-clause-answer g c = λ out failed.
    let moved = settings_moved _ c.args.self.now c.args.name.now c.set_name.new.file c.self.view_is c.set_name.ensures in
    reopen_refused c.args.name.now _ _ c.in-Err-open_named.error (g.V.Vault.view_of c.close_phase.new.vault) c.in_default.ensures.closing c.close_phase.ensures.grows.faults
    (state_shut _ c.args.self.now c.args.name.now c.set_name.new.file c.replace-phase.new.dest c.self.view_is c.set_name.ensures c.replace-phase.ensures.after) refl
    (refused_at _ _ c.in-Err-open_named.error _ _ moved c.in-Err-open_named.ensures.opening)

pub returns-in-Err-open_named-clause-cause : goal.returns-in-Err-open_named-clause-cause
returns-in-Err-open_named-clause-cause g c = λ out failed. reopen_caused _ _ (g.V.Vault.view_of c.close_phase.new.vault) c.in-Err-open_named.error c.close_phase.ensures.grows.faults c.in-Err-open_named.ensures.cause

pub returns-in-Ok-clause-ready : goal.returns-in-Ok-clause-ready
returns-in-Ok-clause-ready g c = c.in-Ok.ensures.opening.is_open

pub returns-in-Ok-clause-grows : goal.returns-in-Ok-clause-grows
returns-in-Ok-clause-grows g c = within_trans c.close_phase.ensures.grows c.open_named.ensures.grows

pub returns-in-Ok-clause-answer : goal.returns-in-Ok-clause-answer
returns-in-Ok-clause-answer g c = λ out failed.
    let moved = settings_moved _ c.args.self.now c.args.name.now c.set_name.new.file c.self.view_is c.set_name.ensures in
    reopened c.args.name.now _ _ c.in-Ok.store (g.V.Vault.view_of c.close_phase.new.vault) c.in_default.ensures.closing
    (state_open _ c.args.self.now c.args.name.now c.set_name.new.file c.in-Ok.store c.self.view_is c.set_name.ensures) refl
    (opened_at _ _ c.in-Ok.store _ _ moved c.in-Ok.ensures.opening)

pub returns-in-Ok-clause-cause : goal.returns-in-Ok-clause-cause
returns-in-Ok-clause-cause g c = λ out failed. close_done_caused _ _

pub returns-in-Err-clause-closes : goal.returns-in-Err-clause-closes
returns-in-Err-clause-closes g c =
    let same = c.replace-phase.ensures.value ∙ ap (λ (h : Held). h.phase) c.self.view_is in
    record {
      mid = g.V.Vault.view_of c.close_phase.new.vault;
      result = Err c.in-Err.error;
      closes = synced_at c.replace-phase.result c.args.self.now.phase _ _ _ same c.in-Err.ensures.synced;
      behind = (c.in-Err.ensures.closing.1, refl, refl);
    }

pub returns-in-Err-open_named-clause-closes : goal.returns-in-Err-open_named-clause-closes
returns-in-Err-open_named-clause-closes g c =
    let same = c.replace-phase.ensures.value ∙ ap (λ (h : Held). h.phase) c.self.view_is in
    record {
      mid = g.V.Vault.view_of c.close_phase.new.vault;
      result = Ok tt;
      closes = synced_at c.replace-phase.result c.args.self.now.phase _ _ _ same c.in_default.ensures.synced;
      behind = within_at _ (naming c.args.name.now (seen c.args.self.now)).settings _ _ (settings_moved _ c.args.self.now c.args.name.now c.set_name.new.file c.self.view_is c.set_name.ensures) c.open_named.ensures.frame;
    }

pub returns-in-Ok-clause-closes : goal.returns-in-Ok-clause-closes
returns-in-Ok-clause-closes g c =
    let same = c.replace-phase.ensures.value ∙ ap (λ (h : Held). h.phase) c.self.view_is in
    record {
      mid = g.V.Vault.view_of c.close_phase.new.vault;
      result = Ok tt;
      closes = synced_at c.replace-phase.result c.args.self.now.phase _ _ _ same c.in_default.ensures.synced;
      behind = within_at _ (naming c.args.name.now (seen c.args.self.now)).settings _ _ (settings_moved _ c.args.self.now c.args.name.now c.set_name.new.file c.self.view_is c.set_name.ensures) c.open_named.ensures.frame;
    }

pub returns-in-Err-open_named-clause-counted : goal.returns-in-Err-open_named-clause-counted
returns-in-Err-open_named-clause-counted g c = counts_from (Refused c.in-Err-open_named.error) _ _ _ c.in_default.ensures.answered c.in-Err-open_named.ensures.counted

pub returns-in-Ok-clause-counted : goal.returns-in-Ok-clause-counted
returns-in-Ok-clause-counted g c = c.in-Ok.ensures.answered ∙ c.in_default.ensures.answered

pub returns-in-Err-clause-leaves : goal.returns-in-Err-clause-leaves
returns-in-Err-clause-leaves g c = reopens_unclosed c.args.name.now (seen c.args.self.now) _ c.replace-phase.result c.in-Err.error (g.V.Vault.view_of c.args.vault.now) (g.V.Vault.view_of c.close_phase.new.vault) (state_shut _ c.args.self.now c.args.name.now c.set_name.new.file c.replace-phase.new.dest c.self.view_is c.set_name.ensures c.replace-phase.ensures.after) c.in-Err.ensures.closing

pub returns-in-Err-open_named-clause-leaves : goal.returns-in-Err-open_named-clause-leaves
returns-in-Err-open_named-clause-leaves g c = reopens_refused c.args.name.now (seen c.args.self.now) _ _ c.in-Err-open_named.error (settings_moved _ c.args.self.now c.args.name.now c.set_name.new.file c.self.view_is c.set_name.ensures) (state_shut _ c.args.self.now c.args.name.now c.set_name.new.file c.replace-phase.new.dest c.self.view_is c.set_name.ensures c.replace-phase.ensures.after) c.in-Err-open_named.ensures.errors

pub returns-in-Ok-clause-leaves : goal.returns-in-Ok-clause-leaves
returns-in-Ok-clause-leaves g c = reopens_done c.args.name.now (seen c.args.self.now) _ _ c.in-Ok.store (settings_moved _ c.args.self.now c.args.name.now c.set_name.new.file c.self.view_is c.set_name.ensures) (state_open _ c.args.self.now c.args.name.now c.set_name.new.file c.in-Ok.store c.self.view_is c.set_name.ensures) c.in-Ok.ensures.first
