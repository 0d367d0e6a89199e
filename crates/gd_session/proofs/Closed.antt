-- Closing a database.
use Rattle.std.proofs.Common.{◌≡◌, ◌⊎◌, inl, inr, ⊎_elim, ℕ, Bool, true, false, List, [], Option, Some, None, Result, Ok, Err, refl, sym, ap, subst, ◌∙◌}
use Rattle.std.specs.Prelude.{IfErr, is_ok}
use Rattle.gd_base.proofs.Writes.{put-nothing}
use Rattle.gd_base.specs.Causes.{Rose}
use Rattle.gd_base.specs.declared.errors.DbError.{DbError}
use Rattle.gd_base.specs.declared.errors.DbError.TheVariants.{VaultFault}
use Rattle.gd_store.specs.Opened.{Opened}
use Rattle.gd_store.specs.declared.access.Access.{Access}
use Rattle.gd_store.specs.declared.access.Access.TheVariants.{Reader, Writer}
use Rattle.gd_vault.specs.Changes.{Changed}
use Rattle.gd_vault.specs.Content.{Content}
use Rattle.gd_vault.specs.Effects.{DoesOrMayDo, Same}
use Rattle.gd_vault.specs.Events.Call.{Sync}
use Rattle.gd_vault.specs.Views.{View, Told, content_of}
use Rattle.gd_vault.proofs.Content.{content_step}
use Rattle.gd_vault.proofs.OneFile.{same_content}
use Rattle.gd_session.specs.Answers.{Answer}
use Rattle.gd_session.specs.Calls.{Answers, IsPhaseReady, IsReady, Scene, answer_in}
use Rattle.gd_session.specs.Closing.{CanClose, ClosesIn, IsClosing, SameContent, SyncsAs, SyncsOpen}
use Rattle.gd_session.specs.Due.{Causes, moving}
use Rattle.gd_store.specs.Replies.{is_fault_of}
use Rattle.gd_session.proofs.Caused.{caused_done, caused_error}
use Rattle.gd_session.specs.Rows.{Closes, Syncs}
use Rattle.gd_session.specs.State.{Held, Phase, Text, db_of, phase_of, seen, shut}
use Rattle.gd_session.specs.State.Phase.{Open}
use Rattle.gd_session.specs.declared.phase.Phase as real
use Rattle.gd_session.specs.declared.phase.Phase.TheVariants as phases
use Rattle.gd_lang.specs.declared.commands.Command.{Command}
use Rattle.gd_session.specs.declared.reply.Reply.{Reply}
use Rattle.gd_session.specs.declared.reply.Reply.TheVariants.{Done, Refused}
use Rattle.gd_session.proofs.Changed.{access_cases}
use Rattle.gd_session.proofs.Asked.{bool_cases}

sync_same : (f : ℕ) (ok : Bool) (c d : Content) → DoesOrMayDo ok (Sync f) c d → Same c d
sync_same f true c d h = h
sync_same f false c d h = h

synced : (f : ℕ) (r : Result (Unit {0}) DbError) (u v : View) → Changed (Sync f) r u v → SameContent u v
synced f r u v h = λ c told.
    let s = content_step (Sync f) (is_ok r) u.told v.told h.told c told in
    s.1 ∙ ap Some (same_content c s.0 (sync_same f (is_ok r) c s.0 s.2))

same_view : (u v : View) → v ≡ u → SameContent u v
same_view u v is = λ c told. ap (λ (k : View). content_of k.told) is ∙ told

closes : (s : Opened) (r : Result (Unit {0}) DbError) (u v : View) → (s.broken ≡ false → s.access ≡ Writer → Changed (Sync s.file) r u v) → (s.access ≡ Reader → (r ≡ Ok tt) × (v ≡ u)) → (s.broken ≡ true → (r ≡ Ok tt) × (v ≡ u)) → SameContent u v
closes s r u v sync reader broken =
    ⊎_elim
    (λ (b : s.broken ≡ true). same_view u v (broken b).1)
    (λ (b : s.broken ≡ false). ⊎_elim (λ (k : s.access ≡ Reader). same_view u v (reader k).1) (λ (k : s.access ≡ Writer). synced s.file r u v (sync b k)) (access_cases s.access))
    (bool_cases s.broken)

-- a closing that failed was one of a writer that is not broken
closes_writer : (s : Opened) (r : Result (Unit {0}) DbError) → is_ok r ≡ false → (s.access ≡ Reader → r ≡ Ok tt) → (s.broken ≡ true → r ≡ Ok tt) → Syncs (Open (db_of s))
closes_writer s r failed reader broken =
    ⊎_elim
    (λ (b : s.broken ≡ true). absurd (let no : false ≡ true = sym failed ∙ ap is_ok (broken b) in cc))
    (λ (b : s.broken ≡ false). ⊎_elim (λ (k : s.access ≡ Reader). absurd (let no : false ≡ true = sym failed ∙ ap is_ok (reader k) in cc)) (λ (k : s.access ≡ Writer). (b, k)) (access_cases s.access))
    (bool_cases s.broken)

pub closed : (s : Opened) (r : Result (Unit {0}) DbError) (u v : View) → (s.broken ≡ false → s.access ≡ Writer → Changed (Sync s.file) r u v) → (s.access ≡ Reader → (r ≡ Ok tt) × (v ≡ u)) → (s.broken ≡ true → (r ≡ Ok tt) × (v ≡ u))
    → IfErr r (λ e. (e ≡ VaultFault) × Rose u.faults v.faults) → IsClosing (phases.Open s) r u v
closed s (Ok x) u v sync reader broken error = closes s (Ok x) u v sync reader broken
closed s (Err e) u v sync reader broken error = (closes s (Err e) u v sync reader broken, error.0, error.1, closes_writer s (Err e) refl (λ k. (reader k).0) (λ b. (broken b).0))

pub close_done : (old new : Scene) (p : real.Phase) (x : Unit {0}) → new.state ≡ shut old.state → new.written ≡ old.written → IsClosing p (Ok x) old.view new.view → Answers Closes old new Done
close_done old new p x state written h = λ k on c told. record {
  text = [];
  after = c;
  told = h c told;
  written = written ∙ put-nothing old.written;
  is = inl (record { reply = refl; text = refl; session = state; content = refl });
}

pub close_failed : (old new : Scene) (p : real.Phase) (e : DbError) → phase_of p ≡ old.state.phase → new.state ≡ shut old.state → new.written ≡ old.written → IsClosing p (Err e) old.view new.view → Answers Closes old new (Refused e)
close_failed old new p e phase state written h = λ k on c told. record {
  text = [];
  after = c;
  told = h.0 c told;
  written = written ∙ put-nothing old.written;
  is = inr (record { syncs = subst (λ (q : Phase). Syncs q) phase h.3; reply = ap Refused h.1; rose = h.2; text = refl; session = state; content = refl });
}

-- ---- sessions

phase_close : (v : View) (name : Text) (p : real.Phase) → IsPhaseReady v name p → CanClose v p
phase_close v name phases.Fresh ready = tt
phase_close v name (phases.Open store) ready = ready.there
phase_close v name phases.Shut ready = tt

pub can_close : (v : View) (h g : Held) (p : real.Phase) → h ≡ g → p ≡ h.phase → IsReady v g → CanClose v p
can_close v h g p is phase ready =
    subst (λ (q : real.Phase). CanClose v q) (sym (phase ∙ ap (λ (k : Held). k.phase) is)) (phase_close v g.settings.file g.phase ready)

pub closed_phase : (h g : Held) (p : real.Phase) → h ≡ g → p ≡ h.phase → phase_of p ≡ (seen g).phase
closed_phase h g p is phase = ap phase_of (phase ∙ ap (λ (k : Held). k.phase) is)

pub closed_state : (h g : Held) (p : real.Phase) → h ≡ g → p ≡ phases.Shut → seen (record h { phase = p; last = None }) ≡ shut (seen g)
closed_state h g p is phase = ap (λ (q : real.Phase). seen (record h { phase = q; last = None })) phase ∙ ap (λ (k : Held). shut (seen k)) is

pub ready_shut : (v : View) (name : Text) (p : real.Phase) → p ≡ phases.Shut → IsPhaseReady v name p
ready_shut v name p is = subst (λ (q : real.Phase). IsPhaseReady v name q) (sym is) tt

-- ---- causes and syncs

pub close_done_caused : (old new : Scene) → Causes None moving old new Done
close_done_caused old new = caused_done moving old new refl

pub close_failed_caused : (p : real.Phase) (old new : Scene) (e : DbError) → IsClosing p (Err e) old.view new.view → Causes None moving old new (Refused e)
close_failed_caused p old new e h = caused_error moving is_fault_of old new e refl refl (ap is_fault_of h.1) refl refl (λ is. h.2)

pub synced_at : (p q : real.Phase) (r : Result (Unit {0}) DbError) (u v : View) → p ≡ q → SyncsOpen p r u v → SyncsOpen q r u v
synced_at p q r u v is h = subst (λ (x : real.Phase). SyncsOpen x r u v) is h

-- what a store says of its closing, by how it was opened
pub syncs_as : (broken : Bool) (access : Access) (f : ℕ) (r : Result (Unit {0}) DbError) (u v : View) → (broken ≡ false → access ≡ Writer → Changed (Sync f) r u v) → (access ≡ Reader → (r ≡ Ok tt) × (v ≡ u)) → (broken ≡ true → (r ≡ Ok tt) × (v ≡ u))
    → SyncsAs broken access f r u v
syncs_as false Writer f r u v sync reader broken = sync refl refl
syncs_as false Reader f r u v sync reader broken = reader refl
syncs_as true Writer f r u v sync reader broken = broken refl
syncs_as true Reader f r u v sync reader broken = broken refl

pub closes_as : (command given : Command) (s : Held) (r : Reply) (u v : View) → command ≡ given → ClosesIn given s r u v → ClosesIn command s r u v
closes_as command given s r u v is h = subst (λ (k : Command). ClosesIn k s r u v) (sym is) h
