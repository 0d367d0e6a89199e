-- Commands that open their database.
use Rattle.std.proofs.Common.{Bool, true, false, ◌≡◌, ◌⊎◌, inl, inr, ℕ, ◌≤◌, List, [], Option, Some, None, Result, Ok, Err, refl, sym, ap, subst, ◌∙◌, arith}
use Rattle.gd_base.proofs.Writes.{put-nothing}
use Rattle.gd_base.specs.declared.errors.DbError.{DbError}
use Rattle.gd_base.specs.declared.errors.DbError.TheVariants.{Absent, BlockSize, ShortFile, BadMagic, ByteSwapped, WrongOffset, BadHeader, BadDirEntry, BadBucket, BadHashTable, BadHashEntry, BadAvail, NeedRecovery, ReaderCant, ItemNotFound, CannotReplace, DirOverflow, TooLarge, FileFull, Exists, InUse, NotNumsync, AlreadyAtomic, SameName, InEpoch, NotOpen, VaultFault, ClockFault, OutOfMemory, ClockStood}
use Rattle.gd_store.specs.Opened.{Opened}
use Rattle.gd_vault.specs.Content.{Content}
use Rattle.gd_vault.specs.Views.{View, content_of}
use Rattle.gd_session.specs.Answers.{Answer}
use Rattle.gd_session.specs.Calls.{Answered, Answers, Clocked, Scene, answer_in, scene}
use Rattle.gd_session.specs.Openings.{First, FirstOf, IsOpened, IsRefusedOpening}
use Rattle.gd_session.specs.Opens.{Opens, Spoils}
use Rattle.gd_session.specs.Rows.{DbRow, InPhase, Needs, Whole}
use Rattle.gd_session.specs.State.{Held, Phase, State, Text, at_phase, db_of, phase_of, seen}
use Rattle.gd_session.specs.declared.phase.Phase as real
use Rattle.gd_session.specs.declared.phase.Phase.TheVariants as phases
use Rattle.gd_session.specs.State.Phase.{Fresh, Open}
use Rattle.gd_session.specs.declared.reply.Reply.{Reply}
use Rattle.gd_session.specs.declared.reply.Reply.TheVariants.{Refused}

-- the database was opened, and then the command was answered
pub needs_first : (row : DbRow) (s : State) (written : Option Text) (failed : ℕ) (u v : View) (new : Scene) (r : Reply) (o : Opened)
    → s.phase ≡ Fresh → IsOpened (Opens s.settings) s.settings.file o u v → u.faults ≤ v.faults
    → Answers (Needs row) (record { state = at_phase s (Open (db_of o)); view = v; written = written; failed = failed }) new r
    → Answers (Needs row) (record { state = s; view = u; written = written; failed = failed }) new r
needs_first row s written failed u v new r o phase opened later h = λ k on c told.
    let m = opened.opened c told in
    let a = h k on m.0 m.1 in
    let old : Scene = record { state = s; view = u; written = written; failed = failed } in
    let b = answer_in old new k c r a.text a.after in
    record {
      text = a.text;
      after = a.after;
      told = a.told;
      written = a.written;
      is = subst (λ (p : Phase). InPhase p (Whole row) b) (sym phase) (inr (inr (record {
        db = db_of o;
        mid = m.0;
        opens = m.2;
        counted = record { vault = v.faults; clock = k.counted; out = failed };
        later = record { vault = later; clock = omega arith; out = omega arith };
        rest = a.is;
      })));
    }

-- the opening was refused
pub needs_refused : (row : DbRow) (old new : Scene) (e : DbError) → old.state.phase ≡ Fresh → IsRefusedOpening (Opens old.state.settings) (Spoils old.state.settings) e old.view new.view
    → new.written ≡ old.written → new.state ≡ old.state → Answers (Needs row) old new (Refused e)
needs_refused row old new VaultFault phase h written state = λ k on c told.
    let m = h.spoiled c told in
    let b = answer_in old new k c (Refused VaultFault) [] m.0 in
    record {
      text = [];
      after = m.0;
      told = m.1;
      written = written ∙ put-nothing old.written;
      is = subst (λ (p : Phase). InPhase p (Whole row) b) (sym phase) (inl (record { reply = refl; rose = h.rose; text = refl; session = state; spoils = m.2 }));
    }
needs_refused row old new e phase h written state = λ k on c told.
    let m = h c told in
    let b = answer_in old new k c (Refused e) [] c in
    record {
      text = [];
      after = c;
      told = m.0;
      written = written ∙ put-nothing old.written;
      is = subst (λ (p : Phase). InPhase p (Whole row) b) (sym phase) (inr (inl (record { error = e; opens = m.1; refuses = record { reply = refl; stays = record { session = state; content = refl; text = refl } } })));
    }

-- ---- behind the first opening

stayed : (row : DbRow) (h g : Held) (u v : View) (w : Option Text) (f : ℕ) (new : Scene) (r : Reply) → g ≡ h → v ≡ u → Answers (Needs row) (scene g v w f) new r → Answers (Needs row) (scene h u w f) new r
stayed row h g u v w f new r same view a =
    subst (λ (k : Held). Answers (Needs row) (scene k u w f) new r) same (subst (λ (x : View). Answers (Needs row) (scene g x w f) new r) view a)

pub first_ok : (row : DbRow) (p : real.Phase) (h g : Held) (x : Unit {0}) (u v : View) (w : Option Text) (f : ℕ) (new : Scene) (r : Reply) → h.phase ≡ p → FirstOf p h g (Ok x) u v
    → Answers (Needs row) (scene g v w f) new r → Answers (Needs row) (scene h u w f) new r
first_ok row phases.Fresh h g x u v w f new r is first a =
    needs_first row (seen h) w f u v new r first.0 (ap phase_of is) first.2 first.3 (subst (λ (k : Held). Answers (Needs row) (scene k v w f) new r) first.1 a)
first_ok row (phases.Open store) h g x u v w f new r is first a = stayed row h g u v w f new r first.1 first.2 a
first_ok row phases.Shut h g x u v w f new r is first a = stayed row h g u v w f new r first.1 first.2 a

pub first_err : (row : DbRow) (p : real.Phase) (h g : Held) (e : DbError) (u v : View) (w : Option Text) (f : ℕ) → h.phase ≡ p → FirstOf p h g (Err e) u v
    → Answers (Needs row) (scene h u w f) (scene g v w f) (Refused e)
first_err row phases.Fresh h g e u v w f is first = needs_refused row (scene h u w f) (scene g v w f) e (ap phase_of is) first.1 refl (ap seen first.0)
first_err row (phases.Open store) h g e u v w f is first = absurd (let t : false ≡ true = first.0 in cc)
first_err row phases.Shut h g e u v w f is first = absurd (let t : false ≡ true = first.0 in cc)

pub first_opened : (h g : Held) (o : Opened) (u v : View) → h ≡ g → h.phase ≡ phases.Fresh → IsOpened (Opens h.settings) h.settings.file o u v → u.faults ≤ v.faults
    → First g (record h { phase = phases.Open o }) (Ok tt) u v
first_opened h g o u v is fresh opened later =
    subst (λ (k : Held). First k (record h { phase = phases.Open o }) (Ok tt) u v) is
    (subst (λ (p : real.Phase). FirstOf p h (record h { phase = phases.Open o }) (Ok tt) u v) (sym fresh) (o, refl, opened, later))
