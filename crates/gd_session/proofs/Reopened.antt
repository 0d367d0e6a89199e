-- Another database in the place of the one that was open.
use Rattle.std.proofs.Common.{◌≡◌, ◌≤◌, arith, inl, inr, ℕ, List, [], Option, Some, None, Result, Ok, Err, refl, sym, ap, subst, ◌∙◌}
use Rattle.gd_base.proofs.Writes.{put-nothing}
use Rattle.gd_base.specs.declared.errors.DbError.{DbError}
use Rattle.gd_base.specs.declared.errors.DbError.TheVariants.{Absent, BlockSize, ShortFile, BadMagic, ByteSwapped, WrongOffset, BadHeader, BadDirEntry, BadBucket, BadHashTable, BadHashEntry, BadAvail, NeedRecovery, ReaderCant, ItemNotFound, CannotReplace, DirOverflow, TooLarge, FileFull, Exists, InUse, NotNumsync, AlreadyAtomic, SameName, InEpoch, NotOpen, VaultFault, ClockFault, OutOfMemory, ClockStood}
use Rattle.gd_lang.specs.declared.commands.Opening.{Opening}
use Rattle.gd_lang.specs.declared.commands.Opening.TheVariants as ways
use Rattle.gd_store.specs.Opened.{Opened}
use Rattle.gd_vault.specs.Content.{Content}
use Rattle.gd_vault.specs.Views.{View, content_of}
use Rattle.gd_session.specs.Calls.{Answers, Scene}
use Rattle.gd_session.specs.Closing.{IsClosing, SameContent}
use Rattle.gd_session.specs.Due.{Causes, moving}
use Rattle.gd_session.specs.Openings.{IsOpened, IsOpeningCause, IsRefusedOpening}
use Rattle.gd_session.specs.Opens.{Opens, Spoils, SpoilsAs}
use Rattle.gd_session.specs.Rows.{Reopens}
use Rattle.gd_session.specs.State.{Held, State, Text, at_phase, db_of, named, naming, phase_of, seen, shut}
use Rattle.gd_session.specs.State.Phase.{Open}
use Rattle.gd_session.specs.declared.phase.Phase as real
use Rattle.gd_session.specs.declared.phase.Phase.TheVariants as phases
use Rattle.gd_session.specs.declared.reply.Reply.TheVariants.{Done, Refused}
use Rattle.gd_session.specs.declared.settings.Settings.{Settings}
use Rattle.gd_session.proofs.Caused.{caused_before, opening_caused}
use Rattle.gd_session.proofs.Openings.{nothing_spoiled}
use Rattle.gd_session.proofs.Saying.{rose_later}

spoils_none : (w : Opening) (s : Settings) (c : Content) → SpoilsAs w s c c
spoils_none ways.NewDb s c = nothing_spoiled None s c
spoils_none ways.WrCreat s c = nothing_spoiled (c.names s.file) s c
spoils_none ways.Reader s c = refl

-- the closing failed
pub reopen_unclosed : (name : Option Text) (old new : Scene) (p : real.Phase) (e : DbError) → new.state ≡ shut (naming name old.state) → new.written ≡ old.written → IsClosing p (Err e) old.view new.view → Answers (Reopens name) old new (Refused e)
reopen_unclosed name old new p e state written h = λ k on c told. record {
  text = [];
  after = c;
  told = h.0 c told;
  written = written ∙ put-nothing old.written;
  is = inr (record { reply = ap Refused h.1; rose = h.2; text = refl; session = state; spoils = spoils_none old.state.settings.opening (naming name old.state).settings c });
}

-- the database was opened
pub reopened : (name : Option Text) (old new : Scene) (store : Opened) (u : View) → SameContent old.view u → new.state ≡ at_phase (shut (naming name old.state)) (Open (db_of store)) → new.written ≡ old.written
    → IsOpened (Opens (naming name old.state).settings) (naming name old.state).settings.file store u new.view → Answers (Reopens name) old new Done
reopened name old new store u same state written opened = λ k on c told.
    let m = opened.opened c (same c told) in
    record {
      text = [];
      after = m.0;
      told = m.1;
      written = written ∙ put-nothing old.written;
      is = inl (record { result = Ok (db_of store); opens = m.2; reply = refl; text = refl; session = state });
    }

-- the opening was refused
pub reopen_refused : (name : Option Text) (old new : Scene) (e : DbError) (u : View) → SameContent old.view u → old.view.faults ≤ u.faults → new.state ≡ shut (naming name old.state) → new.written ≡ old.written
    → IsRefusedOpening (Opens (naming name old.state).settings) (Spoils (naming name old.state).settings) e u new.view → Answers (Reopens name) old new (Refused e)
reopen_refused name old new VaultFault u same later state written h = λ k on c told.
    let m = h.spoiled c (same c told) in
    record {
      text = [];
      after = m.0;
      told = m.1;
      written = written ∙ put-nothing old.written;
      is = inr (record { reply = refl; rose = rose_later old.view.faults u.faults new.view.faults later h.rose; text = refl; session = state; spoils = m.2 });
    }
reopen_refused name old new e u same later state written h = λ k on c told.
    let m = h c (same c told) in
    record {
      text = [];
      after = c;
      told = m.0;
      written = written ∙ put-nothing old.written;
      is = inl (record { result = Err e; opens = m.1; reply = refl; text = refl; session = state });
    }

pub reopen_caused : (old new : Scene) (u : View) (e : DbError) → old.view.faults ≤ u.faults → IsOpeningCause e u.faults new.view.faults → Causes None moving old new (Refused e)
reopen_caused old new u e later why =
    caused_before None moving old (record old { view = u }) new (Refused e) later (omega arith) (λ is. let no_ : None ≡ Some (Refused NotOpen) = is in cc) (opening_caused moving (record old { view = u }) new e refl refl why)

-- ---- by what is kept of a session

pub settings_moved : (h g : Held) (name : Option Text) (file : Text) → h ≡ g → file ≡ named name h.settings.file → record h.settings { file = file } ≡ (naming name (seen g)).settings
settings_moved h g name file same is =
    ap (λ (f : Text). record h.settings { file = f }) is ∙ ap (λ (k : Held). record k.settings { file = named name k.settings.file }) same

state_at : (h g : Held) (name : Option Text) (file : Text) (p : real.Phase) → h ≡ g → file ≡ named name h.settings.file
    → seen (record h { phase = p; settings = record h.settings { file = file }; last = None }) ≡ at_phase (shut (naming name (seen g))) (phase_of p)
state_at h g name file p same is =
    ap (λ (t : Settings). seen (record h { phase = p; settings = t; last = None })) (settings_moved h g name file same is)
    ∙ ap (λ (k : Held). seen (record k { phase = p; settings = (naming name (seen g)).settings; last = None })) same

pub state_shut : (h g : Held) (name : Option Text) (file : Text) (p : real.Phase) → h ≡ g → file ≡ named name h.settings.file → p ≡ phases.Shut
    → seen (record h { phase = p; settings = record h.settings { file = file }; last = None }) ≡ shut (naming name (seen g))
state_shut h g name file p same is shut_is = state_at h g name file p same is ∙ ap (λ (q : real.Phase). at_phase (shut (naming name (seen g))) (phase_of q)) shut_is

pub state_open : (h g : Held) (name : Option Text) (file : Text) (store : Opened) → h ≡ g → file ≡ named name h.settings.file
    → seen (record h { phase = phases.Open store; settings = record h.settings { file = file }; last = None }) ≡ at_phase (shut (naming name (seen g))) (Open (db_of store))
state_open h g name file store same is = state_at h g name file (phases.Open store) same is

pub opened_at : (s t : Settings) (store : Opened) (u v : View) → s ≡ t → IsOpened (Opens s) s.file store u v → IsOpened (Opens t) t.file store u v
opened_at s t store u v is h = subst (λ (x : Settings). IsOpened (Opens x) x.file store u v) is h

pub refused_at : (s t : Settings) (e : DbError) (u v : View) → s ≡ t → IsRefusedOpening (Opens s) (Spoils s) e u v → IsRefusedOpening (Opens t) (Spoils t) e u v
refused_at s t e u v is h = subst (λ (x : Settings). IsRefusedOpening (Opens x) (Spoils x) e u v) is h
