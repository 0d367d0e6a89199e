-- Answers of commands that ask.
use Rattle.std.proofs.Common.{arith, ◌≤◌, ◌≡◌, ◌⊎◌, inl, inr, ⊎_elim, ℕ, Bool, true, false, List, [], Option, Some, None, Result, Ok, Err, refl, sym, ap, subst, ◌∙◌}
use Rattle.gd_base.specs.Streams.{and_then}
use Rattle.gd_base.proofs.Writes.{put-nothing}
use Rattle.gd_base.specs.declared.errors.DbError.{DbError}
use Rattle.gd_base.specs.declared.errors.DbError.TheVariants.{Absent, BlockSize, ShortFile, BadMagic, ByteSwapped, WrongOffset, BadHeader, BadDirEntry, BadBucket, BadHashTable, BadHashEntry, BadAvail, NeedRecovery, ReaderCant, ItemNotFound, CannotReplace, DirOverflow, TooLarge, FileFull, Exists, InUse, NotNumsync, AlreadyAtomic, SameName, InEpoch, NotOpen, VaultFault, ClockFault, OutOfMemory, ClockStood}
use Rattle.gd_format.specs.File.{records}
use Rattle.gd_store.specs.Opened.{Opened, OnFile}
use Rattle.gd_store.specs.Replies.{RefusedAsking}
use Rattle.gd_readable.specs.Asks as verify
use Rattle.gd_vault.specs.Content.{File, Content}
use Rattle.gd_vault.specs.Views.{View, HasFile, OnlyAsks, content_of}
use Rattle.gd_session.specs.Answers.{Answer, Ending, Ends, OutRose, PrintFails, Prints, Refuses, Replies, Starves, Stays, VaultFails, VaultRose}
use Rattle.gd_session.specs.Calls.{Answered, Answers, Clocked, IsOpen, IsPhaseReady, IsReady, Scene, answer_in}
use Rattle.gd_session.specs.declared.phase.Phase as real
use Rattle.gd_session.specs.declared.phase.Phase.TheVariants as phases
use Rattle.gd_session.specs.Rows.{Asks, DbRow, InPhase, Live, Needs, OrBroken, Row, Unasked, Whole, refused}
use Rattle.gd_session.specs.Said.{Shown}
use Rattle.gd_session.specs.State.{Db, Held, Phase, State, Text, db_of}
use Rattle.gd_session.specs.State.Phase.{Open, Shut}
use Rattle.gd_session.specs.Texts.{Pair}
use Rattle.gd_session.specs.declared.reply.Reply.{Reply}
use Rattle.gd_session.specs.declared.reply.Reply.TheVariants.{Refused}

pub bool_cases : (b : Bool) → (b ≡ true) ⊎ (b ≡ false)
bool_cases true = inl refl
bool_cases false = inr refl

-- ---- the parts of rows

pub needs_open : (row : DbRow) (a : Answer) (db : Db) → a.old.phase ≡ Open db → Whole row db a → Needs row a
needs_open row a db e w = subst (λ (p : Phase). InPhase p (Whole row) a) (sym e) w

pub needs_shut : (row : DbRow) (a : Answer) → a.old.phase ≡ Shut → Refuses NotOpen a → Needs row a
needs_shut row a e w = subst (λ (p : Phase). InPhase p (Whole row) a) (sym e) w

pub whole : (row : DbRow) (a : Answer) (db : Db) → db.broken ≡ false → row db a → Whole row db a
whole row a db e w = subst (λ (b : Bool). OrBroken b (row db) a) (sym e) w

pub broken : (row : DbRow) (a : Answer) (db : Db) → db.broken ≡ true → Refuses NeedRecovery a → Whole row db a
broken row a db e w = subst (λ (b : Bool). OrBroken b (row db) a) (sym e) w

-- ---- an ending that was shown

pub shown_prints : (e : Ending) (old new : Scene) (k : Clocked) (c : Content) (r : Reply) → (s : Shown e old new r) → Prints e (answer_in old new k c r s.text c)
shown_prints e old new k c r s =
    ⊎_elim
    (λ (h : (r ≡ e.reply) × (s.text ≡ e.text) × (new.state ≡ e.session)). inl (record { reply = h.0; text = h.1; session = h.2; content = refl }))
    (λ (h : _). inr (record { prints = h.4; reply = h.0; rose = h.1; text = h.2; session = h.3; content = refl }))
    s.how

pub asks_ok : (row : State → List Pair → Ending) (old new : Scene) (store : Opened) (r : Reply)
    → old.state.phase ≡ Open (db_of store) → store.broken ≡ false → HasFile old.view store.file → OnlyAsks old.view new.view
    → OnFile old.view store.file (λ file. Shown (row old.state (records file)) old new r)
    → Answers (Needs (Asks row)) old new r
asks_ok row old new store r phase calm has asks shown = λ k on c told.
    let x = has c told in
    let s = shown c x.0 told x.1 in
    record {
      text = s.text;
      after = c;
      told = ap content_of asks.told ∙ told;
      written = s.written;
      is = needs_open (Asks row) (answer_in old new k c r s.text c) (db_of store) phase
          (whole (Asks row) (answer_in old new k c r s.text c) (db_of store) calm
          (inl (record { file = x.0; there = x.1; is = shown_prints (row old.state (records x.0.bytes)) old new k c r s })));
    }

-- ---- refusals

-- an answer that changes nothing
abbrev pub quiet : Scene → Scene → Clocked → Content → Reply → Answer
quiet old new k c r = answer_in old new k c r [] c

pub quiet_answer : (row : Row) (old new : Scene) (r : Reply) → OnlyAsks old.view new.view → new.written ≡ old.written
    → ((k : Clocked) (c : Content) → content_of old.view.told ≡ Some c → row (quiet old new k c r)) → Answers row old new r
quiet_answer row old new r asks same is = λ k on c told. record {
  text = [];
  after = c;
  told = ap content_of asks.told ∙ told;
  written = same ∙ put-nothing old.written;
  is = is k c told;
}

pub replies : (old new : Scene) (k : Clocked) (c : Content) (r : Reply) → new.state ≡ old.state → Replies r (quiet old new k c r)
replies old new k c r same = record { reply = refl; stays = record { session = same; content = refl; text = refl } }

pub shut_answer : (row : DbRow) (old new : Scene) → old.state.phase ≡ Shut → OnlyAsks old.view new.view → new.written ≡ old.written → new.state ≡ old.state
    → Answers (Needs row) old new (Refused NotOpen)
shut_answer row old new phase asks written state =
    quiet_answer (Needs row) old new (Refused NotOpen) asks written (λ k c told. needs_shut row (quiet old new k c (Refused NotOpen)) phase (replies old new k c (Refused NotOpen) state))

pub broken_answer : (row : DbRow) (old new : Scene) (store : Opened) → old.state.phase ≡ Open (db_of store) → store.broken ≡ true → OnlyAsks old.view new.view → new.written ≡ old.written → new.state ≡ old.state
    → Answers (Needs row) old new (Refused NeedRecovery)
broken_answer row old new store phase bad asks written state =
    quiet_answer (Needs row) old new (Refused NeedRecovery) asks written (λ k c told.
    needs_open row (quiet old new k c (Refused NeedRecovery)) (db_of store) phase
    (broken row (quiet old new k c (Refused NeedRecovery)) (db_of store) bad (replies old new k c (Refused NeedRecovery) state)))

-- the refusal that is due is the row's
abbrev pub Links : (State → List Pair → Ending) → State → (List ℕ → Option DbError) → DbError → Type 0
Links row s due e = (file : List ℕ) → due file ≡ Some e → row s (records file) ≡ refused s e

ends_refused : (row : State → List Pair → Ending) (due : List ℕ → Option DbError) (e : DbError) (db : Db) (a : Answer) (x : File)
    → a.before.files db.file ≡ Some x → due x.bytes ≡ Some e → Links row a.old due e → Refuses e a → Asks row db a
ends_refused row due e db a x there is links r =
    let same = links x.bytes is in
    inl (record {
      file = x;
      there = there;
      is = inl (record {
        reply = r.reply ∙ ap (λ (n : Ending). n.reply) (sym same);
        text = r.stays.text ∙ ap (λ (n : Ending). n.text) (sym same);
        session = r.stays.session ∙ ap (λ (n : Ending). n.session) (sym same);
        content = r.stays.content;
      });
    })

asks_error : (row : State → List Pair → Ending) (due : List ℕ → Option DbError) (e : DbError) (db : Db) (a : Answer) (x : File) (refusal : Type 0)
    → a.before.files db.file ≡ Some x → (refusal → due x.bytes ≡ Some e) → Links row a.old due e → Refuses e a → verify.Refuses e (VaultRose a) refusal → Asks row db a
asks_error row due VaultFault db a x refusal there is links r cause = inr (inl (record { refuses = r; rose = cause }))
asks_error row due OutOfMemory db a x refusal there is links r cause = inr (inr r)
asks_error row due e db a x refusal there is links r cause = ends_refused row due e db a x there (is cause) links r

pub asks_err : (row : State → List Pair → Ending) (due : List ℕ → Option DbError) (old new : Scene) (store : Opened) (e : DbError)
    → old.state.phase ≡ Open (db_of store) → store.broken ≡ false → HasFile old.view store.file → OnlyAsks old.view new.view → new.written ≡ old.written → new.state ≡ old.state
    → Links row old.state due e → RefusedAsking e store.file old.view new.view due
    → Answers (Needs (Asks row)) old new (Refused e)
asks_err row due old new store e phase calm has asks written state links why =
    quiet_answer (Needs (Asks row)) old new (Refused e) asks written (λ k c told.
    let x = has c told in
    needs_open (Asks row) (quiet old new k c (Refused e)) (db_of store) phase
    (whole (Asks row) (quiet old new k c (Refused e)) (db_of store) calm
    (asks_error row due e (db_of store) (quiet old new k c (Refused e)) x.0 _ x.1 (λ (h : OnFile old.view store.file (λ file. due file ≡ Some e)). h c x.0 told x.1) links (replies old new k c (Refused e) state) why.cause)))

-- ---- whether or not the database is broken

pub err_same : {A E : Type 0} {x y : E} (r : Result A E) → r ≡ Err x → r ≡ Err y → x ≡ y
err_same r h k = cc

-- a call that asks was refused
pub asks_refused : {A : Type 0} (row : State → List Pair → Ending) (due : List ℕ → Option DbError) (old new : Scene) (store : Opened) (e : DbError) (r : Result A DbError)
    → r ≡ Err e
    → old.state.phase ≡ Open (db_of store) → HasFile old.view store.file → OnlyAsks old.view new.view → new.written ≡ old.written → new.state ≡ old.state
    → (store.broken ≡ true → r ≡ Err NeedRecovery)
    → (store.broken ≡ false → RefusedAsking e store.file old.view new.view due)
    → Links row old.state due e
    → Answers (Needs (Asks row)) old new (Refused e)
asks_refused {A = A} row due old new store e r is phase has asks written state bad why links =
    ⊎_elim
    (λ (h : store.broken ≡ true).
    let same : NeedRecovery ≡ e = err_same r (bad h) is in
    subst (λ (x : DbError). Answers (Needs (Asks row)) old new (Refused x)) same (broken_answer (Asks row) old new store phase h asks written state))
    (λ (h : store.broken ≡ false). asks_err row due old new store e phase h has asks written state links (why h))
    (bool_cases store.broken)

-- a call that asks was answered
pub asks_answered : {A : Type 0} (row : State → List Pair → Ending) (old new : Scene) (store : Opened) (r : Reply) (x : A) (result : Result A DbError)
    → result ≡ Ok x
    → old.state.phase ≡ Open (db_of store) → HasFile old.view store.file → OnlyAsks old.view new.view
    → (store.broken ≡ true → result ≡ Err NeedRecovery)
    → OnFile old.view store.file (λ file. Shown (row old.state (records file)) old new r)
    → Answers (Needs (Asks row)) old new r
asks_answered row old new store r x result is phase has asks bad shown =
    ⊎_elim
    (λ (h : store.broken ≡ true). absurd (let no : Ok x ≡ Err NeedRecovery = sym is ∙ bad h in cc))
    (λ (h : store.broken ≡ false). asks_ok row old new store r phase h has asks shown)
    (bool_cases store.broken)

-- ---- the condition of the next call

pub told_by : (u v : View) (c : Content) → OnlyAsks u v → content_of v.told ≡ Some c → content_of u.told ≡ Some c
told_by u v c asks told = ap content_of (sym asks.told) ∙ told

pub open_at : (v : View) (h : Held) (store : Opened) → IsReady v h → h.phase ≡ phases.Open store → IsOpen v h.settings.file store
open_at v h store ready is = subst (λ (p : real.Phase). IsPhaseReady v h.settings.file p) is ready

pub open_asked : (u v : View) (name : Text) (s t : Opened) → IsOpen u name s → t ≡ s → OnlyAsks u v → IsOpen v name t
open_asked u v name s t o same asks =
    let still : IsOpen v name s = record {
      there = λ c told. o.there c (told_by u v c asks told);
      fits = λ calm c x told there. o.fits calm c x (told_by u v c asks told) there;
      named = λ calm c told. o.named calm c (told_by u v c asks told);
    } in
    subst (λ (k : Opened). IsOpen v name k) (sym same) still

phase_asked : (u v : View) (name : Text) (p : real.Phase) → IsPhaseReady u name p → OnlyAsks u v → IsPhaseReady v name p
phase_asked u v name phases.Fresh ready asks = ready
phase_asked u v name (phases.Open store) ready asks = open_asked u v name store store ready refl asks
phase_asked u v name phases.Shut ready asks = ready

pub ready_asked : (u v : View) (h g : Held) → IsReady u h → g ≡ h → OnlyAsks u v → IsReady v g
ready_asked u v h g ready same asks = subst (λ (k : Held). IsReady v k) (sym same) (phase_asked u v h.settings.file h.phase ready asks)

pub nothing_asked : (u : View) → OnlyAsks u u
nothing_asked u = record { told = refl; later = omega arith; bytes_written = refl; clones = refl }
