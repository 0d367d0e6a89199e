-- Answers of commands that change the map.
use Rattle.std.proofs.Common.{◌≡◌, ◌≢◌, ◌⊎◌, inl, inr, ⊎_elim, ℕ, Bool, true, false, ◌||◌, List, [], ◌++◌, Option, Some, None, Result, Ok, Err, refl, sym, ap, subst, ◌∙◌}
use Rattle.std.specs.Prelude.{IfErr}
use Rattle.gd_base.proofs.Writes.{put-nothing}
use Rattle.gd_base.specs.Causes.{Rose}
use Rattle.gd_base.specs.declared.errors.DbError.{DbError}
use Rattle.gd_base.specs.declared.errors.DbError.TheVariants.{Absent, BlockSize, ShortFile, BadMagic, ByteSwapped, WrongOffset, BadHeader, BadDirEntry, BadBucket, BadHashTable, BadHashEntry, BadAvail, NeedRecovery, ReaderCant, ItemNotFound, CannotReplace, DirOverflow, TooLarge, FileFull, Exists, InUse, NotNumsync, AlreadyAtomic, SameName, InEpoch, NotOpen, VaultFault, ClockFault, OutOfMemory, ClockStood}
use Rattle.gd_format.specs.File.{records}
use Rattle.gd_format.specs.declared.Header.{Header}
use Rattle.gd_map_laws.specs.Maps.{PairMap, pair_map}
use Rattle.gd_file_laws.specs.Parts.{file_header}
use Rattle.gd_store.specs.Changed.{Becomes, IsChanged, Keeps}
use Rattle.gd_store.specs.Opened.{Fits, IsOpenOn, IsRightFor, Opened, OnFile, SameButCached}
use Rattle.gd_store.specs.Replies.{is_fault, is_fault_of}
use Rattle.gd_store.specs.declared.access.Access.{Access}
use Rattle.gd_store.specs.declared.access.Access.TheVariants.{Reader, Writer}
use Rattle.gd_readable.specs.Asks as verify
use Rattle.gd_vault.specs.Content.{File, Content}
use Rattle.gd_vault.specs.Frame.{Frame, NoName, OneFile, Reads, Within}
use Rattle.gd_vault.specs.Streams.{SameMarks}
use Rattle.gd_vault.specs.Views.{View, Told, HasFile, IsAt, OnlyAsks, content_of}
use Rattle.gd_vault.specs.Views.Told.{Nothing, Tells, Records}
use Rattle.gd_vault.proofs.OneFile.{frame_told, reads_in}
use Rattle.gd_session.specs.Answers.{Answer, Refuses}
use Rattle.gd_session.specs.Calls.{Answered, Answers, Clocked, IsOpen, IsReady, OpenFile, Scene, answer_in}
use Rattle.gd_session.specs.declared.phase.Phase as real
use Rattle.gd_session.specs.declared.phase.Phase.TheVariants as phases
use Rattle.gd_session.specs.Rows.{Breaks, Changes, DbRow, ForAccess, Live, Maps, MarksStay, Needs, OrDue, Row, SameHead, ToWrite, Writes}
use Rattle.gd_session.specs.State.{Db, Held, Phase, State, at_phase, broken_db, db_of}
use Rattle.gd_session.specs.State.Phase.{Open}
use Rattle.gd_session.specs.declared.reply.Reply.{Reply}
use Rattle.gd_session.specs.declared.reply.Reply.TheVariants.{Done, Refused}
use Rattle.gd_session.proofs.Asked.{bool_cases, broken, err_same, needs_open, quiet, replies, whole}

pub access_cases : (k : Access) → (k ≡ Reader) ⊎ (k ≡ Writer)
access_cases Reader = inl refl
access_cases Writer = inr refl

-- nothing is cached yet
pub same_store : (s t : Opened) → SameButCached s t → t ≡ s
same_store s t c = λ i. record { file = c.file i; header = c.header i; table = c.table i; access = c.access i; broken = c.broken i; cache = c.cache i }

-- ---- contents

one_content : (t : Told) (c d : Content) → content_of t ≡ Some c → content_of t ≡ Some d → c ≡ d
one_content t c d e h = let both : Some c ≡ Some d = sym e ∙ h in cc

-- a file with the same mode and stamp is the old one with other bytes
same_marks : (x y : File) → y.mode ≡ x.mode → y.stamp ≡ x.stamp → y ≡ record x { bytes = y.bytes }
same_marks x y m s = λ i. record { bytes = y.bytes; mode = m i; stamp = s i }

-- ---- sessions

db_keeps : (store store' : Opened) (b : Bool) → Keeps store store' → store'.broken ≡ b → db_of store' ≡ record (db_of store) { broken = b }
db_keeps store store' b k e = λ i. record { file = k.file i; access = k.access i; broken = e i; cache = k.cache i }

db_calm : (store : Opened) (b : Bool) → store.broken ≡ b → record (db_of store) { broken = b } ≡ db_of store
db_calm store b e = λ i. record { file = store.file; access = store.access; broken = sym e i; cache = store.cache }

state_calm : (s t : State) (store store' : Opened) → s.phase ≡ Open (db_of store) → t ≡ at_phase s (Open (db_of store')) → store.broken ≡ false → store'.broken ≡ false → Keeps store store' → t ≡ s
state_calm s t store store' phase is calm calm' k =
    is ∙ ap (λ (db : Db). at_phase s (Open db)) (db_keeps store store' false k calm' ∙ db_calm store false calm) ∙ ap (λ (p : Phase). at_phase s p) (sym phase)

state_broken : (s t : State) (store store' : Opened) → t ≡ at_phase s (Open (db_of store')) → store'.broken ≡ true → Keeps store store' → t ≡ at_phase s (Open (broken_db (db_of store)))
state_broken s t store store' is bad k = is ∙ ap (λ (db : Db). at_phase s (Open db)) (db_keeps store store' true k bad)

-- ---- rows

pub writes : (row : DbRow) (a : Answer) (db : Db) → db.access ≡ Writer → row db a → ToWrite row db a
writes row a db e w = subst (λ (k : Access). ForAccess k (row db) a) (sym e) w

pub reads_only : (row : DbRow) (a : Answer) (db : Db) → db.access ≡ Reader → Refuses ReaderCant a → ToWrite row db a
reads_only row a db e w = subst (λ (k : Access). ForAccess k (row db) a) (sym e) w

-- what is kept of a header is what the files have
heads : (s s' : Opened) (x y : List ℕ) → Keeps s s' → IsOpenOn s x → IsOpenOn s' y → SameHead (file_header x) (file_header y)
heads s s' x y keeps before after =
    subst (λ (h : Header). SameHead h (file_header y)) before.header (subst (λ (h : Header). SameHead s.header h) after.header keeps.header)

maps : (old new : View) (s s' : Opened) (map : PairMap → PairMap) (more : List ℕ → ℕ) (c : Content) (x : File)
    → content_of old.told ≡ Some c → c.files s.file ≡ Some x → s'.access ≡ Writer → Keeps s s' → OnFile old s.file (IsOpenOn s)
    → Becomes old new s.file s' (λ file. map (pair_map (records file))) more → SameMarks s.file old new → Within (OneFile s.file) NoName old new
    → (d : Content) × (content_of new.told ≡ Some d) × Maps (map (pair_map (records x.bytes))) s.file x c d
maps old new s s' map more c x told there writer keeps fits becomes marks frame =
    let n = becomes c x told there in
    let m = marks c x told there in
    let r = reads_in (OneFile s.file) NoName old.told new.told c frame.told told in
    let same_m : m.0 ≡ n.content = one_content new.told m.0 n.content m.1 n.told in
    let same_r : r.0 ≡ n.content = one_content new.told r.0 n.content r.1 n.told in
    let y : n.content.files s.file ≡ Some m.2.0 = subst (λ (k : Content). k.files s.file ≡ Some m.2.0) same_m m.2.1 in
    let file_is : m.2.0 ≡ n.file = let both : Some m.2.0 ≡ Some n.file = sym y ∙ n.there in cc in
    let right = subst (λ (k : Access). IsRightFor k s'.header s'.table n.file.bytes) writer n.holds.is_open.right in
    let mode : n.file.mode ≡ x.mode = ap (λ (f : File). f.mode) (sym file_is) ∙ m.2.2 in
    let stamp : n.file.stamp ≡ x.stamp = ap (λ (f : File). f.stamp) (sym file_is) ∙ m.2.3 in (
      n.content,
      n.told,
      record {
        bytes = n.file.bytes;
        there = n.there ∙ ap Some (same_marks x n.file mode stamp);
        sound = right.0;
        map_is = n.holds.map_is;
        head = heads s s' x.bytes n.file.bytes keeps (fits c x told there) n.holds.is_open;
        others = subst (λ (k : Content). Reads (OneFile s.file) NoName c k) same_r r.2;
      },
    )

due_none : (o : Option DbError) (row : Row) (a : Answer) → o ≡ None → row a → OrDue o row a
due_none o row a e w = subst (λ (d : Option DbError). OrDue d row a) (sym e) w

due_some : (o : Option DbError) (row : Row) (a : Answer) (e : DbError) → o ≡ Some e → Refuses e a → OrDue o row a
due_some o row a e is w = subst (λ (d : Option DbError). OrDue d row a) (sym is) w

pub changes_ok : (due : List ℕ → Option DbError) (map : PairMap → PairMap) (more : List ℕ → ℕ) (old new : Scene) (store store' : Opened)
    → old.state.phase ≡ Open (db_of store) → new.state ≡ at_phase old.state (Open (db_of store'))
    → store.broken ≡ false → store.access ≡ Writer → store'.broken ≡ false → Keeps store store'
    → HasFile old.view store.file → OnFile old.view store.file (IsOpenOn store) → OnFile old.view store.file (λ file. due file ≡ None)
    → Becomes old.view new.view store.file store' (λ file. map (pair_map (records file))) more
    → SameMarks store.file old.view new.view → Within (OneFile store.file) NoName old.view new.view
    → new.written ≡ old.written
    → Answers (Needs (ToWrite (Changes due map))) old new Done
changes_ok due map more old new store store' phase state calm writer calm' keeps has fits none becomes marks frame written = λ k on c told.
    let x = has c told in
    let m = maps old.view new.view store store' map more c x.0 told x.1 (keeps.access ∙ writer) keeps fits becomes marks frame in
    let row : DbRow = Changes due map in
    let a = answer_in old new k c Done [] m.0 in
    record {
      text = [];
      after = m.0;
      told = m.1;
      written = written ∙ put-nothing old.written;
      is = needs_open (ToWrite row) a (db_of store) phase (whole (ToWrite row) a (db_of store) calm (writes row a (db_of store) writer
          (inl (record {
            file = x.0;
            there = x.1;
            is = due_none (due x.0.bytes) (Writes (map (pair_map (records x.0.bytes))) store.file x.0) a (none c x.0 told x.1) (record {
              reply = refl;
              text = refl;
              session = state_calm old.state new.state store store' phase state calm calm' keeps;
              maps = m.2;
            });
          }))));
    }

-- an answer of the row, where the database is open to write and not broken
in_place : (row : DbRow) (old new : Scene) (store : Opened) (r : Reply) (d : Content) (k : Clocked) (c : Content)
    → old.state.phase ≡ Open (db_of store) → store.broken ≡ false → store.access ≡ Writer → new.written ≡ old.written → content_of new.view.told ≡ Some d
    → row (db_of store) (answer_in old new k c r [] d) → Answered (Needs (ToWrite row)) old new k c r
in_place row old new store r d k c phase calm writer written told is =
    let a = answer_in old new k c r [] d in
    record {
      text = [];
      after = d;
      told = told;
      written = written ∙ put-nothing old.written;
      is = needs_open (ToWrite row) a (db_of store) phase (whole (ToWrite row) a (db_of store) calm (writes row a (db_of store) writer is));
    }

-- what is known of a change that was refused
pub record IsRefused (due : List ℕ → Option DbError) (old new : Scene) (store store' : Opened) (e : DbError) : Type 0 where
  pub phase : old.state.phase ≡ Open (db_of store)
  pub state : new.state ≡ at_phase old.state (Open (db_of store'))
  pub written : new.written ≡ old.written
  pub has : HasFile old.view store.file
  pub keeps : Keeps store store'
  pub frame : Within (OneFile store.file) NoName old.view new.view
  pub marks : SameMarks store.file old.view new.view
  pub kept : e ≢ VaultFault → IsAt old.view (λ _. (store' ≡ store) × OnlyAsks old.view new.view)

same_state : (s t : State) (store store' : Opened) → s.phase ≡ Open (db_of store) → t ≡ at_phase s (Open (db_of store')) → store' ≡ store → t ≡ s
same_state s t store store' phase is same = is ∙ ap (λ (o : Opened). at_phase s (Open (db_of o))) same ∙ ap (λ (p : Phase). at_phase s p) (sym phase)

-- a refusal other than a fault changes nothing
calm_answer : (due : List ℕ → Option DbError) (row : Row) (old new : Scene) (store store' : Opened) (e : DbError) → IsRefused due old new store store' e → e ≢ VaultFault
    → ((k : Clocked) (c : Content) → content_of old.view.told ≡ Some c → Refuses e (quiet old new k c (Refused e)) → row (quiet old new k c (Refused e)))
    → Answers row old new (Refused e)
calm_answer due row old new store store' e h calm is = λ k on c told.
    let kept = h.kept calm c told in
    record {
      text = [];
      after = c;
      told = ap content_of kept.1.told ∙ told;
      written = h.written ∙ put-nothing old.written;
      is = is k c told (replies old new k c (Refused e) (same_state old.state new.state store store' h.phase h.state kept.0));
    }

-- mode and stamp after a change, by the contents
marks_stay : (f : ℕ) (u v : View) (c d : Content) → HasFile u f → SameMarks f u v → content_of u.told ≡ Some c → content_of v.told ≡ Some d → MarksStay f c d
marks_stay f u v c d has marks told told' =
    let x = has c told in
    let m = marks c x.0 told x.1 in
    (x.0, x.1, (m.2.0, subst (λ (k : Content). k.files f ≡ Some m.2.0) (one_content v.told m.0 d m.1 told') m.2.1, m.2.2, m.2.3))

-- the refusal that is due
due_answer : (due : List ℕ → Option DbError) (map : PairMap → PairMap) (old new : Scene) (store store' : Opened) (e : DbError) → IsRefused due old new store store' e → e ≢ VaultFault
    → store.broken ≡ false → store.access ≡ Writer → OnFile old.view store.file (λ file. due file ≡ Some e)
    → Answers (Needs (ToWrite (Changes due map))) old new (Refused e)
due_answer due map old new store store' e h calm whole_is writer is =
    calm_answer due (Needs (ToWrite (Changes due map))) old new store store' e h calm (λ k c told refuses.
    let x = h.has c told in
    let a = quiet old new k c (Refused e) in
    let row : DbRow = Changes due map in
    needs_open (ToWrite row) a (db_of store) h.phase (whole (ToWrite row) a (db_of store) whole_is (writes row a (db_of store) writer
    (inl (record { file = x.0; there = x.1; is = due_some (due x.0.bytes) (Writes (map (pair_map (records x.0.bytes))) store.file x.0) a e (is c x.0 told x.1) refuses })))))

changes_error : (due : List ℕ → Option DbError) (map : PairMap → PairMap) (old new : Scene) (store store' : Opened) (e : DbError) → IsRefused due old new store store' e
    → store'.broken ≡ is_fault_of e → store.broken ≡ false → store.access ≡ Writer
    → verify.Refuses e (Rose old.view.faults new.view.faults) (OnFile old.view store.file (λ file. due file ≡ Some e))
    → Answers (Needs (ToWrite (Changes due map))) old new (Refused e)
changes_error due map old new store store' VaultFault h breaks calm writer cause = λ k on c told.
    let r = reads_in (OneFile store.file) NoName old.view.told new.view.told c h.frame.told told in
    in_place (Changes due map) old new store (Refused VaultFault) r.0 k c h.phase calm writer h.written r.1
    (inr (inl (record { reply = refl; rose = cause; text = refl; session = state_broken old.state new.state store store' h.state breaks h.keeps; marks = marks_stay store.file old.view new.view c r.0 h.has h.marks told r.1; others = r.2 })))
changes_error due map old new store store' OutOfMemory h breaks calm writer cause =
    calm_answer due (Needs (ToWrite (Changes due map))) old new store store' OutOfMemory h (λ e. cc) (λ k c told refuses.
    let a = quiet old new k c (Refused OutOfMemory) in
    let row : DbRow = Changes due map in
    needs_open (ToWrite row) a (db_of store) h.phase (whole (ToWrite row) a (db_of store) calm (writes row a (db_of store) writer (inr (inr refuses)))))
changes_error due map old new store store' e h breaks calm writer cause = due_answer due map old new store store' e h (λ s. cc) calm writer cause

-- a change was refused, whatever the database is
pub changes_refused : (due : List ℕ → Option DbError) (map : PairMap → PairMap) (old new : Scene) (store store' : Opened) (e : DbError) (r : Result (Unit {0}) DbError)
    → r ≡ Err e → IsRefused due old new store store' e
    → (store.broken ≡ true → r ≡ Err NeedRecovery)
    → (store.broken ≡ false → store.access ≡ Reader → r ≡ Err ReaderCant)
    → (store.broken ≡ false → store'.broken ≡ is_fault_of e)
    → (store.broken ≡ false → store.access ≡ Writer → verify.Refuses e (Rose old.view.faults new.view.faults) (OnFile old.view store.file (λ file. due file ≡ Some e)))
    → Answers (Needs (ToWrite (Changes due map))) old new (Refused e)
changes_refused due map old new store store' e r is h bad reader breaks why =
    let row : DbRow = ToWrite (Changes due map) in
    ⊎_elim
    (λ (b : store.broken ≡ true).
    let same : NeedRecovery ≡ e = err_same r (bad b) is in
    calm_answer due (Needs row) old new store store' e h (λ s. let no : NeedRecovery ≡ VaultFault = same ∙ s in cc) (λ k c told refuses.
    let a = quiet old new k c (Refused e) in
    needs_open row a (db_of store) h.phase (broken row a (db_of store) b (subst (λ (x : DbError). Refuses x a) (sym same) refuses))))
    (λ (b : store.broken ≡ false). ⊎_elim
    (λ (k0 : store.access ≡ Reader).
    let same : ReaderCant ≡ e = err_same r (reader b k0) is in
    calm_answer due (Needs row) old new store store' e h (λ s. let no : ReaderCant ≡ VaultFault = same ∙ s in cc) (λ k c told refuses.
    let a = quiet old new k c (Refused e) in
    needs_open row a (db_of store) h.phase (whole row a (db_of store) b (reads_only (Changes due map) a (db_of store) k0 (subst (λ (x : DbError). Refuses x a) (sym same) refuses)))))
    (λ (k0 : store.access ≡ Writer). changes_error due map old new store store' e h (breaks b) b k0 (why b k0))
    (access_cases store.access))
    (bool_cases store.broken)

-- a change was made
pub changes_answered : (due : List ℕ → Option DbError) (map : PairMap → PairMap) (more : List ℕ → ℕ) (old new : Scene) (store store' : Opened) (r : Result (Unit {0}) DbError) (x : Unit {0})
    → r ≡ Ok x
    → old.state.phase ≡ Open (db_of store) → new.state ≡ at_phase old.state (Open (db_of store')) → new.written ≡ old.written
    → HasFile old.view store.file → Fits old.view store → Keeps store store'
    → (store.broken ≡ true → r ≡ Err NeedRecovery)
    → (store.broken ≡ false → store.access ≡ Reader → r ≡ Err ReaderCant)
    → (store.broken ≡ false → store'.broken ≡ is_fault r)
    → (store.broken ≡ false → OnFile old.view store.file (λ file. due file ≡ None))
    → Becomes old.view new.view store.file store' (λ file. map (pair_map (records file))) more
    → SameMarks store.file old.view new.view → Within (OneFile store.file) NoName old.view new.view
    → Answers (Needs (ToWrite (Changes due map))) old new Done
changes_answered due map more old new store store' r x is phase state written has fits keeps bad reader breaks none becomes marks frame =
    ⊎_elim
    (λ (b : store.broken ≡ true). absurd (let both : Ok x ≡ Err NeedRecovery = sym is ∙ bad b in cc))
    (λ (b : store.broken ≡ false). ⊎_elim
    (λ (k0 : store.access ≡ Reader). absurd (let both : Ok x ≡ Err ReaderCant = sym is ∙ reader b k0 in cc))
    (λ (k0 : store.access ≡ Writer). changes_ok due map more old new store store' phase state b k0 (breaks b ∙ ap is_fault is) keeps has (fits b) (none b) becomes marks frame written)
    (access_cases store.access))
    (bool_cases store.broken)

pub refuses_map : (F A B : Type 0) (e : DbError) → (A → B) → verify.Refuses e F A → verify.Refuses e F B
refuses_map F A B VaultFault f h = h
refuses_map F A B OutOfMemory f h = h
refuses_map F A B e f h = f h

-- ---- the condition of the next call

pub open_changed : (u v : View) (name : List ℕ) (s s' : Opened) → IsOpen u name s → Keeps s s' → Fits v s' → HasFile v s'.file → Within (OneFile s.file) NoName u v
    → (s.broken ≡ true → IsAt u (λ _. s' ≡ s)) → IsOpen v name s'
open_changed u v name s s' o keeps fits has frame stays = record {
  there = has;
  fits = fits;
  named = λ calm d told.
      let c = frame_told (OneFile s.file) NoName u.told v.told d frame.told told in
      let r = reads_in (OneFile s.file) NoName u.told v.told c.0 frame.told c.1 in
      let same : r.0 ≡ d = one_content v.told r.0 d r.1 told in
      let names : d.names name ≡ c.0.names name = subst (λ (k : Content). k.names name ≡ c.0.names name) same (r.2.names name (λ h. h)) in
      ⊎_elim
      (λ (b : s.broken ≡ true). absurd (let t : true ≡ false = sym b ∙ (ap (λ (k : Opened). k.broken) (sym (stays b c.0 c.1)) ∙ calm) in cc))
      (λ (b : s.broken ≡ false). names ∙ (o.named b c.0 c.1 ∙ ap Some (sym keeps.file)))
      (bool_cases s.broken);
}

pub ready_open : (v : View) (h : Held) (store' : Opened) → IsOpen v h.settings.file store' → IsReady v (record h { phase = phases.Open store' })
ready_open v h store' o = o

pub frame_open : (u v : View) (p : real.Phase) (store : Opened) → p ≡ phases.Open store → Within (OneFile store.file) NoName u v → Within (OpenFile p) NoName u v
frame_open u v p store is frame = subst (λ (q : real.Phase). Within (OpenFile q) NoName u v) (sym is) frame

-- ---- by what a store tells

pub broken_is : {T : Type 0} (old new : Bool) (r : Result T DbError) → new ≡ (old || is_fault r) → old ≡ false → new ≡ is_fault r
broken_is old new r is calm = is ∙ ap (λ (b : Bool). b || is_fault r) calm

pub kept_same : (e : DbError) (u v : View) (s s' : Opened) → (e ≢ VaultFault → IsAt u (λ _. SameButCached s s' × OnlyAsks u v)) → e ≢ VaultFault → IsAt u (λ _. (s' ≡ s) × OnlyAsks u v)
kept_same e u v s s' h = λ calm c told. let k = h calm c told in (same_store s s' k.0, k.1)

pub kept_all : (e : DbError) (u v : View) (s s' : Opened) → (e ≢ VaultFault → SameButCached s s' × OnlyAsks u v) → e ≢ VaultFault → IsAt u (λ _. (s' ≡ s) × OnlyAsks u v)
kept_all e u v s s' h = λ calm c told. let k = h calm in (same_store s s' k.0, k.1)

pub not_fault_ok : {T : Type 0} (r : Result T DbError) (x : T) → r ≡ Ok x → is_fault r ≡ false
not_fault_ok r x is = ap is_fault is

fault_of : (e : DbError) → (e ≡ VaultFault → ⊥) → is_fault_of e ≡ false
fault_of VaultFault other = absurd (other refl)
fault_of e other = refl

pub not_fault_err : {T : Type 0} (r : Result T DbError) (e : DbError) (reply : Reply) → r ≡ Err e → reply ≡ Refused e → reply ≢ Refused VaultFault → is_fault r ≡ false
not_fault_err r e reply is says other = ap is_fault is ∙ fault_of e (λ same. other (says ∙ ap Refused same))

broken_stays : (b b' f : Bool) → b' ≡ (b || f) → f ≡ false → b' ≡ b
broken_stays true b' f is none = is
broken_stays false b' f is none = is ∙ none

-- what is seen stays where the answer is no fault
pub state_stays : {T : Type 0} (s t : State) (store store' : Opened) (r : Result T DbError) → s.phase ≡ Open (db_of store) → t ≡ at_phase s (Open (db_of store')) → Keeps store store' → store'.broken ≡ (store.broken || is_fault r) → is_fault r ≡ false → t ≡ s
state_stays s t store store' r phase is keeps breaks none =
    let same = broken_stays store.broken store'.broken (is_fault r) breaks none in
    is ∙ ap (λ (db : Db). at_phase s (Open db)) (db_keeps store store' store.broken keeps same) ∙ ap (λ (p : Phase). at_phase s p) (sym phase)
