-- A list of stores, one after another.
use Rattle.std.proofs.Common.{◌≡◌, ◌≢◌, ◌⊎◌, inl, inr, ⊎_elim, ℕ, zero, suc, ◌+◌, ◌-◌, ◌/◌, ◌%◌, ◌^◌, ◌<◌, ◌≤◌, nat_lt, replicate, codes, take, Bool, true, false, List, [], ◌∷◌, ◌++◌, length, Option, Some, None, is_some, if◌then◌else◌, Result, Ok, Err, refl, sym, ap, subst, ◌∙◌, arith}
use Rattle.std.specs.FinMap.{get, insert}
use Rattle.std.specs.Fmt.{decimal}
use Rattle.gd_base.specs.declared.errors.DbError.{DbError}
use Rattle.gd_base.specs.declared.errors.DbError.TheVariants.{CannotReplace, DirOverflow, FileFull, NeedRecovery, NotOpen, OutOfMemory, ReaderCant, TooLarge, VaultFault}
use Rattle.gd_format.specs.File.{records}
use Rattle.gd_format.specs.First.{or_else}
use Rattle.gd_file_laws.specs.Parts.{file_header}
use Rattle.gd_map_laws.specs.Maps.{PairMap, pair_map}
use Rattle.gd_store.specs.Opened.{Opened}
use Rattle.gd_store.specs.Replies.{far_due, is_too_far, key_due, overflows, value_of}
use Rattle.gd_store.specs.declared.access.Access.{Access}
use Rattle.gd_store.specs.declared.access.Access.TheVariants.{Reader, Writer}
use Rattle.gd_store.specs.declared.access.How.{How}
use Rattle.gd_store.specs.declared.access.How.TheVariants.{Insert, Replace}
use Rattle.gd_vault.specs.Content.{Content, File}
use Rattle.gd_vault.specs.Views.{HasFile, View, content_of}
use Rattle.gd_session.specs.Answers.{Answer, Faults, NeverFall, Refuses}
use Rattle.gd_session.specs.Calls.{Answered, Answers, Clocked, IsPhaseReady, IsReady, Scene, answer_in, is_fresh, scene}
use Rattle.gd_session.specs.Due.{Causes, Kind, access_due, broken_due, counting, moving, phase_due, write_due}
use Rattle.gd_session.specs.Filling.{Added, Adds, FillCause, Filled, FilledFrom, OpenWith, Replaced, SoFar, faults_at, reply_to}
use Rattle.gd_session.specs.Rows.{Breaks, Changes, DbRow, FillEnds, Fills, ForAccess, InPhase, Live, Maps, Needs, OrBroken, OrDue, Row, Steps, StoreStep, Stores, ToWrite, Whole, Writes, part_of, stores_due}
use Rattle.gd_session.specs.State.{Db, Held, Phase, State, Text, db_of, phase_of, seen}
use Rattle.gd_session.specs.State.Phase.{Fresh, Open, Shut}
use Rattle.gd_session.specs.Texts.{Pair, counts_of, counts_text, fill_pair, fill_pairs, fill_text, next_x, none_counted, tally}
use Rattle.gd_session.specs.declared.counts.Counts.{Counts}
use Rattle.gd_session.specs.declared.phase.Phase as real
use Rattle.gd_session.specs.declared.phase.Phase.TheVariants as phases
use Rattle.gd_session.specs.declared.reply.Reply.{Reply}
use Rattle.gd_session.specs.declared.reply.Reply.TheVariants.{Done, Refused, SinkFault}
use Rattle.gd_base.specs.Causes.{Rose}
use Rattle.gd_base.specs.Streams.{WritesFront, and_then}
use Rattle.gd_base.proofs.Writes.{put-nothing}
use Rattle.gd_session.specs.Said.{Said}
use Rattle.gd_session.proofs.Asked.{bool_cases, broken_answer, needs_open, nothing_asked, quiet, quiet_answer, replies, shut_answer, whole}
use Rattle.gd_session.proofs.Caused.{caused_before, caused_due, caused_wider, is_early, moving_counting, said_caused, with_due}
use Rattle.gd_session.proofs.Changed.{access_cases, reads_only, writes}
use Rattle.gd_session.proofs.Commands.{insert_due}
use Rattle.gd_session.proofs.Saying.{rose_later}

-- ---- a database that takes changes

pub record CalmDb (p : Phase) : Type 0 where
  pub db : Db
  pub phase : p ≡ Open db
  pub whole : db.broken ≡ false
  pub writer : db.access ≡ Writer

calm_access : (a : Access) → access_due a ≡ None → a ≡ Writer
calm_access Reader is = absurd (let no_ : Some _ ≡ None = is in cc)
calm_access Writer is = refl

calm_parts : (b : Bool) (a : Access) → broken_due b (access_due a) ≡ None → (b ≡ false) × (a ≡ Writer)
calm_parts true a is = absurd (let no_ : Some _ ≡ None = is in cc)
calm_parts false a is = (refl, calm_access a is)

pub calm_db : (p : real.Phase) → is_fresh p ≡ false → phase_due write_due (phase_of p) ≡ None → CalmDb (phase_of p)
calm_db phases.Fresh opened is = absurd (let no_ : true ≡ false = opened in cc)
calm_db (phases.Open store) opened is = let c = calm_parts store.broken store.access is in record { db = db_of store; phase = refl; whole = c.0; writer = c.1 }
calm_db phases.Shut opened is = absurd (let no_ : Some _ ≡ None = is in cc)

row_at : (row : DbRow) (a : Answer) (c : CalmDb a.old.phase) → Needs (ToWrite row) a → row c.db a
row_at row a c x =
    let open_ : Whole (ToWrite row) c.db a = subst (λ (p : Phase). InPhase p (Whole (ToWrite row)) a) c.phase x in
    let whole : ToWrite row c.db a = subst (λ (b : Bool). OrBroken b (ToWrite row c.db) a) c.whole open_ in
    subst (λ (k : Access). ForAccess k (row c.db) a) c.writer whole

-- ---- the refusals of insertions and stores

absent_by : (big : Bool) (old : Option Text) (crowded : Bool) (far : Option DbError) → (if big then Some TooLarge else or_else (key_due Insert old crowded) far) ≡ None → is_some old ≡ false
absent_by true old crowded far is = absurd (let no_ : Some TooLarge ≡ None = is in cc)
absent_by false (Some x) crowded far is = absurd (let no_ : Some CannotReplace ≡ None = is in cc)
absent_by false None crowded far is = refl

pub absent_of : (key content file : Text) → stores_due Insert key content file ≡ None → is_some (value_of (records file) key) ≡ false
absent_of key content file is =
    absent_by (nat_lt (2 ^ 30) (length key + length content)) (value_of (records file) key) (overflows (records file) (file_header file).elems key) (far_due (file_header file).next_block (length key + length content)) is

far_by : (b : Bool) → (if b then Some FileFull else None) ≡ Some CannotReplace → ⊥
far_by true is = let both : FileFull ≡ CannotReplace = (let x : Some FileFull ≡ Some CannotReplace = is in cc) in cc
far_by false is = let no_ : None ≡ Some CannotReplace = is in cc

crowded_by : (b : Bool) (far : Option DbError) → (far ≡ Some CannotReplace → ⊥) → or_else (if b then Some DirOverflow else None) far ≡ Some CannotReplace → ⊥
crowded_by true far other is = let both : DirOverflow ≡ CannotReplace = (let x : Some DirOverflow ≡ Some CannotReplace = is in cc) in cc
crowded_by false far other is = other is

present_by : (big : Bool) (old : Option Text) (crowded : Bool) (far : Option DbError) → (far ≡ Some CannotReplace → ⊥) → (if big then Some TooLarge else or_else (key_due Insert old crowded) far) ≡ Some CannotReplace → is_some old ≡ true
present_by true old crowded far other is = absurd (let both : TooLarge ≡ CannotReplace = (let x : Some TooLarge ≡ Some CannotReplace = is in cc) in cc)
present_by false (Some x) crowded far other is = refl
present_by false None crowded far other is = absurd (crowded_by crowded far other is)

pub present_of : (key content file : Text) → stores_due Insert key content file ≡ Some CannotReplace → is_some (value_of (records file) key) ≡ true
present_of key content file is =
    present_by (nat_lt (2 ^ 30) (length key + length content)) (value_of (records file) key) (overflows (records file) (file_header file).elems key) (far_due (file_header file).next_block (length key + length content))
    (far_by (is_too_far (file_header file).next_block (length key + length content))) is

-- ---- sessions

abbrev pub StoreAnswers : How → Pair → Held → Held → View → View → Reply → Type 0
StoreAnswers how p h g u v r = (out : Option Text) (failed : ℕ) → Answers (Needs (ToWrite (Stores how p.0 p.1))) (scene h u out failed) (scene g v out failed) r

same_db : (a b : Db) → Open a ≡ Open b → a ≡ b
same_db a b is = cc

phase_has : (v : View) (name : Text) (p : real.Phase) (db : Db) → IsPhaseReady v name p → phase_of p ≡ Open db → HasFile v db.file
phase_has v name phases.Fresh db ready is = absurd (let no_ : Fresh ≡ Open db = is in cc)
phase_has v name (phases.Open store) db ready is = subst (λ (d : Db). HasFile v d.file) (same_db (db_of store) db is) ready.there
phase_has v name phases.Shut db ready is = absurd (let no_ : Shut ≡ Open db = is in cc)

pub calm_has : (v : View) (h : Held) (calm : CalmDb (seen h).phase) → IsReady v h → HasFile v calm.db.file
calm_has v h calm ready = phase_has v h.settings.file h.phase calm.db ready calm.phase

pub calm_stays : (h g : Held) → seen g ≡ seen h → phase_due write_due (seen h).phase ≡ None → phase_due write_due (seen g).phase ≡ None
calm_stays h g same calm = ap (λ (s : State). phase_due write_due s.phase) same ∙ calm

pub calm_caused : (h g : Held) (u v : View) (reply : Reply) → phase_due write_due (seen h).phase ≡ None → ((out : Option Text) (failed : ℕ) → Causes (phase_due write_due (seen h).phase) moving (scene h u out failed) (scene g v out failed) reply) → FillCause h g u v reply
calm_caused h g u v reply calm cause = λ out failed. with_due (phase_due write_due (seen h).phase) None moving (scene h u out failed) (scene g v out failed) reply (sym calm) (cause out failed)

pub later_caused : (h m g : Held) (u w v : View) (reply : Reply) → u.faults ≤ w.faults → FillCause m g w v reply → FillCause h g u v reply
later_caused h m g u w v reply later cause = λ out failed.
    caused_before None moving (scene h u out failed) (scene m w out failed) (scene g v out failed) reply later (omega arith) (λ is. let no_ : None ≡ Some (Refused NotOpen) = is in cc) (cause out failed)

other_reply : (e : DbError) → Refused CannotReplace ≡ Refused VaultFault → ⊥
other_reply e is = let same : CannotReplace ≡ VaultFault = cc in cc

pub there_calm : (reply : Reply) → reply ≡ Refused CannotReplace → reply ≢ Refused VaultFault
there_calm reply is = λ bad. other_reply CannotReplace (sym is ∙ bad)

pub done_calm : (reply : Reply) → reply ≡ Done → reply ≢ Refused VaultFault
done_calm reply is = λ bad. let no_ : Done ≡ Refused VaultFault = sym is ∙ bad in cc

pub answers_as : (how : How) (p : Pair) (h g : Held) (u v : View) (r r' : Reply) → r ≡ r' → StoreAnswers how p h g u v r → StoreAnswers how p h g u v r'
answers_as how p h g u v r r' is a = subst (λ (x : Reply). StoreAnswers how p h g u v x) is a

-- ---- one store

-- what a change did, where it was answered Done
pub record DidWrite (due : Text → Option DbError) (map : PairMap → PairMap) (db : Db) (a : Answer) : Type 0 where
  pub file : File
  pub there : a.before.files db.file ≡ Some file
  pub none : due file.bytes ≡ None
  pub writes : Writes (map (pair_map (records file.bytes))) db.file file a

due_done : (o : Option DbError) (row : Row) (a : Answer) → a.reply ≡ Done → OrDue o row a → (o ≡ None) × row a
due_done None row a is x = (refl, x)
due_done (Some e) row a is x = absurd (let no_ : Refused e ≡ Done = sym x.reply ∙ is in cc)

pub did_write : (due : Text → Option DbError) (map : PairMap → PairMap) (db : Db) (a : Answer) → a.reply ≡ Done → Changes due map db a → DidWrite due map db a
did_write due map db a is (inl x) =
    let d = due_done (due x.file.bytes) (Writes (map (pair_map (records x.file.bytes))) db.file x.file) a is x.is in
    record { file = x.file; there = x.there; none = d.0; writes = d.1 }
did_write due map db a is (inr (inl x)) = absurd (let no_ : Refused VaultFault ≡ Done = sym x.reply ∙ is in cc)
did_write due map db a is (inr (inr x)) = absurd (let no_ : Refused OutOfMemory ≡ Done = sym x.reply ∙ is in cc)

written : (due : Text → Option DbError) (map : PairMap → PairMap) (db : Db) (a : Answer) (x : File) → a.before.files db.file ≡ Some x → due x.bytes ≡ None → Writes (map (pair_map (records x.bytes))) db.file x a → Changes due map db a
written due map db a x there none w = inl (record { file = x; there = there; is = subst (λ (o : Option DbError). OrDue o (Writes (map (pair_map (records x.bytes))) db.file x) a) (sym none) w })

-- an insertion that was answered Done is a store of a new pair
inserted_row : (key content : Text) (db : Db) (a : Answer) → a.reply ≡ Done → Stores Insert key content db a → StoreStep (key, content) db a
inserted_row key content db a is x =
    let d = did_write (stores_due Insert key content) (λ m. insert m key content) db a is x in
    written (stores_due Replace key content) (λ m. insert m key content) db a d.file d.there
    (⊎_elim
    (λ (h : stores_due Insert key content d.file.bytes ≡ Some CannotReplace). absurd (let no_ : None ≡ Some CannotReplace = sym d.none ∙ h in cc))
    (λ (h : stores_due Insert key content d.file.bytes ≡ stores_due Replace key content d.file.bytes). sym h ∙ d.none)
    (insert_due key content d.file.bytes))
    d.writes

due_other : (o o' : Option DbError) (row : Row) (a : Answer) → a.reply ≢ Done → a.reply ≢ Refused CannotReplace → (o ≡ Some CannotReplace) ⊎ (o ≡ o') → OrDue o row a → ((e : DbError) → a.reply ≢ Done → row a → ⊥) → OrDue o' row a
due_other None o' row a done_ other (inl is) x never = absurd (let no_ : None ≡ Some CannotReplace = is in cc)
due_other (Some e) o' row a done_ other (inl is) x never = absurd (other (x.reply ∙ ap Refused (let both : Some e ≡ Some CannotReplace = is in let same : e ≡ CannotReplace = cc in same)))
due_other o o' row a done_ other (inr is) x never = subst (λ (d : Option DbError). OrDue d row a) is x

-- another refusal of an insertion is that of a store
refused_row : (key content : Text) (db : Db) (a : Answer) → a.reply ≢ Done → a.reply ≢ Refused CannotReplace → Stores Insert key content db a → StoreStep (key, content) db a
refused_row key content db a done_ other (inl x) =
    inl (record {
      file = x.file;
      there = x.there;
      is = due_other (stores_due Insert key content x.file.bytes) (stores_due Replace key content x.file.bytes) (Writes (insert (pair_map (records x.file.bytes)) key content) db.file x.file) a done_ other (insert_due key content x.file.bytes) x.is (λ e d w. d w.reply);
    })
refused_row key content db a done_ other (inr x) = inr x

-- an insertion of a key that is there changes nothing
pub record IsThere (key content : Text) (db : Db) (a : Answer) : Type 0 where
  pub file : File
  pub there : a.before.files db.file ≡ Some file
  pub due : stores_due Insert key content file.bytes ≡ Some CannotReplace
  pub session : a.new ≡ a.old
  pub content_is : a.after ≡ a.before

due_there : (o : Option DbError) (row : Row) (a : Answer) → a.reply ≡ Refused CannotReplace → (row a → a.reply ≡ Done) → OrDue o row a → (o ≡ Some CannotReplace) × (a.new ≡ a.old) × (a.after ≡ a.before)
due_there None row a is done_ x = absurd (let no_ : Done ≡ Refused CannotReplace = sym (done_ x) ∙ is in cc)
due_there (Some e) row a is done_ x = (ap Some (let both : Refused e ≡ Refused CannotReplace = sym x.reply ∙ is in cc), x.stays.session, x.stays.content)

is_there : (key content : Text) (db : Db) (a : Answer) → a.reply ≡ Refused CannotReplace → Stores Insert key content db a → IsThere key content db a
is_there key content db a is (inl x) =
    let d = due_there (stores_due Insert key content x.file.bytes) (Writes (insert (pair_map (records x.file.bytes)) key content) db.file x.file) a is (λ w. w.reply) x.is in
    record { file = x.file; there = x.there; due = d.0; session = d.1; content_is = d.2 }
is_there key content db a is (inr (inl x)) = absurd (let both : VaultFault ≡ CannotReplace = (let h : Refused VaultFault ≡ Refused CannotReplace = sym x.reply ∙ is in cc) in cc)
is_there key content db a is (inr (inr x)) = absurd (let both : OutOfMemory ≡ CannotReplace = (let h : Refused OutOfMemory ≡ Refused CannotReplace = sym x.reply ∙ is in cc) in cc)

-- counts may start earlier
due_earlier : (o : Option DbError) (m : PairMap) (f : ℕ) (x : File) (a : Answer) (k : Faults) → OrDue o (Writes m f x) a → OrDue o (Writes m f x) (record a { counted = k })
due_earlier None m f x a k w = record { reply = w.reply; text = w.text; session = w.session; maps = w.maps }
due_earlier (Some e) m f x a k r = record { reply = r.reply; stays = record { session = r.stays.session; content = r.stays.content; text = r.stays.text } }

step_earlier : (p : Pair) (db : Db) (a : Answer) (k : Faults) → k.vault ≤ a.counted.vault → StoreStep p db a → StoreStep p db (record a { counted = k })
step_earlier p db a k le (inl x) = inl (record { file = x.file; there = x.there; is = due_earlier (stores_due Replace p.0 p.1 x.file.bytes) (insert (pair_map (records x.file.bytes)) p.0 p.1) db.file x.file a k x.is })
step_earlier p db a k le (inr (inl x)) = inr (inl (record { reply = x.reply; rose = rose_later k.vault a.counted.vault a.counts.vault le x.rose; text = x.text; session = x.session; marks = x.marks; others = x.others }))
step_earlier p db a k le (inr (inr r)) = inr (inr (record { reply = r.reply; stays = record { session = r.stays.session; content = r.stays.content; text = r.stays.text } }))

-- ---- calls

-- the answer as a part of a list
pub record PartRow (how : How) (p : Pair) (h g : Held) (u v : View) (clock out : ℕ) (c : Content) (r : Reply) (db : Db) : Type 0 where
  pub after : Content
  pub told : content_of v.told ≡ Some after
  pub row : Stores how p.0 p.1 db (part_of (seen h) (faults_at u clock out) c r (seen g) (faults_at v clock out) after)

pub part_row : (how : How) (p : Pair) (h g : Held) (u v : View) (clock out : ℕ) (c : Content) (r : Reply) (calm : CalmDb (seen h).phase) → StoreAnswers how p h g u v r → content_of u.told ≡ Some c → PartRow how p h g u v clock out c r calm.db
part_row how p h g u v clock out c r calm answers told =
    let a = answers (Some []) out (record { reading = None; counted = clock; counts = clock }) (omega arith) c told in
    let none : a.text ≡ [] = let e : Some [] ≡ Some a.text = a.written in cc in
    record {
      after = a.after;
      told = a.told;
      row = row_at (Stores how p.0 p.1) (part_of (seen h) (faults_at u clock out) c r (seen g) (faults_at v clock out) a.after) calm
          (subst (λ (t : Text). Needs (ToWrite (Stores how p.0 p.1)) (record (part_of (seen h) (faults_at u clock out) c r (seen g) (faults_at v clock out) a.after) { text = t })) none a.is);
    }

-- ---- a pair is added

pub adds_new : (p : Pair) (h g : Held) (u v : View) → CalmDb (seen h).phase → StoreAnswers Insert p h g u v Done → Adds p h g u v (Ok false)
adds_new p h g u v calm answers = λ clock out c told.
    let r = part_row Insert p h g u v clock out c Done calm answers told in
    let a = part_of (seen h) (faults_at u clock out) c Done (seen g) (faults_at v clock out) r.after in
    let d = did_write (stores_due Insert p.0 p.1) (λ m. insert m p.0 p.1) calm.db a refl r.row in
    record {
      after = r.after;
      told = r.told;
      db = calm.db;
      file = d.file;
      opened = record { phase = calm.phase; there = d.there };
      step = inserted_row p.0 p.1 calm.db a refl r.row;
      replaced = sym (absent_of p.0 p.1 d.file.bytes d.none);
    }

pub adds_none : (p : Pair) (h g : Held) (u v : View) (reply : Reply) (calm : CalmDb (seen h).phase) → HasFile u calm.db.file → reply ≢ Done → reply ≢ Refused CannotReplace → StoreAnswers Insert p h g u v reply → Adds p h g u v (Err reply)
adds_none p h g u v reply calm has done_ other answers = λ clock out c told.
    let r = part_row Insert p h g u v clock out c reply calm answers told in
    let x = has c told in
    record {
      after = r.after;
      told = r.told;
      db = calm.db;
      file = x.0;
      opened = record { phase = calm.phase; there = x.1 };
      step = refused_row p.0 p.1 calm.db (part_of (seen h) (faults_at u clock out) c reply (seen g) (faults_at v clock out) r.after) done_ other r.row;
      replaced = done_;
    }

-- an insertion of a key that is there, and then a store
pub record TwoRows (p : Pair) (h g : Held) (u v : View) (clock out : ℕ) (c : Content) (reply : Reply) (db : Db) : Type 0 where
  pub after : Content
  pub told : content_of v.told ≡ Some after
  pub file : File
  pub there : c.files db.file ≡ Some file
  pub due : stores_due Insert p.0 p.1 file.bytes ≡ Some CannotReplace
  pub step : StoreStep p db (part_of (seen h) (faults_at u clock out) c reply (seen g) (faults_at v clock out) after)

two_rows : (p : Pair) (h m g : Held) (u w v : View) (reply : Reply) (calm : CalmDb (seen h).phase) → u.faults ≤ w.faults → StoreAnswers Insert p h m u w (Refused CannotReplace) → StoreAnswers Replace p m g w v reply
    → (clock out : ℕ) (c : Content) → content_of u.told ≡ Some c → TwoRows p h g u v clock out c reply calm.db
two_rows p h m g u w v reply calm later first second clock out c told =
    let r = part_row Insert p h m u w clock out c (Refused CannotReplace) calm first told in
    let t = is_there p.0 p.1 calm.db (part_of (seen h) (faults_at u clock out) c (Refused CannotReplace) (seen m) (faults_at w clock out) r.after) refl r.row in
    let calm' : CalmDb (seen m).phase = record { db = calm.db; phase = ap (λ (s : State). s.phase) t.session ∙ calm.phase; whole = calm.whole; writer = calm.writer } in
    let q = part_row Replace p m g w v clock out c reply calm' second (r.told ∙ ap Some t.content_is) in
    record {
      after = q.after;
      told = q.told;
      file = t.file;
      there = t.there;
      due = t.due;
      step = step_earlier p calm.db (part_of (seen h) (faults_at w clock out) c reply (seen g) (faults_at v clock out) q.after) (faults_at u clock out) later
          (subst (λ (s : State). StoreStep p calm.db (part_of s (faults_at w clock out) c reply (seen g) (faults_at v clock out) q.after)) t.session q.row);
    }

pub adds_replaced : (p : Pair) (h m g : Held) (u w v : View) → CalmDb (seen h).phase → u.faults ≤ w.faults → StoreAnswers Insert p h m u w (Refused CannotReplace) → StoreAnswers Replace p m g w v Done → Adds p h g u v (Ok true)
adds_replaced p h m g u w v calm later first second = λ clock out c told.
    let r = two_rows p h m g u w v Done calm later first second clock out c told in
    record { after = r.after; told = r.told; db = calm.db; file = r.file; opened = record { phase = calm.phase; there = r.there }; step = r.step; replaced = sym (present_of p.0 p.1 r.file.bytes r.due) }

pub adds_not : (p : Pair) (h m g : Held) (u w v : View) (reply : Reply) → CalmDb (seen h).phase → u.faults ≤ w.faults → reply ≢ Done → StoreAnswers Insert p h m u w (Refused CannotReplace) → StoreAnswers Replace p m g w v reply → Adds p h g u v (Err reply)
adds_not p h m g u w v reply calm later done_ first second = λ clock out c told.
    let r = two_rows p h m g u w v reply calm later first second clock out c told in
    record { after = r.after; told = r.told; db = calm.db; file = r.file; opened = record { phase = calm.phase; there = r.there }; step = r.step; replaced = done_ }

pub store_at : (how : How) (a b : Text) (p : Pair) (h g : Held) (u v : View) (r : Reply) → a ≡ p.0 → b ≡ p.1 → StoreAnswers how (a, b) h g u v r → StoreAnswers how p h g u v r
store_at how a b p h g u v r first second s =
    subst (λ (x : Text). StoreAnswers how (p.0, x) h g u v r) second (subst (λ (x : Text). StoreAnswers how (x, b) h g u v r) first s)

-- ---- the loop

-- the same by a database and a file that are known
record AddedAt (p : Pair) (h g : Held) (u v : View) (clock out : ℕ) (c : Content) (r : Result Bool Reply) (db : Db) (x : File) : Type 0 where
  after : Content
  told : content_of v.told ≡ Some after
  step : StoreStep p db (part_of (seen h) (faults_at u clock out) c (reply_to r) (seen g) (faults_at v clock out) after)
  replaced : Replaced p x r

same_file : (c : Content) (f : ℕ) (x y : File) → c.files f ≡ Some x → c.files f ≡ Some y → x ≡ y
same_file c f x y a b = let both : Some x ≡ Some y = sym a ∙ b in cc

added_at : (p : Pair) (h g : Held) (u v : View) (clock out : ℕ) (c : Content) (r : Result Bool Reply) (db : Db) (x : File) → OpenWith h c db x → Added p h g u v clock out c r → AddedAt p h g u v clock out c r db x
added_at p h g u v clock out c r db x open_ a =
    let same : a.db ≡ db = (let both : Open a.db ≡ Open db = sym a.opened.phase ∙ open_.phase in cc) in
    let file : a.file ≡ x = same_file c db.file a.file x (subst (λ (d : Db). c.files d.file ≡ Some a.file) same a.opened.there) open_.there in
    record {
      after = a.after;
      told = a.told;
      step = subst (λ (d : Db). StoreStep p d (part_of (seen h) (faults_at u clock out) c (reply_to r) (seen g) (faults_at v clock out) a.after)) same a.step;
      replaced = subst (λ (y : File). Replaced p y r) file a.replaced;
    }

pub none_filled : (start n : ℕ) (h : Held) (u : View) (calm : CalmDb (seen h).phase) → HasFile u calm.db.file → (clock out : ℕ) (c : Content) → content_of u.told ≡ Some c → SoFar start n start n none_counted h h u u clock out c
none_filled start n h u calm has clock out c told =
    let x = has c told in
    record {
      mid = c;
      told = told;
      db = calm.db;
      file = x.0;
      now = x.0;
      opened = record { phase = calm.phase; there = x.1 };
      opened_now = record { phase = calm.phase; there = x.1 };
      on = λ r t j d s. s;
      counted = refl;
    }

-- the file after a store
record After (p : Pair) (db : Db) (a : Answer) (x : File) : Type 0 where
  file : File
  there : a.after.files db.file ≡ Some file
  session : a.new ≡ a.old
  map_is : pair_map (records file.bytes) ≡ insert (pair_map (records x.bytes)) p.0 p.1

after_step : (p : Pair) (db : Db) (a : Answer) (x : File) → a.reply ≡ Done → a.before.files db.file ≡ Some x → StoreStep p db a → After p db a x
after_step p db a x is there step =
    let d = did_write (stores_due Replace p.0 p.1) (λ m. insert m p.0 p.1) db a is step in
    let same = same_file a.before db.file d.file x d.there there in
    record {
      file = record d.file { bytes = d.writes.maps.bytes };
      there = d.writes.maps.there;
      session = d.writes.session;
      map_is = d.writes.maps.map_is ∙ ap (λ (y : File). insert (pair_map (records y.bytes)) p.0 p.1) same;
    }

pub one_filled : (start n x m : ℕ) (counts : Counts) (h g g' : Held) (u v w : View) (b : Bool) → v.faults ≤ w.faults → Adds (fill_pair (next_x x)) g g' v w (Ok b)
    → (clock out : ℕ) (c : Content) → SoFar start n x (suc m) counts h g u v clock out c
    → SoFar start n (next_x x) m (tally b (length (fill_pair (next_x x)).0 + length (fill_pair (next_x x)).1) counts) h g' u w clock out c
unfolding Steps fill_pairs counts_of
one_filled start n x m counts h g g' u v w b later adds clock out c s =
    let p = fill_pair (next_x x) in
    let a = added_at p g g' v w clock out s.mid (Ok b) s.db s.now s.opened_now (adds clock out s.mid s.told) in
    let e = after_step p s.db (part_of (seen g) (faults_at v clock out) s.mid Done (seen g') (faults_at w clock out) a.after) s.now refl s.opened_now.there a.step in
    record {
      mid = a.after;
      told = a.told;
      db = s.db;
      file = s.file;
      now = e.file;
      opened = s.opened;
      opened_now = record { phase = ap (λ (t : State). t.phase) e.session ∙ s.opened_now.phase; there = e.there };
      on = λ r t j d rest. s.on r t j d (inr (seen g', (faults_at w clock out, (a.after, record { step = a.step; later = record { vault = later; clock = omega arith; out = omega arith } }, rest))));
      counted =
          ap (λ (k : PairMap). counts_of k (fill_pairs (next_x x) m) (tally b (length p.0 + length p.1) counts)) e.map_is
          ∙ (ap (λ (y : Bool). counts_of (insert (pair_map (records s.now.bytes)) p.0 p.1) (fill_pairs (next_x x) m) (tally y (length p.0 + length p.1) counts)) a.replaced
          ∙ s.counted);
    }

pub stopped_filled : (start n x m : ℕ) (counts : Counts) (h g g' : Held) (u v w : View) (reply : Reply) → v.faults ≤ w.faults → Adds (fill_pair (next_x x)) g g' v w (Err reply)
    → (clock out : ℕ) (c : Content) → SoFar start n x (suc m) counts h g u v clock out c → Filled start n h g' u w clock out c (Err reply)
unfolding Steps fill_pairs
stopped_filled start n x m counts h g g' u v w reply later adds clock out c s =
    let p = fill_pair (next_x x) in
    let a = added_at p g g' v w clock out s.mid (Err reply) s.db s.now s.opened_now (adds clock out s.mid s.told) in
    record {
      after = a.after;
      told = a.told;
      db = s.db;
      file = s.file;
      opened = s.opened;
      steps = s.on reply (seen g') (faults_at w clock out) a.after (inl (a.replaced, a.step, record { vault = later; clock = omega arith; out = omega arith }));
      counted = a.replaced;
    }

pub all_filled : (start n x : ℕ) (counts : Counts) (h g : Held) (u v : View) (clock out : ℕ) (c : Content) → SoFar start n x 0 counts h g u v clock out c → Filled start n h g u v clock out c (Ok counts)
unfolding Steps fill_pairs counts_of
all_filled start n x counts h g u v clock out c s = record {
  after = s.mid;
  told = s.told;
  db = s.db;
  file = s.file;
  opened = s.opened;
  steps = s.on Done (seen g) (faults_at v clock out) s.mid (refl, refl, refl, record { vault = omega arith; clock = omega arith; out = omega arith });
  counted = s.counted;
}

-- ---- by what the loop keeps

pub fill_key : (x n : ℕ) (key : Text) → n ≡ next_x x → key ≡ codes "key" ++ decimal (n / 2 ^ 33 % 100000) → key ≡ (fill_pair (next_x x)).0
fill_key x n key number is = is ∙ ap (λ (y : ℕ). codes "key" ++ decimal (y / 2 ^ 33 % 100000)) number

pub fill_content : (x n : ℕ) (content : Text) → n ≡ next_x x → content ≡ decimal (n / 2 ^ 33) ++ replicate (n / 2 ^ 33 % 64) 46 → content ≡ (fill_pair (next_x x)).1
fill_content x n content number is = is ∙ ap (λ (y : ℕ). decimal (y / 2 ^ 33) ++ replicate (y / 2 ^ 33 % 64) 46) number

pub adds_at : (p : Pair) (key content : Text) (h g : Held) (u v : View) (r : Result Bool Reply) → key ≡ p.0 → content ≡ p.1 → Adds (key, content) h g u v r → Adds p h g u v r
adds_at p key content h g u v r key_is content_is a =
    subst (λ (t : Text). Adds (p.0, t) h g u v r) content_is (subst (λ (t : Text). Adds (t, content) h g u v r) key_is a)

left_one : (n i : ℕ) → i < n → n - i ≡ suc (n - (i + 1))
left_one n i lt = omega (arith, lt)

pub next_so_far : (start n x i y size : ℕ) (counts counts' : Counts) (h g g' : Held) (u v w : View) (b : Bool) → i < n → y ≡ next_x x → v.faults ≤ w.faults → Adds (fill_pair (next_x x)) g g' v w (Ok b)
    → size ≡ length (fill_pair (next_x x)).0 + length (fill_pair (next_x x)).1 → counts' ≡ tally b size counts
    → (clock out : ℕ) (c : Content) → SoFar start n x (n - i) counts h g u v clock out c → SoFar start n y (n - (i + 1)) counts' h g' u w clock out c
next_so_far start n x i y size counts counts' h g g' u v w b lt number later adds size_is counts_is clock out c s =
    let m = n - (i + 1) in
    let one = one_filled start n x m counts h g g' u v w b later adds clock out c (subst (λ (l : ℕ). SoFar start n x l counts h g u v clock out c) (left_one n i lt) s) in
    subst (λ (z : ℕ). SoFar start n z m counts' h g' u w clock out c) (sym number)
    (subst (λ (k : Counts). SoFar start n (next_x x) m k h g' u w clock out c) (ap (λ (z : ℕ). tally b z counts) (sym size_is) ∙ sym counts_is) one)

pub stopped_so_far : (start n x i : ℕ) (counts : Counts) (h g g' : Held) (u v w : View) (reply : Reply) → i < n → v.faults ≤ w.faults → Adds (fill_pair (next_x x)) g g' v w (Err reply)
    → (clock out : ℕ) (c : Content) → SoFar start n x (n - i) counts h g u v clock out c → Filled start n h g' u w clock out c (Err reply)
stopped_so_far start n x i counts h g g' u v w reply lt later adds clock out c s =
    stopped_filled start n x (n - (i + 1)) counts h g g' u v w reply later adds clock out c (subst (λ (l : ℕ). SoFar start n x l counts h g u v clock out c) (left_one n i lt) s)

none_left : (n i : ℕ) → n ≤ i → n - i ≡ 0
none_left n i le = omega (arith, le)

pub ended_so_far : (start n x i : ℕ) (counts : Counts) (h g : Held) (u v : View) → n ≤ i → (clock out : ℕ) (c : Content) → SoFar start n x (n - i) counts h g u v clock out c → Filled start n h g u v clock out c (Ok counts)
ended_so_far start n x i counts h g u v le clock out c s =
    all_filled start n x counts h g u v clock out c (subst (λ (l : ℕ). SoFar start n x l counts h g u v clock out c) (none_left n i le) s)

pub first_so_far : (start n : ℕ) (h : Held) (u : View) (calm : CalmDb (seen h).phase) → HasFile u calm.db.file → (clock out : ℕ) (c : Content) → content_of u.told ≡ Some c → SoFar start n start (n - 0) none_counted h h u u clock out c
first_so_far start n h u calm has clock out c told =
    subst (λ (l : ℕ). SoFar start n start l none_counted h h u u clock out c) (let e : n ≡ n - 0 = omega arith in e) (none_filled start n h u calm has clock out c told)

pub tally_bytes : (b : Bool) (size : ℕ) (n : Counts) → (tally b size n).bytes ≡ n.bytes + size
tally_bytes true size n = refl
tally_bytes false size n = refl

pub tally_few : (b : Bool) (size : ℕ) (n : Counts) → (tally b size n).added + (tally b size n).replaced ≡ n.added + n.replaced + 1
tally_few true size n = omega arith
tally_few false size n = omega arith

-- ---- the command

some_same : (a b : Reply) → Some a ≡ Some b → a ≡ b
some_same a b is = cc

-- the refusal that is due by what is known of the database
early_open : (row : DbRow) (h : Held) (u : View) (w : Option Text) (f : ℕ) (store : Opened) (r : Reply) → (seen h).phase ≡ Open (db_of store) → broken_due store.broken (access_due store.access) ≡ Some r → Answers (Needs (ToWrite row)) (scene h u w f) (scene h u w f) r
early_open row h u w f store r phase is =
    ⊎_elim
    (λ (b : store.broken ≡ true).
    let same : Refused NeedRecovery ≡ r = some_same (Refused NeedRecovery) r (sym (ap (λ (x : Bool). broken_due x (access_due store.access)) b) ∙ is) in
    subst (λ (x : Reply). Answers (Needs (ToWrite row)) (scene h u w f) (scene h u w f) x) same (broken_answer (ToWrite row) (scene h u w f) (scene h u w f) store phase b (nothing_asked u) refl refl))
    (λ (b : store.broken ≡ false). ⊎_elim
    (λ (a : store.access ≡ Reader).
    let same : Refused ReaderCant ≡ r = some_same (Refused ReaderCant) r (sym (ap (λ (x : Bool). broken_due x (access_due store.access)) b ∙ ap access_due a) ∙ is) in
    subst (λ (x : Reply). Answers (Needs (ToWrite row)) (scene h u w f) (scene h u w f) x) same
    (quiet_answer (Needs (ToWrite row)) (scene h u w f) (scene h u w f) (Refused ReaderCant) (nothing_asked u) refl (λ k c told.
    let q = quiet (scene h u w f) (scene h u w f) k c (Refused ReaderCant) in
    needs_open (ToWrite row) q (db_of store) phase (whole (ToWrite row) q (db_of store) b (reads_only row q (db_of store) a (replies (scene h u w f) (scene h u w f) k c (Refused ReaderCant) refl))))))
    (λ (a : store.access ≡ Writer). absurd (let no_ : None ≡ Some r = sym (ap (λ (x : Bool). broken_due x (access_due store.access)) b ∙ ap access_due a) ∙ is in cc))
    (access_cases store.access))
    (bool_cases store.broken)

early_by : (row : DbRow) (p : real.Phase) (h : Held) (u : View) (w : Option Text) (f : ℕ) (r : Reply) → h.phase ≡ p → is_fresh p ≡ false → phase_due write_due (phase_of p) ≡ Some r → Answers (Needs (ToWrite row)) (scene h u w f) (scene h u w f) r
early_by row phases.Fresh h u w f r is opened due = absurd (let no_ : true ≡ false = opened in cc)
early_by row (phases.Open store) h u w f r is opened due = early_open row h u w f store r (ap phase_of is) due
early_by row phases.Shut h u w f r is opened due =
    subst (λ (x : Reply). Answers (Needs (ToWrite row)) (scene h u w f) (scene h u w f) x) (some_same (Refused NotOpen) r due)
    (shut_answer (ToWrite row) (scene h u w f) (scene h u w f) (ap phase_of is) (nothing_asked u) refl refl)

pub early_answer : (row : DbRow) (h : Held) (u : View) (w : Option Text) (f : ℕ) (r : Reply) (o : Option Reply) → is_fresh h.phase ≡ false → o ≡ phase_due write_due (seen h).phase → o ≡ Some r → Answers (Needs (ToWrite row)) (scene h u w f) (scene h u w f) r
early_answer row h u w f r o opened is some = early_by row h.phase h u w f r refl opened (sym is ∙ some)

early_kind : (b : Bool) (a : Access) (r : Reply) → broken_due b (access_due a) ≡ Some r → (x : DbError) × (r ≡ Refused x) × (is_early x ≡ true)
early_kind true a r is = (NeedRecovery, sym (some_same (Refused NeedRecovery) r is), refl)
early_kind false Reader r is = (ReaderCant, sym (some_same (Refused ReaderCant) r is), refl)
early_kind false Writer r is = absurd (let no_ : None ≡ Some r = is in cc)

early_error : (p : Phase) (r : Reply) → phase_due write_due p ≡ Some r → (x : DbError) × (r ≡ Refused x) × (is_early x ≡ true)
early_error Fresh r is = absurd (let no_ : None ≡ Some r = is in cc)
early_error (Open db) r is = early_kind db.broken db.access r is
early_error Shut r is = (NotOpen, sym (some_same (Refused NotOpen) r is), refl)

pub early_caused : (k : Kind) (s : Scene) (r : Reply) (o : Option Reply) → k.quits ≡ false → o ≡ phase_due write_due s.state.phase → o ≡ Some r → Causes (phase_due write_due s.state.phase) k s s r
early_caused k s r o quits is some =
    let due = sym is ∙ some in
    let e = early_error s.state.phase r due in
    subst (λ (x : Reply). Causes (phase_due write_due s.state.phase) k s s x) (sym e.1) (caused_due (phase_due write_due s.state.phase) k s s e.0 quits e.2 (due ∙ ap Some e.1) refl)

ends_by : (reply : Reply) (text : Text) (a : Answer) → reply ≢ Done → a.reply ≡ reply → a.text ≡ [] → FillEnds reply text a
ends_by Done text a other reply none = absurd (other refl)
ends_by reply text a other is none = (is, none)

-- the steps over all pairs, and what is printed then
fill_row : (start n : ℕ) (h g : Held) (u v : View) (w w' : Option Text) (f f' : ℕ) (k : Clocked) (c : Content) (reply : Reply) (text : Text) (x : File) (calm : CalmDb (seen h).phase) (s : Result Counts Reply) (fill : Filled start n h g u v k.counted f c s)
    → k.counted ≤ k.counts → f ≤ f' → x ≡ fill.file
    → FillEnds (reply_to s) (fill_text (pair_map (records fill.file.bytes)) start n) (answer_in (scene h u w f) (scene g v w' f') k c reply text fill.after)
    → Needs (ToWrite (Fills start n)) (answer_in (scene h u w f) (scene g v w' f') k c reply text fill.after)
fill_row start n h g u v w w' f f' k c reply text x calm s fill on later same ends =
    let a = answer_in (scene h u w f) (scene g v w' f') k c reply text fill.after in
    let db = same_db calm.db fill.db (sym calm.phase ∙ fill.opened.phase) in
    needs_open (ToWrite (Fills start n)) a fill.db fill.opened.phase (whole (ToWrite (Fills start n)) a fill.db (ap (λ (d : Db). d.broken) (sym db) ∙ calm.whole)
    (writes (Fills start n) a fill.db (ap (λ (d : Db). d.access) (sym db) ∙ calm.writer)
    (record { file = fill.file; there = fill.opened.there; is = record { reply = reply_to s; last = faults_at v k.counted f; later = record { vault = omega arith; clock = on; out = later }; steps = fill.steps; ends = ends } })))

pub fill_done : (start n : ℕ) (h g : Held) (u v : View) (w w' : Option Text) (f f' : ℕ) (counts : Counts) (reply : Reply) → CalmDb (seen h).phase → FilledFrom start n h g u v (Ok counts) → Said (counts_text n counts) reply w w' f f' → f ≤ f'
    → Answers (Needs (ToWrite (Fills start n))) (scene h u w f) (scene g v w' f') reply
fill_done start n h g u v w w' f f' counts reply calm filled said later = λ k on c told.
    let fill = filled k.counted f c told in
    let same : counts_text n counts ≡ fill_text (pair_map (records fill.file.bytes)) start n = ap (counts_text n) fill.counted in
    ⊎_elim
    (λ (d : (reply ≡ Done) × (w' ≡ and_then w (counts_text n counts))).
    let r : Answered (Needs (ToWrite (Fills start n))) (scene h u w f) (scene g v w' f') k c reply = record {
      text = counts_text n counts;
      after = fill.after;
      told = fill.told;
      written = d.1;
      is = fill_row start n h g u v w w' f f' k c reply (counts_text n counts) fill.file calm (Ok counts) fill on later refl (inl (d.0, same));
    } in r)
    (λ (d : (reply ≡ SinkFault) × Rose f f' × WritesFront w w' (counts_text n counts)).
    let text = take d.2.0 (counts_text n counts) in
    let r : Answered (Needs (ToWrite (Fills start n))) (scene h u w f) (scene g v w' f') k c reply = record {
      text = text;
      after = fill.after;
      told = fill.told;
      written = d.2.2;
      is = fill_row start n h g u v w w' f f' k c reply text fill.file calm (Ok counts) fill on later refl (inr (d.0, d.1, (d.2.0, ap (take d.2.0) same)));
    } in r)
    said

pub fill_refused : (start n : ℕ) (h g : Held) (u v : View) (w : Option Text) (f : ℕ) (reply : Reply) → CalmDb (seen h).phase → FilledFrom start n h g u v (Err reply) → Answers (Needs (ToWrite (Fills start n))) (scene h u w f) (scene g v w f) reply
fill_refused start n h g u v w f reply calm filled = λ k on c told.
    let fill = filled k.counted f c told in
    record {
      text = [];
      after = fill.after;
      told = fill.told;
      written = put-nothing w;
      is = fill_row start n h g u v w w f f k c reply [] fill.file calm (Err reply) fill on (omega arith) refl
          (ends_by reply (fill_text (pair_map (records fill.file.bytes)) start n) (answer_in (scene h u w f) (scene g v w f) k c reply [] fill.after) fill.counted refl refl);
    }

pub fill_caused : (h g : Held) (u v : View) (w : Option Text) (f : ℕ) (reply : Reply) → phase_due write_due (seen h).phase ≡ None → FillCause h g u v reply → Causes (phase_due write_due (seen h).phase) counting (scene h u w f) (scene g v w f) reply
fill_caused h g u v w f reply calm cause =
    with_due None (phase_due write_due (seen h).phase) counting (scene h u w f) (scene g v w f) reply calm
    (caused_wider None moving counting (scene h u w f) (scene g v w f) reply moving_counting (cause w f))

pub fill_said_caused : (h g : Held) (u v : View) (w w' : Option Text) (f f' : ℕ) (text : Text) (reply : Reply) → phase_due write_due (seen h).phase ≡ None → Said text reply w w' f f' → Causes (phase_due write_due (seen h).phase) counting (scene h u w f) (scene g v w' f') reply
fill_said_caused h g u v w w' f f' text reply calm said =
    with_due None (phase_due write_due (seen h).phase) counting (scene h u w f) (scene g v w' f') reply calm (said_caused counting text (scene h u w f) (scene g v w' f') reply refl refl said)
