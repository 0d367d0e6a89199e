-- What single commands need beside the common lemmas.
use Rattle.std.proofs.Common.{◌≡◌, ◌⊎◌, inl, inr, ℕ, ◌+◌, ◌^◌, nat_lt, Bool, true, false, List, length, Option, Some, None, is_some, if◌then◌else◌, Result, Ok, Err, refl, sym, ap, subst, ◌∙◌, arith}
use Rattle.std.specs.Prelude.{IfOk}
use Rattle.std.specs.Fmt.{decimal}
use Rattle.gd_base.specs.declared.errors.DbError.{DbError}
use Rattle.gd_base.specs.declared.errors.DbError.TheVariants.{CannotReplace, ItemNotFound, TooLarge}
use Rattle.gd_format.specs.File.{records}
use Rattle.gd_format.specs.First.{or_else}
use Rattle.gd_format.specs.declared.Header.{Header}
use Rattle.gd_store.specs.Opened.{Fits, Opened, OnFile}
use Rattle.gd_open.specs.Reading.{RefusesRead}
use Rattle.gd_store.proofs.Asking.{asked}
use Rattle.gd_store.specs.Replies.{RefusedAsking, absent_due, delete_due, far_due, key_due, none_due, overflows, store_due, value_of}
use Rattle.gd_store.specs.declared.access.How.{How}
use Rattle.gd_store.specs.declared.access.How.TheVariants.{Insert, Replace}
use Rattle.gd_file_laws.specs.Parts.{file_header}
use Rattle.gd_types.specs.Decoding.{typed_text}
use Rattle.gd_vault.specs.Frame.{Within}
use Rattle.gd_vault.specs.Views.{View, OnlyAsks}
use Rattle.gd_vault.proofs.OneFile.{within_more}
use Rattle.gd_vault.proofs.Within.{within_only_asks}
use Rattle.gd_types.specs.declared.errors.TypeError.{TypeError}
use Rattle.gd_session.specs.Answers.{Ending}
use Rattle.gd_session.specs.Calls.{AnyFile, AnyName, Scene, is_fresh}
use Rattle.gd_session.specs.Rows.{count_row, deletes_due, done, fetch_row, found, refused, stores_due}
use Rattle.gd_session.specs.Said.{Said, Shows, Shown}
use Rattle.gd_session.specs.State.{Db, Held, Phase, State, Text, at_phase, db_of, phase_of, seen}
use Rattle.gd_session.specs.State.Phase.{Open, Shut}
use Rattle.gd_session.specs.Texts.{Pair, content_text, line}
use Rattle.gd_session.specs.declared.phase.Phase as real
use Rattle.gd_session.specs.declared.phase.Phase.TheVariants as phases
use Rattle.gd_session.specs.declared.reply.Reply.{Reply}
use Rattle.gd_session.proofs.Asked.{Links}
use Rattle.gd_session.proofs.Saying.{line_some, said_shown, shows_shown}

-- ---- open databases

pub asks_trans : (u v w : View) → OnlyAsks u v → OnlyAsks v w → OnlyAsks u w
asks_trans u v w a b = record { told = b.told ∙ a.told; later = omega (arith, a.later, b.later); bytes_written = b.bytes_written ∙ a.bytes_written; clones = b.clones ∙ a.clones }

pub grows_asked : (u v : View) → OnlyAsks u v → Within AnyFile AnyName u v
grows_asked u v asks = within_only_asks asks

pub grows_wider : (mine : ℕ → Type 0) (named : List ℕ → Type 0) (u v : View) → Within mine named u v → Within AnyFile AnyName u v
grows_wider mine named u v w = within_more mine AnyFile named AnyName (λ f h. tt) (λ n h. tt) u v w

-- ---- sessions

-- the session with its database put back
pub held_same : (h g : Held) (store store' : Opened) → h ≡ g → h.phase ≡ phases.Open store → store' ≡ store → record h { phase = phases.Open store' } ≡ g
held_same h g store store' is phase same =
    ap (λ (s : Opened). record h { phase = phases.Open s }) same ∙ ap (λ (p : real.Phase). record h { phase = p }) (sym phase) ∙ is

pub held_phase : (h g : Held) (store : Opened) → h ≡ g → h.phase ≡ phases.Open store → g.phase ≡ phases.Open store
held_phase h g store is phase = ap (λ (k : Held). k.phase) (sym is) ∙ phase

pub seen_phase : (g : Held) (store : Opened) → g.phase ≡ phases.Open store → (seen g).phase ≡ Open (db_of store)
seen_phase g store is = ap phase_of is

pub seen_changed : (h g : Held) (store' : Opened) → h ≡ g → seen (record h { phase = phases.Open store' }) ≡ at_phase (seen g) (Open (db_of store'))
seen_changed h g store' is = ap (λ (k : Held). at_phase (seen k) (Open (db_of store'))) is

shut_of : (p : real.Phase) → is_fresh p ≡ false → ((x : Opened) → p ≡ phases.Open x → ⊥) → phase_of p ≡ Shut
shut_of phases.Fresh old other = absurd (let f : true ≡ false = old in cc)
shut_of (phases.Open store) old other = absurd (other store refl)
shut_of phases.Shut old other = refl

pub shut_seen : (h g : Held) → h ≡ g → is_fresh g.phase ≡ false → ((x : Opened) → h.phase ≡ phases.Open x → ⊥) → (seen g).phase ≡ Shut
shut_seen h g is old other = shut_of g.phase old (λ x e. other x (ap (λ (k : Held). k.phase) is ∙ e))

-- ---- count

pub count_shown : (s : State) (pairs : List Pair) (n : ℕ) (old new : Scene) (r : Reply) → n ≡ length pairs → Said (line (decimal n)) r old.written new.written old.failed new.failed → new.state ≡ old.state → s ≡ old.state
    → Shown (count_row s pairs) old new r
count_shown s pairs n old new r is said same own =
    subst (λ (m : ℕ). Shown (done s (line (decimal m))) old new r) is (said_shown s s (line (decimal n)) old new r said same own (line_some (decimal n)))

pub none_link : (row : State → List Pair → Ending) (s : State) (e : DbError) → Links row s none_due e
none_link row s e = λ file h. absurd (let no : None ≡ Some e = h in cc)

-- why a read was refused is why a call was
pub read_asking : (e : DbError) (f : ℕ) (u v : View) → RefusesRead e u v → RefusedAsking e f u v none_due
read_asking e f u v r = asked e f u v none_due r

-- ---- fetch

pub fetch_shown : (s : State) (pairs : List Pair) (key content : Text) (old new : Scene) (r : Reply) → value_of pairs key ≡ Some content
    → Shows (content_text s content) r old.written new.written old.failed new.failed → new.state ≡ old.state → s ≡ old.state → Shown (fetch_row key s pairs) old new r
fetch_shown s pairs key content old new r is shows same own =
    subst (λ (o : Option Text). Shown (found s o) old new r) (sym is) (shows_shown s (content_text s content) old new r shows same own)

absent_found : (s : State) (o : Option Text) (e : DbError) → (if is_some o then None else Some ItemNotFound) ≡ Some e → found s o ≡ refused s e
absent_found s None e h = let same : ItemNotFound ≡ e = cc in ap (refused s) same
absent_found s (Some content) e h = absurd (let no : None ≡ Some e = h in cc)

pub absent_link : (key : Text) (s : State) (e : DbError) → Links (fetch_row key) s (λ file. absent_due (records file) key) e
absent_link key s e = λ file h. absent_found s (value_of (records file) key) e h

pub shows_for : (h g : Held) (bytes content delim : Text) (r : Reply) (o n : Option Text) (f k : ℕ) → h ≡ g → bytes ≡ content → delim ≡ h.settings.delim
    → Shows (typed_text h.content_form bytes delim) r o n f k → Shows (content_text (seen g) content) r o n f k
shows_for h g bytes content delim r o n f k is same_bytes same_delim shows =
    subst (λ (x : Held). Shows (content_text (seen x) content) r o n f k) is
    (subst (λ (d : Text). Shows (typed_text h.content_form content d) r o n f k) same_delim
    (subst (λ (b : Text). Shows (typed_text h.content_form b delim) r o n f k) same_bytes shows))

-- ---- changes

pub rest_same : (h g : Held) → h ≡ g → h ≡ record g { phase = h.phase }
rest_same h g is = ap (λ (k : Held). record k { phase = h.phase }) is

pub still_opened : (h g : Held) → h ≡ g → is_fresh g.phase ≡ false → is_fresh h.phase ≡ false
still_opened h g is old = subst (λ (k : Held). is_fresh k.phase ≡ false) (sym is) old

-- the refusal of a store by the header that is kept is that by the file
pub stores_none : (u : View) (s : Opened) (how : How) (key content : Text) (o : Option DbError) → Fits u s → s.broken ≡ false
    → OnFile u s.file (λ file. store_due (records file) s.header.elems s.header.next_block how key content ≡ o)
    → OnFile u s.file (λ file. stores_due how key content file ≡ o)
stores_none u s how key content o fits calm due = λ c x told there.
    subst (λ (h : Header). store_due (records x.bytes) h.elems h.next_block how key content ≡ o) (fits calm c x told there).header (due c x told there)

pub deletes_none : (u : View) (s : Opened) (key : Text) (o : Option DbError) → Fits u s → s.broken ≡ false
    → OnFile u s.file (λ file. delete_due (records file) s.header.next_block key ≡ o)
    → OnFile u s.file (λ file. deletes_due key file ≡ o)
deletes_none u s key o fits calm due = λ c x told there.
    subst (λ (h : Header). delete_due (records x.bytes) h.next_block key ≡ o) (fits calm c x told there).header (due c x told there)

-- ---- fill

insert_by : (big : Bool) (old : Option Text) (crowded : Bool) (far : Option DbError)
    → ((if big then Some TooLarge else or_else (key_due Insert old crowded) far) ≡ Some CannotReplace)
    ⊎ ((if big then Some TooLarge else or_else (key_due Insert old crowded) far) ≡ (if big then Some TooLarge else or_else (key_due Replace old crowded) far))
insert_by true old crowded far = inr refl
insert_by false (Some x) crowded far = inl refl
insert_by false None crowded far = inr refl

-- the refusal of an insertion is that the key is there, or that of a store
pub insert_due : (key content file : Text) → (stores_due Insert key content file ≡ Some CannotReplace) ⊎ (stores_due Insert key content file ≡ stores_due Replace key content file)
insert_due key content file =
    insert_by (nat_lt (2 ^ 30) (length key + length content)) (value_of (records file) key) (overflows (records file) (file_header file).elems key) (far_due (file_header file).next_block (length key + length content))

pub ok_map : {A E : Type 0} (r : Result A E) (P Q : A → Type 0) → ((x : A) → P x → Q x) → IfOk r P → IfOk r Q
ok_map (Ok x) P Q f h = f x h
ok_map (Err e) P Q f h = tt
