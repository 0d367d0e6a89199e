-- The record of a key that the file order gives.
use Rattle.std.proofs.Common.{◌≡◌, ◌⊎◌, inl, inr, ⊎_elim, ℕ, ◌+◌, ◌≤◌, Bool, true, false, List, [], ◌∷◌, take, Option, Some, None, is_some, if◌then◌else◌, Result, Ok, Err, refl, sym, ap, subst, ◌∙◌, arith}
use Rattle.std.specs.Prelude.{IfOk, IfErr}
use Rattle.std.specs.Str.{bytes_eq}
use Rattle.std.proofs.lemmas.Slice.Eq.{bytes_eq-Decides}
use Rattle.gd_base.specs.Causes.{Rose}
use Rattle.gd_base.specs.Streams.{WritesFront, and_then}
use Rattle.gd_base.proofs.Writes.{put-nothing}
use Rattle.gd_base.specs.declared.errors.DbError.{DbError}
use Rattle.gd_base.specs.declared.errors.DbError.TheVariants.{Absent, BlockSize, ShortFile, BadMagic, ByteSwapped, WrongOffset, BadHeader, BadDirEntry, BadBucket, BadHashTable, BadHashEntry, BadAvail, NeedRecovery, ReaderCant, ItemNotFound, CannotReplace, DirOverflow, TooLarge, FileFull, Exists, InUse, NotNumsync, AlreadyAtomic, SameName, InEpoch, NotOpen, VaultFault, ClockFault, OutOfMemory, ClockStood}
use Rattle.gd_format.specs.File.{IsReadable, records}
use Rattle.gd_format.specs.Slots.{count}
use Rattle.gd_lookup.specs.Order.{first_of, following, successor}
use Rattle.gd_lookup.specs.declared.Successor.{Successor}
use Rattle.gd_lookup.specs.declared.Successor.TheVariants as after
use Rattle.gd_map_laws.specs.Lookup.{has_key, lookup}
use Rattle.gd_map_laws.proofs.Lookup.{records_once}
use Rattle.gd_map_laws.proofs.Maps.{by_lookup}
use Rattle.gd_store.specs.Opened.{Fits, OnFile, Opened}
use Rattle.gd_store.specs.Replies.{RefusedAsking, absent_due, after_due, first_due, is_of_asking, next_due, none_due, value_of}
use Rattle.gd_store.proofs.Asking.{is_readable}
use Rattle.gd_store.proofs.Pairs.{first_pair}
use Rattle.gd_types.specs.Decoding.{typed_text}
use Rattle.gd_types.specs.declared.errors.TypeError.{TypeError}
use Rattle.gd_readable.specs.Asks as verify
use Rattle.gd_vault.specs.Content.{Content, File}
use Rattle.gd_vault.specs.Views.{HasFile, View, OnlyAsks, content_of}
use Rattle.gd_session.specs.Answers.{Answer, Ending, Ends, Faults, PrintFails}
use Rattle.gd_session.specs.Calls.{Answers, Scene, answer_in, scene}
use Rattle.gd_session.specs.Due.{Causes, ask_due, broken_due, phase_due, showing}
use Rattle.gd_session.specs.Rows.{Asks, InPhase, Needs, OrBroken, Whole, first_row, head_of, next_row, pair_after, printed, refused, shown}
use Rattle.gd_session.specs.Said.{Said, Shows, Shown}
use Rattle.gd_session.specs.Showing.{Finds, FindsIn, FindsNone, IsNext, IsNextAt, Row}
use Rattle.gd_session.specs.State.{Db, Held, Phase, State, Text, db_of, phase_of, seen}
use Rattle.gd_session.specs.State.Phase.{Open}
use Rattle.gd_session.specs.Texts.{Pair, line, pair_text, spaced}
use Rattle.gd_session.specs.declared.phase.Phase as real
use Rattle.gd_session.specs.declared.phase.Phase.TheVariants as phases
use Rattle.gd_session.specs.declared.reply.Reply.{Reply}
use Rattle.gd_session.specs.declared.reply.Reply.TheVariants.{Done, Refused, SinkFault, Typed}
use Rattle.gd_session.proofs.Asked.{Links, asks_answered, asks_refused, bool_cases, nothing_asked, told_by}
use Rattle.gd_session.proofs.Caused.{caused_before, refused_caused, scene_same, with_due}
use Rattle.gd_session.proofs.Changed.{refuses_map}
use Rattle.gd_session.proofs.Commands.{held_same, none_link}
use Rattle.gd_session.proofs.Saying.{line_some, rose_later}

abbrev Pairs : Type 0
Pairs = List Pair

-- ---- the refusals

first_refused : (s : State) (pairs : Pairs) (e : DbError) → first_due pairs ≡ Some e → first_row s pairs ≡ refused s e
first_refused s [] e h = let same : ItemNotFound ≡ e = cc in ap (refused s) same
first_refused s (p ∷ ps) e h = absurd (let no_ : None ≡ Some e = h in cc)

pub first_link : (s : State) (e : DbError) → Links first_row s (λ file. first_due (records file)) e
first_link s e = λ file h. first_refused s (records file) e h

head_none : (s : State) (pairs : Pairs) (e : DbError) → after_due (following (first_of pairs)) ≡ Some e → printed s (head_of pairs) ≡ refused s e
head_none s [] e h = let same : ItemNotFound ≡ e = cc in ap (refused s) same
head_none s (p ∷ ps) e h = absurd (let no_ : None ≡ Some e = h in cc)

next_refused : (s : State) (other : Text) (pairs : Pairs) (e : DbError) → after_due (successor other pairs) ≡ Some e → printed s (pair_after other pairs) ≡ refused s e
next_refused s other [] e h = let same : ItemNotFound ≡ e = cc in ap (refused s) same
next_refused s other (p ∷ ps) e h =
    ⊎_elim
    (λ (t : bytes_eq p.0 other ≡ true). rw t (head_none s ps e (rw t at h)))
    (λ (f : bytes_eq p.0 other ≡ false). rw f (next_refused s other ps e (rw f at h)))
    (bool_cases (bytes_eq p.0 other))

pub next_link : (key : Text) (s : State) (e : DbError) → Links (next_row (Some key)) s (λ file. next_due key (records file)) e
next_link key s e = λ file h. next_refused s key (records file) e h

-- ---- the records

pub first_next : (s : State) (key file : Text) → first_of (records file) ≡ Some key → IsNext first_row s key file
first_next s key file is =
    let p = first_pair file key is in
    record { content = p.value; in_map = p.in_map; is = ap (first_row s) p.is }

-- a key that is found has a pair
has_one : (pairs : Pairs) (key value : Text) → lookup key pairs ≡ Some value → 1 ≤ count (has_key key) pairs
has_one [] key value is = absurd cc
has_one (p ∷ rest) key value is =
    ⊎_elim (λ (t : bytes_eq p.0 key ≡ true). rw t (omega arith)) (λ (f : bytes_eq p.0 key ≡ false). let more = has_one rest key value (rw f at is) in rw f (omega (arith, more))) (bool_cases (bytes_eq p.0 key))

record Behind (pairs : Pairs) (other key : Text) : Type 0 where
  value : Text
  is : pair_after other pairs ≡ Some (key, value)
  found : lookup key pairs ≡ Some value

here : (p : Pair) (rest : Pairs) (other key : Text) → bytes_eq p.0 other ≡ true → ((a : Text) → count (has_key a) (p ∷ rest) ≤ 1) → following (first_of rest) ≡ after.Key key → Behind (p ∷ rest) other key
here p [] other key same once is = absurd cc
here p (q ∷ more) other key same once is =
    let next : q.0 ≡ key = cc in
    let own : bytes_eq q.0 key ≡ true = (bytes_eq-Decides q.0 key).1 next in
    let differs : bytes_eq p.0 key ≡ false = ⊎_elim (λ (t : bytes_eq p.0 key ≡ true). absurd (let two = once key in let both = rw (t, own) at two in omega (arith, both))) (λ (f : bytes_eq p.0 key ≡ false). f) (bool_cases (bytes_eq p.0 key)) in
    record {
      value = q.1;
      is = rw same (ap (λ (x : Text). Some (x, q.1)) next);
      found = rw (differs, own) refl;
    }

behind : (pairs : Pairs) (other key : Text) → ((a : Text) → count (has_key a) pairs ≤ 1) → successor other pairs ≡ after.Key key → Behind pairs other key
behind [] other key once is = absurd cc
behind (p ∷ rest) other key once is =
    ⊎_elim
    (λ (t : bytes_eq p.0 other ≡ true). here p rest other key t once (rw t at is))
    (λ (f : bytes_eq p.0 other ≡ false).
    let more = behind rest other key (λ a. (let most = once a in omega (arith, most))) (rw f at is) in
    let one = has_one rest key more.value more.found in
    let differs : bytes_eq p.0 key ≡ false = ⊎_elim (λ (t : bytes_eq p.0 key ≡ true). absurd (let two = once key in let both = rw t at two in omega (arith, both, one))) (λ (g : bytes_eq p.0 key ≡ false). g) (bool_cases (bytes_eq p.0 key)) in
    record { value = more.value; is = rw f more.is; found = rw differs more.found })
    (bool_cases (bytes_eq p.0 other))

pub next_next : (s : State) (other key file : Text) → IsReadable file → successor other (records file) ≡ after.Key key → IsNext (next_row (Some other)) s key file
next_next s other key file readable is =
    let b = behind (records file) other key (records_once file readable) is in
    record { content = b.value; in_map = by_lookup (records file) key ∙ b.found; is = ap (printed s) b.is }

pub next_at : (u : View) (h : Held) (store : Opened) (other key : Text) → Fits u store → store.broken ≡ false → OnFile u store.file (λ file. successor other (records file) ≡ after.Key key) → OnFile u store.file (IsNext (next_row (Some other)) (seen h) key)
next_at u h store other key fits calm is = λ c x told there.
    next_next (seen h) other key x.bytes (is_readable store.access store.header store.table x.bytes (fits calm c x told there).right) (is c x told there)

-- ---- what is found

pub finds : (row : Row) (due : Text → Option DbError) (h : Held) (u v : View) (store : Opened) (r : Result Text DbError)
    → h.phase ≡ phases.Open store → HasFile u store.file → OnlyAsks u v → (store.broken ≡ true → r ≡ Err NeedRecovery) → (store.broken ≡ true → v ≡ u)
    → (store.broken ≡ false → IfOk r (λ k. OnFile u store.file (IsNext row (seen h) k))) → (store.broken ≡ false → IfErr r (λ e. RefusedAsking e store.file u v due)) → ((e : DbError) → Links row (seen h) due e) → Finds row h u v r
finds row due h u v store (Ok key) phase has asks bad same next why links =
    ⊎_elim
    (λ (b : store.broken ≡ true). absurd (let no_ : Ok key ≡ Err NeedRecovery = bad b in cc))
    (λ (b : store.broken ≡ false). record { store = store; phase = phase; whole = b; is = next b })
    (bool_cases store.broken)
finds row due h u v store (Err e) phase has asks bad same next why links = record {
  answer = λ out failed. asks_refused row due (scene h u out failed) (scene h v out failed) store e (Err e) refl (ap phase_of phase) has asks refl refl bad why (links e);
  cause = λ out failed. refused_caused showing is_of_asking (scene h u out failed) (scene h v out failed) store e (Err e) _ refl refl refl refl refl (ap phase_of phase) bad (λ b. scene_same h h u v out failed refl (same b)) (λ b. (why b).kind) (λ b. (why b).cause);
}

pub finds_as : (row row' : Row) (h : Held) (u v : View) (r : Result Text DbError) → row ≡ row' → Finds row' h u v r → Finds row h u v r
finds_as row row' h u v r is f = subst (λ (x : Row). Finds x h u v r) (sym is) f

pub none_kept : (o : Option Text) → ((x : Text) → o ≡ Some x → ⊥) → o ≡ None
none_kept None other = refl
none_kept (Some x) other = absurd (other x refl)

-- no key is kept
none_refuses : (f : ℕ) (u v : View) → RefusedAsking ItemNotFound f u v (λ file. Some ItemNotFound)
none_refuses f u v = record { kind = refl; cause = λ c x told there. refl }

pub no_last : (h : Held) (u : View) (store : Opened) → h.phase ≡ phases.Open store → HasFile u store.file → h.last ≡ None → store.broken ≡ false → Finds (next_row h.last) h u u (Err ItemNotFound)
no_last h u store phase has none calm =
    finds_as (next_row h.last) (next_row None) h u u (Err ItemNotFound) (ap next_row none)
    (finds (next_row None) (λ file. Some ItemNotFound) h u u store (Err ItemNotFound) phase has (nothing_asked u)
    (λ b. absurd (let no_ : true ≡ false = sym b ∙ calm in cc)) (λ b. refl) (λ b. tt) (λ b. none_refuses store.file u u) (λ e file is. ap (refused (seen h)) (let both : Some ItemNotFound ≡ Some e = is in cc)))

pub broken_last : (row : Row) (h : Held) (u : View) (store : Opened) → h.phase ≡ phases.Open store → HasFile u store.file → store.broken ≡ true → Finds row h u u (Err NeedRecovery)
broken_last row h u store phase has bad =
    finds row none_due h u u store (Err NeedRecovery) phase has (nothing_asked u) (λ b. refl) (λ b. refl) (λ b. tt) (λ b. absurd (let no_ : true ≡ false = sym bad ∙ b in cc)) (none_link row (seen h))

-- ---- the record of a key is shown

shown_as : (s : State) (key : Text) (t : Result Text TypeError) (old new : Scene) (r : Reply) → s ≡ old.state
    → (r ≡ Done → new.state ≡ record s { last = Some key }) → ((r ≡ Done → ⊥) → new.state ≡ old.state)
    → Shows t r old.written new.written old.failed new.failed → Shown (shown s (record s { last = Some key }) t) old new r
shown_as s key (Ok text) old new r own done_is other said = ⊎_elim
    (λ (h : (r ≡ Done) × (new.written ≡ and_then old.written (line text))). record { text = line text; written = h.1; how = inl (h.0, refl, done_is h.0) })
    (λ (h : (r ≡ SinkFault) × Rose old.failed new.failed × WritesFront old.written new.written (line text)). record { text = take h.2.0 (line text); written = h.2.2; how = inr (h.0, h.1, (h.2.0, refl), other (λ d. let both : SinkFault ≡ Done = sym h.0 ∙ d in cc), line_some text) })
    said
shown_as s key (Err e) old new r own done_is other (is_typed, same) = record { text = []; written = same ∙ put-nothing old.written; how = inl (is_typed, refl, other (λ d. let both : Typed e ≡ Done = sym is_typed ∙ d in cc) ∙ sym own) }

one_value : (pairs : Pairs) (key a b : Text) → value_of pairs key ≡ Some a → value_of pairs key ≡ Some b → a ≡ b
one_value pairs key a b is own = let both : Some a ≡ Some b = sym is ∙ own in cc

next_shown : (row : Row) (s : State) (key content file : Text) (old new : Scene) (r : Reply) → IsNext row s key file → value_of (records file) key ≡ Some content
    → Shows (pair_text s (key, content)) r old.written new.written old.failed new.failed → s ≡ old.state
    → (r ≡ Done → new.state ≡ record s { last = Some key }) → ((r ≡ Done → ⊥) → new.state ≡ old.state) → Shown (row s (records file)) old new r
next_shown row s key content file old new r next has shows own done_is other =
    subst (λ (e : Ending). Shown e old new r) (sym next.is)
    (subst (λ (x : Text). Shown (printed s (Some (key, x))) old new r) (one_value (records file) key content next.content has next.in_map)
    (shown_as s key (pair_text s (key, content)) old new r own done_is other shows))

same_stores : (h : Held) (s t : Opened) → h.phase ≡ phases.Open s → h.phase ≡ phases.Open t → t ≡ s
same_stores h s t a b = let both : phases.Open t ≡ phases.Open s = sym b ∙ a in cc

pub at_store : (row : Row) (h : Held) (u : View) (key : Text) (store : Opened) → h.phase ≡ phases.Open store → IsNextAt row h u key → OnFile u store.file (IsNext row (seen h) key)
at_store row h u key store phase next = subst (λ (o : Opened). OnFile u o.file (IsNext row (seen h) key)) (same_stores h store next.store phase next.phase) next.is

-- the content of a key that is there was not read
pub show_refused : (row : Row) (h : Held) (key : Text) (u : View) (w : Option Text) (f : ℕ) (new : Scene) (store : Opened) (e : DbError) (r : Result Text DbError) → r ≡ Err e → h.phase ≡ phases.Open store → HasFile u store.file → OnlyAsks u new.view → new.written ≡ w → new.state ≡ seen h
    → (store.broken ≡ true → r ≡ Err NeedRecovery) → (store.broken ≡ false → RefusedAsking e store.file u new.view (λ file. absent_due (records file) key)) → OnFile u store.file (IsNext row (seen h) key) → Answers (Needs (Asks row)) (scene h u w f) new (Refused e)
show_refused row h key u w f new store e r is phase has asks written state bad why next =
    asks_refused row none_due (scene h u w f) new store e r is (ap phase_of phase) has asks written state bad
    (λ b. record {
      kind = (why b).kind;
      cause = refuses_map _ (OnFile u store.file (λ file. absent_due (records file) key ≡ Some e)) (OnFile u store.file (λ file. none_due file ≡ Some e)) e
          (λ due c x told there. (let n = next c x told there in ap (λ (o : Option Text). if is_some o then None else Some ItemNotFound) (sym n.in_map) ∙ due c x told there)) (why b).cause;
    })
    (none_link row (seen h) e)

pub show_answered : (row : Row) (h : Held) (key content : Text) (u : View) (w : Option Text) (f : ℕ) (new : Scene) (store : Opened) (reply : Reply) (r : Result Text DbError) → r ≡ Ok content → h.phase ≡ phases.Open store → HasFile u store.file → OnlyAsks u new.view
    → (store.broken ≡ true → r ≡ Err NeedRecovery) → OnFile u store.file (λ file. value_of (records file) key ≡ Some content) → OnFile u store.file (IsNext row (seen h) key)
    → Shows (pair_text (seen h) (key, content)) reply w new.written f new.failed → (reply ≡ Done → new.state ≡ record (seen h) { last = Some key }) → ((reply ≡ Done → ⊥) → new.state ≡ seen h) → Answers (Needs (Asks row)) (scene h u w f) new reply
show_answered row h key content u w f new store reply r is phase has asks bad value next shows done_is other =
    asks_answered row (scene h u w f) new store reply content r is (ap phase_of phase) has asks bad
    (λ c x told there. next_shown row (seen h) key content x.bytes (scene h u w f) new reply (next c x told there) (value c x told there) shows refl done_is other)

-- ---- by what is kept of a session

pub pair_for : (h g : Held) (key content delim k c : Text) (r : Reply) (o n : Option Text) (f j : ℕ) → h ≡ g → key ≡ k → content ≡ c → delim ≡ h.settings.delim
    → Shows (spaced (typed_text h.key_form key delim) (typed_text h.content_form content delim)) r o n f j → Shows (pair_text (seen g) (k, c)) r o n f j
pair_for h g key content delim k c r o n f j is key_is content_is delim_is shows =
    subst (λ (x : Held). Shows (pair_text (seen x) (k, c)) r o n f j) is
    (subst (λ (d : Text). Shows (spaced (typed_text h.key_form k d) (typed_text h.content_form c d)) r o n f j) delim_is
    (subst (λ (b : Text). Shows (spaced (typed_text h.key_form k delim) (typed_text h.content_form b delim)) r o n f j) content_is
    (subst (λ (b : Text). Shows (spaced (typed_text h.key_form b delim) (typed_text h.content_form content delim)) r o n f j) key_is shows)))

pub printed_state : (h g : Held) (store store' : Opened) (key : Text) → h ≡ g → h.phase ≡ phases.Open store → store' ≡ store → seen (record h { phase = phases.Open store'; last = Some key }) ≡ record (seen g) { last = Some key }
printed_state h g store store' key is phase same = ap (λ (k : Held). record (seen k) { last = Some key }) (held_same h g store store' is phase same)

-- ---- in two calls

-- counts may start earlier
asks_earlier : (row : Row) (db : Db) (a : Answer) (k : Faults) → k.vault ≤ a.counted.vault → k.out ≡ a.counted.out → Asks row db a → Asks row db (record a { counted = k })
asks_earlier row db a k vault out (inl x) =
    inl (record {
      file = x.file;
      there = x.there;
      is = ⊎_elim
          (λ (e : Ends (row a.old (records x.file.bytes)) a). inl (record { reply = e.reply; text = e.text; session = e.session; content = e.content }))
          (λ (e : PrintFails (row a.old (records x.file.bytes)) a). inr (record { prints = e.prints; reply = e.reply; rose = subst (λ (n : ℕ). Rose n a.counts.out) (sym out) e.rose; text = e.text; session = e.session; content = e.content }))
          x.is;
    })
asks_earlier row db a k vault out (inr (inl x)) = inr (inl (record { refuses = record { reply = x.refuses.reply; stays = record { session = x.refuses.stays.session; content = x.refuses.stays.content; text = x.refuses.stays.text } }; rose = rose_later k.vault a.counted.vault a.counts.vault vault x.rose }))
asks_earlier row db a k vault out (inr (inr x)) = inr (inr (record { reply = x.reply; stays = record { session = x.stays.session; content = x.stays.content; text = x.stays.text } }))

open_earlier : (row : Row) (db : Db) (b : Bool) (a : Answer) (k : Faults) → k.vault ≤ a.counted.vault → k.out ≡ a.counted.out → OrBroken b (Asks row db) a → OrBroken b (Asks row db) (record a { counted = k })
open_earlier row db true a k vault out x = record { reply = x.reply; stays = record { session = x.stays.session; content = x.stays.content; text = x.stays.text } }
open_earlier row db false a k vault out x = asks_earlier row db a k vault out x

needs_earlier : (row : Row) (db : Db) (a : Answer) (k : Faults) → a.old.phase ≡ Open db → k.vault ≤ a.counted.vault → k.out ≡ a.counted.out → Needs (Asks row) a → Needs (Asks row) (record a { counted = k })
needs_earlier row db a k phase vault out x =
    subst (λ (p : Phase). InPhase p (Whole (Asks row)) (record a { counted = k })) (sym phase)
    (open_earlier row db db.broken a k vault out (subst (λ (p : Phase). InPhase p (Whole (Asks row)) a) phase x))

next_after : (row : Row) (h g : Held) (u v : View) (key : Text) → g ≡ h → OnlyAsks u v → IsNextAt row h u key → IsNextAt row g v key
next_after row h g u v key same asks next = record {
  store = next.store;
  phase = ap (λ (x : Held). x.phase) same ∙ next.phase;
  whole = next.whole;
  is = λ c x told there. subst (λ (k : Held). IsNext row (seen k) key x.bytes) (sym same) (next.is c x (told_by u v c asks told) there);
}

-- what a command that found a key, and then showed it, answered
pub found_answer : (row : Row) (h g : Held) (u v : View) (key : Text) (w : Option Text) (f : ℕ) (new : Scene) (r : Reply) → g ≡ h → OnlyAsks u v → IsNextAt row h u key
    → (IsNextAt row g v key → Answers (Needs (Asks row)) (scene g v w f) new r) → Answers (Needs (Asks row)) (scene h u w f) new r
found_answer row h g u v key w f new r same asks next answer = λ k on c told.
    let there = next_after row h g u v key same asks next in
    let a = subst (λ (x : Held). Answers (Needs (Asks row)) (scene x v w f) new r) same (answer there) k on c (ap content_of asks.told ∙ told) in
    record {
      text = a.text;
      after = a.after;
      told = a.told;
      written = a.written;
      is = needs_earlier row (db_of next.store) (answer_in (scene h v w f) new k c r a.text a.after) (record { vault = u.faults; clock = k.counted; out = f }) (ap phase_of next.phase) asks.later refl a.is;
    }

pub found_caused : (h g : Held) (u v : View) (key : Text) (w : Option Text) (f : ℕ) (new : Scene) (r : Reply) → g ≡ h → OnlyAsks u v → (row : Row) → IsNextAt row h u key
    → Causes (phase_due ask_due (seen g).phase) showing (scene g v w f) new r → Causes (phase_due ask_due (seen h).phase) showing (scene h u w f) new r
found_caused h g u v key w f new r same asks row next cause =
    let c = subst (λ (x : Held). Causes (phase_due ask_due (seen x).phase) showing (scene x v w f) new r) same cause in
    let none : phase_due ask_due (seen h).phase ≡ None = ap (λ (p : real.Phase). phase_due ask_due (phase_of p)) next.phase ∙ ap (λ (b : Bool). broken_due b None) next.whole in
    with_due None (phase_due ask_due (seen h).phase) showing (scene h u w f) new r none
    (caused_before (phase_due ask_due (seen h).phase) showing (scene h u w f) (scene h v w f) new r asks.later (omega arith) (λ bad. let no_ : None ≡ Some (Refused NotOpen) = sym none ∙ bad in cc) c)

pub not_found : (row : Row) (h g : Held) (u v : View) (w : Option Text) (f : ℕ) (e : DbError) → g ≡ h → FindsNone row h u v e → Answers (Needs (Asks row)) (scene h u w f) (scene g v w f) (Refused e)
not_found row h g u v w f e same none = subst (λ (x : Held). Answers (Needs (Asks row)) (scene h u w f) (scene x v w f) (Refused e)) (sym same) (none.answer w f)

pub not_found_caused : (row : Row) (h g : Held) (u v : View) (w : Option Text) (f : ℕ) (e : DbError) → g ≡ h → FindsNone row h u v e → Causes (phase_due ask_due (seen h).phase) showing (scene h u w f) (scene g v w f) (Refused e)
not_found_caused row h g u v w f e same none = subst (λ (x : Held). Causes (phase_due ask_due (seen h).phase) showing (scene h u w f) (scene x v w f) (Refused e)) (sym same) (none.cause w f)
