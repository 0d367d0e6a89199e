-- The lines of records.
use Rattle.std.proofs.Common.{◌≡◌, ◌≢◌, ◌⊎◌, inl, inr, ⊎_elim, ℕ, ◌+◌, ◌==◌, ◌≤◌, Bool, true, false, List, [], ◌∷◌, ◌++◌, drop, length, take, Option, Some, None, Result, Ok, Err, refl, sym, ap, subst, ◌∙◌, arith}
use Rattle.std.proofs.Math.Seq.{take-append_seam}
use Rattle.std.proofs.lemmas.Bool.{eqb-true}
use Rattle.std.proofs.lemmas.List.{append_assoc, append-nil, take-append-drop}
use Rattle.gd_base.specs.Causes.{Rose}
use Rattle.gd_base.specs.Streams.{WritesFront, and_then}
use Rattle.gd_base.proofs.Waits.{Waits, waits-front, waits-more}
use Rattle.gd_base.proofs.Writes.{all-after, front-after, front-more, put-nothing}
use Rattle.gd_base.specs.declared.errors.DbError.{DbError}
use Rattle.gd_base.specs.declared.errors.DbError.TheVariants.{OutOfMemory, VaultFault}
use Rattle.gd_format.specs.File.{records}
use Rattle.gd_store.specs.Opened.{OnFile, Opened}
use Rattle.gd_vault.specs.Content.{Content, File}
use Rattle.gd_vault.specs.Views.{HasFile, OnlyAsks, View, content_of}
use Rattle.gd_readable.specs.Asks as verify
use Rattle.gd_types.specs.Decoding.{datum_fault, datum_text, typed_text}
use Rattle.gd_types.specs.declared.errors.TypeError.{TypeError}
use Rattle.gd_session.specs.Answers.{Ending, Prints}
use Rattle.gd_session.specs.Calls.{Answers, Clocked, Scene, answer_in}
use Rattle.gd_session.specs.Due.{Causes, showing}
use Rattle.gd_session.specs.Listing.{IsListCause, IsListed, Listed, Lists, Waiting, Wrote}
use Rattle.gd_session.specs.Rows as rows
use Rattle.gd_session.specs.Rows.{ListBreaks, ListStarves, Needs, done, line_before, list_row, typed}
use Rattle.gd_session.specs.State.{Held, State, Text, db_of, seen}
use Rattle.gd_session.specs.State.Phase.{Open}
use Rattle.gd_session.specs.Texts.{Pair, line, pair_text, spaced}
use Rattle.gd_session.specs.declared.reply.Reply.{Reply}
use Rattle.gd_session.specs.declared.reply.Reply.TheVariants.{Done, Quit, Refused, SinkFault, Typed}
use Rattle.gd_session.proofs.Asked.{needs_open, whole}
use Rattle.gd_session.proofs.Caused.{caused_done, caused_error, caused_sink, caused_typed, rose_of}
use Rattle.gd_session.specs.Said.{misfit_of}
use Rattle.gd_session.proofs.Saying.{line_some}
use Rattle.gd_session.proofs.Spaced.{pair_error, pair_fits, pair_ok}

-- ---- the rows of many records

row_ok : (s : State) (p : Pair) (ps : List Pair) (t : Text) → pair_text s p ≡ Ok t → list_row s (p ∷ ps) ≡ record (list_row s ps) { text = line t ++ (list_row s ps).text }
unfolding list_row
row_ok s p ps t is = ap (λ (r : Result Text TypeError). line_before s r (list_row s ps)) is

pub row_error : (s : State) (p : Pair) (ps : List Pair) (e : TypeError) → pair_text s p ≡ Err e → list_row s (p ∷ ps) ≡ typed s e
unfolding list_row
row_error s p ps e is = ap (λ (r : Result Text TypeError). line_before s r (list_row s ps)) is

pub row_none : (s : State) → list_row s [] ≡ done s []
unfolding list_row
row_none s = refl

-- a text before that of an ending
abbrev pub prefixed : Text → Ending → Ending
prefixed text e = record e { text = text ++ e.text }

append_step : (s : State) (p : Pair) (ps left : List Pair) (text : Text) (r : Result Text TypeError) → pair_text s p ≡ r → list_row s (p ∷ ps) ≡ done s text
    → ((text' : Text) → list_row s ps ≡ done s text' → list_row s (ps ++ left) ≡ prefixed text' (list_row s left)) → list_row s (p ∷ (ps ++ left)) ≡ prefixed text (list_row s left)
append_step s p ps left text (Err e) is row more =
    absurd (let no_ : Typed e ≡ Done = ap (λ (x : Ending). x.reply) (sym (row_error s p ps e is) ∙ row) in cc)
append_step s p ps left text (Ok t) is row more =
    let own = sym (row_ok s p ps t is) ∙ row in
    let rest : list_row s ps ≡ done s (list_row s ps).text = (λ i. record { reply = (ap (λ (x : Ending). x.reply) own) i; text = (list_row s ps).text; session = (ap (λ (x : Ending). x.session) own) i }) in
    row_ok s p (ps ++ left) t is
    ∙ ap (λ (e : Ending). prefixed (line t) e) (more (list_row s ps).text rest)
    ∙ ap (λ (x : Text). record (list_row s left) { text = x }) (sym (append_assoc (line t) (list_row s ps).text (list_row s left).text))
    ∙ ap (λ (x : Text). prefixed x (list_row s left)) (ap (λ (x : Ending). x.text) own)

-- records whose lines are printed whole come before others
pub row_append : (s : State) (front left : List Pair) (text : Text) → list_row s front ≡ done s text → list_row s (front ++ left) ≡ prefixed text (list_row s left)
row_append s [] left text row = ap (λ (x : Text). prefixed x (list_row s left)) (ap (λ (x : Ending). x.text) (sym (row_none s) ∙ row))
row_append s (p ∷ ps) left text row = append_step s p ps left text (pair_text s p) refl row (λ text' rest. row_append s ps left text' rest)

-- ---- so far

pub record SoFar (s : State) (all left : List Pair) (old : Option Text) (waited : Text) (new : Option Text) (waits : Text) : Type 0 where
  pub front : List Pair
  pub text : Text
  pub is : all ≡ front ++ left
  pub row : list_row s front ≡ done s text
  pub put : Waits old waited new waits text

pub none_yet : (s : State) (all : List Pair) (old : Option Text) (waited : Text) → Waits old waited old waited [] → SoFar s all all old waited old waited
none_yet s all old waited put = record { front = []; text = []; is = refl; row = row_none s; put = put }

pub one_more : (s : State) (all left rest : List Pair) (p : Pair) (t : Text) (old middle new : Option Text) (a b c : Text) → SoFar s all left old a middle b → left ≡ p ∷ rest → pair_text s p ≡ Ok t → Waits middle b new c (line t) → SoFar s all rest old a new c
one_more s all left rest p t old middle new a b c f is text put =
    let one : list_row s (p ∷ []) ≡ done s (line t) = row_ok s p [] t text ∙ (ap (λ (e : Ending). prefixed (line t) e) (row_none s) ∙ ap (λ (x : Text). done s x) (append-nil (line t))) in
    record {
      front = f.front ++ p ∷ [];
      text = f.text ++ line t;
      is = f.is ∙ (ap (λ (x : List Pair). f.front ++ x) is ∙ sym (append_assoc f.front (p ∷ []) rest));
      row = row_append s f.front (p ∷ []) f.text f.row ∙ ap (λ (e : Ending). prefixed f.text e) one;
      put = waits-more old middle new a b c f.text (line t) f.put put;
    }

taken : (xs ys : List Pair) → take (length xs) (xs ++ ys) ≡ xs
taken [] ys = refl
taken (x ∷ xs) ys = ap (λ (zs : List Pair). x ∷ zs) (taken xs ys)

all_row : (s : State) (all left : List Pair) (old new : Option Text) (a b : Text) → (f : SoFar s all left old a new b) → list_row s all ≡ prefixed f.text (list_row s left)
all_row s all left old new a b f = ap (list_row s) f.is ∙ row_append s f.front left f.text f.row

front_row : (s : State) (all left : List Pair) (old new : Option Text) (a b : Text) → (f : SoFar s all left old a new b) → list_row s (take (length f.front) all) ≡ done s f.text
front_row s all left old new a b f = ap (λ (x : List Pair). list_row s (take (length f.front) x)) f.is ∙ (ap (list_row s) (taken f.front left) ∙ f.row)

waiting : (s : State) (all left : List Pair) (reply : Reply) (old new : Option Text) (a b : Text) → (f : SoFar s all left old a new b) → IsListed s all reply f.text → Waiting s all reply old a new b
waiting s all left reply old new a b f listed = record { text = f.text; front = f.put.0; written = f.put.1; rest = f.put.2; listed = listed }

pub all_listed : (s : State) (all left : List Pair) (old new : Option Text) (a b : Text) → left ≡ [] → SoFar s all left old a new b → Lists s all Done old a new b
all_listed s all left old new a b none f =
    waiting s all left Done old new a b f
    (all_row s all left old new a b f ∙ (ap (λ (x : List Pair). prefixed f.text (list_row s x)) none ∙ (ap (λ (e : Ending). prefixed f.text e) (row_none s) ∙ ap (λ (x : Text). done s x) (append-nil f.text))))

pub misfit_listed : (s : State) (all left rest : List Pair) (p : Pair) (e : TypeError) (old new : Option Text) (a b : Text) → left ≡ p ∷ rest → pair_text s p ≡ Err e → SoFar s all left old a new b → Lists s all (Typed e) old a new b
misfit_listed s all left rest p e old new a b is error f =
    waiting s all left (Typed e) old new a b f
    (all_row s all left old new a b f ∙ (ap (λ (x : List Pair). prefixed f.text (list_row s x)) is ∙ (ap (λ (x : Ending). prefixed f.text x) (row_error s p rest e error) ∙ ap (λ (x : Text). record (typed s e) { text = x }) (append-nil f.text))))

-- the walk ended early
pub stopped_listed : (s : State) (all left : List Pair) (e : DbError) (fault refusal : Type 0) (old new : Option Text) (a b : Text) → verify.Refuses e fault refusal → (refusal → ⊥) → SoFar s all left old a new b → Lists s all (Refused e) old a new b
stopped_listed s all left VaultFault fault refusal old new a b why never f = waiting s all left (Refused VaultFault) old new a b f (length f.front, front_row s all left old new a b f)
stopped_listed s all left OutOfMemory fault refusal old new a b why never f = waiting s all left (Refused OutOfMemory) old new a b f (length f.front, front_row s all left old new a b f)
stopped_listed s all left e fault refusal old new a b why never f = absurd (never why)

front_none : (xs ys : Text) → xs ++ ys ≡ [] → xs ≡ []
front_none [] ys is = refl
front_none (x ∷ xs) ys is = absurd (let no_ : x ∷ (xs ++ ys) ≡ [] = is in cc)

back_none : (xs ys : Text) → xs ++ ys ≡ [] → ys ≡ []
back_none [] ys is = is
back_none (x ∷ xs) ys is = absurd (let no_ : x ∷ (xs ++ ys) ≡ [] = is in cc)

-- the output failed in a line
pub failed_listed : (s : State) (all left rest : List Pair) (p : Pair) (t : Text) (old middle new : Option Text) (a b c : Text) → left ≡ p ∷ rest → pair_text s p ≡ Ok t → SoFar s all left old a middle b → WritesFront middle new (b ++ line t) → Lists s all SinkFault old a new c
failed_listed s all left rest p t old middle new a b c is text f front =
    let whole : (list_row s all).text ≡ f.text ++ (line t ++ (list_row s rest).text) =
    ap (λ (e : Ending). e.text) (all_row s all left old middle a b f ∙ (ap (λ (x : List Pair). prefixed f.text (list_row s x)) is ∙ ap (λ (x : Ending). prefixed f.text x) (row_ok s p rest t text))) in
    let more : WritesFront middle new (b ++ (line t ++ (list_row s rest).text)) = subst (WritesFront middle new) (append_assoc b (line t) (list_row s rest).text) (front-more middle new (b ++ line t) (list_row s rest).text front) in (
      subst (λ (x : Text). WritesFront old new (a ++ x)) (sym whole) (waits-front old middle new a b f.text (line t ++ (list_row s rest).text) f.put more),
      λ none. line_some t (front_none (line t) (list_row s rest).text (back_none f.text (line t ++ (list_row s rest).text) (sym whole ∙ none))),
    )

-- ---- a whole list

part_text : (s : State) (pairs : List Pair) (text : Text) (n : ℕ) → list_row s (take n pairs) ≡ done s text → (rest : Text) × ((list_row s pairs).text ≡ text ++ rest)
part_text s pairs text n row =
    ((list_row s (drop n pairs)).text, ap (λ (x : List Pair). (list_row s x).text) (sym (take-append-drop n pairs)) ∙ ap (λ (e : Ending). e.text) (row_append s (take n pairs) (drop n pairs) text row))

-- what was printed is a front of the lines of all records
pub whole_text : (s : State) (pairs : List Pair) (reply : Reply) (text : Text) → IsListed s pairs reply text → (rest : Text) × ((list_row s pairs).text ≡ text ++ rest)
whole_text s pairs Done text listed = ([], ap (λ (e : Ending). e.text) listed ∙ sym (append-nil text))
whole_text s pairs (Typed e) text listed = ([], ap (λ (e : Ending). e.text) listed ∙ sym (append-nil text))
whole_text s pairs (Refused VaultFault) text listed = part_text s pairs text listed.0 listed.1
whole_text s pairs (Refused OutOfMemory) text listed = part_text s pairs text listed.0 listed.1
whole_text s pairs reply text listed = absurd listed

-- nothing waits any more
pub wrote_all : (s : State) (pairs : List Pair) (reply : Reply) (old new : Option Text) (waits : Text) → waits ≡ [] → Waiting s pairs reply old [] new waits → Wrote s pairs reply old new
wrote_all s pairs reply old new waits none w = record { text = w.text; written = w.written ∙ ap (and_then old) (sym (append-nil w.front) ∙ (ap (λ (x : Text). w.front ++ x) (sym none) ∙ w.rest)); listed = w.listed }

-- what waited was written
pub wrote_rest : (s : State) (pairs : List Pair) (reply : Reply) (old middle new : Option Text) (waits : Text) → new ≡ and_then middle waits → Waiting s pairs reply old [] middle waits → Wrote s pairs reply old new
wrote_rest s pairs reply old middle new waits is w = record { text = w.text; written = all-after old middle new w.front waits w.written is ∙ ap (and_then old) w.rest; listed = w.listed }

-- the output failed in what waited
pub wrote_front : (s : State) (pairs : List Pair) (reply : Reply) (old middle new : Option Text) (waits : Text) → waits ≢ [] → WritesFront middle new waits → Waiting s pairs reply old [] middle waits → Listed s pairs SinkFault old new
wrote_front s pairs reply old middle new waits some front w =
    let r = whole_text s pairs reply w.text w.listed in
    let own : WritesFront old new w.text = subst (WritesFront old new) w.rest (front-after old middle new w.front waits w.written front) in (
      subst (WritesFront old new) (sym r.1) (front-more old new w.text r.0 own),
      λ none. some (back_none w.front waits (w.rest ∙ front_none w.text r.0 (sym r.1 ∙ none))),
    )

pub listed_by : (s : State) (pairs : List Pair) (reply : Reply) (old new : Option Text) → (reply ≡ SinkFault → ⊥) → Wrote s pairs reply old new → Listed s pairs reply old new
listed_by s pairs SinkFault old new other w = absurd (other refl)
listed_by s pairs reply old new other w = w

pub waits_by : (s : State) (pairs : List Pair) (reply : Reply) (old : Option Text) (a : Text) (new : Option Text) (b : Text) → (reply ≡ SinkFault → ⊥) → Lists s pairs reply old a new b → Waiting s pairs reply old a new b
waits_by s pairs SinkFault old a new b other l = absurd (other refl)
waits_by s pairs reply old a new b other l = l

-- ---- answers

-- the lines were printed, or why not
abbrev pub ListAnswer : Scene → Scene → Clocked → Content → Text → Reply → Type 0
ListAnswer old new k c file reply = (text : Text) × (new.written ≡ and_then old.written text) × (Prints (list_row old.state (records file)) (answer_in old new k c reply text c) ⊎ (ListBreaks (records file) (answer_in old new k c reply text c) ⊎ ListStarves (records file) (answer_in old new k c reply text c)))

list_is : (old new : Scene) (k : Clocked) (c : Content) (file : Text) (reply : Reply) → new.state ≡ old.state → Listed old.state (records file) reply old.written new.written → IsListCause reply old.view.faults new.view.faults old.failed new.failed → ListAnswer old new k c file reply
list_is old new k c file Done same w why =
    (w.text, w.written, inl (inl (record { reply = ap (λ (e : Ending). e.reply) (sym w.listed); text = ap (λ (e : Ending). e.text) (sym w.listed); session = same ∙ ap (λ (e : Ending). e.session) (sym w.listed); content = refl })))
list_is old new k c file (Typed e) same w why =
    (w.text, w.written, inl (inl (record { reply = ap (λ (x : Ending). x.reply) (sym w.listed); text = ap (λ (x : Ending). x.text) (sym w.listed); session = same ∙ ap (λ (x : Ending). x.session) (sym w.listed); content = refl })))
list_is old new k c file SinkFault same w why =
    (take w.0.0 (list_row old.state (records file)).text, w.0.2, inl (inr (record { prints = w.1; reply = refl; rose = why; text = (w.0.0, refl); session = same; content = refl })))
list_is old new k c file (Refused VaultFault) same w why =
    let r = whole_text old.state (records file) (Refused VaultFault) w.text w.listed in (
      w.text,
      w.written,
      inr (inl (record {
        reply = refl;
        rose = why;
        text = (length w.text, sym (take-append_seam w.text r.0) ∙ ap (take (length w.text)) (sym r.1));
        session = same;
        content = refl;
      })),
    )
list_is old new k c file (Refused OutOfMemory) same w why =
    (w.text, w.written, inr (inr (record { reply = refl; session = same; content = refl; count = w.listed.0; lines = w.listed.1 })))
list_is old new k c file reply same w why = absurd w.listed

pub list_answer : (old new : Scene) (store : Opened) (reply : Reply) → old.state.phase ≡ Open (db_of store) → store.broken ≡ false → HasFile old.view store.file → OnlyAsks old.view new.view → new.state ≡ old.state
    → OnFile old.view store.file (λ file. Listed old.state (records file) reply old.written new.written) → IsListCause reply old.view.faults new.view.faults old.failed new.failed → Answers (Needs rows.Lists) old new reply
list_answer old new store reply phase calm has asks same listed why = λ k on c told.
    let x = has c told in
    let a = list_is old new k c x.0.bytes reply same (listed c x.0 told x.1) why in
    record {
      text = a.0;
      after = c;
      told = ap content_of asks.told ∙ told;
      written = a.1;
      is = needs_open rows.Lists (answer_in old new k c reply a.0 c) (db_of store) phase (whole rows.Lists (answer_in old new k c reply a.0 c) (db_of store) calm (record { file = x.0; there = x.1; is = a.2 }));
    }

-- before any record was read
pub list_refused : (old new : Scene) (store : Opened) (e : DbError) → old.state.phase ≡ Open (db_of store) → store.broken ≡ false → HasFile old.view store.file → OnlyAsks old.view new.view → new.state ≡ old.state → new.written ≡ old.written
    → verify.Refuses e (Rose old.view.faults new.view.faults) (content_of old.view.told ≡ None) → Answers (Needs rows.Lists) old new (Refused e)
list_refused old new store VaultFault phase calm has asks same written why =
    list_answer old new store (Refused VaultFault) phase calm has asks same (λ c x told there. record { text = []; written = written ∙ put-nothing old.written; listed = (0, row_none old.state) }) why
list_refused old new store OutOfMemory phase calm has asks same written why =
    list_answer old new store (Refused OutOfMemory) phase calm has asks same (λ c x told there. record { text = []; written = written ∙ put-nothing old.written; listed = (0, row_none old.state) }) tt
list_refused old new store e phase calm has asks same written why = λ k on c told. absurd (let no_ : None ≡ Some c = sym why ∙ told in cc)

abbrev pub list_kind : DbError → Bool
list_kind VaultFault = true
list_kind OutOfMemory = true
list_kind e = verify.is_of_bucket e

error_kind : (e : DbError) (fault : Type 0) → verify.Refuses e fault (verify.is_of_bucket e ≡ true) → list_kind e ≡ true
error_kind VaultFault fault why = refl
error_kind OutOfMemory fault why = refl
error_kind e fault why = why

pub list_caused : (old new : Scene) (reply : Reply) → IsListCause reply old.view.faults new.view.faults old.failed new.failed → Causes None showing old new reply
list_caused old new Done why = caused_done showing old new refl
list_caused old new (Typed e) why = caused_typed showing old new e refl refl
list_caused old new SinkFault why = caused_sink showing old new refl refl why
list_caused old new (Refused e) why = caused_error showing list_kind old new e refl refl (error_kind e (Rose old.view.faults new.view.faults) why) refl refl (rose_of (Rose old.view.faults new.view.faults) (verify.is_of_bucket e ≡ true) e why)
list_caused old new Quit why = absurd why

pub bucket_cause : (e : DbError) (before now out out' : ℕ) (P : Type 0) → verify.Refuses e (Rose before now) P → verify.IsAnswer verify.is_of_bucket e → IsListCause (Refused e) before now out out'
bucket_cause VaultFault before now out out' P why kind = why
bucket_cause OutOfMemory before now out out' P why kind = tt
bucket_cause e before now out out' P why kind = kind

-- ---- by what is kept of a session

-- the same by the content first
abbrev pub AtFile : View → ℕ → (Text → Type 0) → Type 0
AtFile v f P = (c : Content) → content_of v.told ≡ Some c → (x : File) → c.files f ≡ Some x → P x.bytes

pub at_now : (u v : View) (f g : ℕ) (P : Text → Type 0) → v.told ≡ u.told → g ≡ f → OnFile u f P → OnFile v g P
at_now u v f g P same id h = λ c x told is. h c x (ap content_of (sym same) ∙ told) (ap c.files (sym id) ∙ is)

pub pair_now : (h g : Held) (key content delim k c : Text) (r : Result Text TypeError) → h ≡ g → key ≡ k → content ≡ c → delim ≡ h.settings.delim
    → spaced (typed_text h.key_form key delim) (typed_text h.content_form content delim) ≡ r → pair_text (seen g) (k, c) ≡ r
pair_now h g key content delim k c r is key_is content_is delim_is own =
    subst (λ (x : Held). pair_text (seen x) (k, c) ≡ r) is
    (subst (λ (d : Text). spaced (typed_text h.key_form k d) (typed_text h.content_form c d) ≡ r) delim_is
    (subst (λ (b : Text). spaced (typed_text h.key_form k delim) (typed_text h.content_form b delim) ≡ r) content_is
    (subst (λ (b : Text). spaced (typed_text h.key_form b delim) (typed_text h.content_form content delim) ≡ r) key_is own)))

-- a record that no definition refuses
pub now_fits : (h g : Held) (key content delim k c a b : Text) → h ≡ g → a ≡ k → b ≡ c → key ≡ k → content ≡ c → delim ≡ h.settings.delim → misfit_of (datum_fault h.key_form a) (datum_fault h.content_form b) ≡ None
    → pair_text (seen g) (k, c) ≡ Ok (datum_text h.key_form key delim ++ 32 ∷ datum_text h.content_form content delim)
now_fits h g key content delim k c a b is a_is b_is key_is content_is delim_is none =
    let f = pair_fits h.key_form h.content_form a b delim none in
    pair_now h g key content delim k c _ is key_is content_is delim_is
    (pair_ok h.key_form h.content_form key content delim (subst (λ (x : Text). datum_fault h.key_form x ≡ None) (a_is ∙ sym key_is) f.0) (subst (λ (x : Text). datum_fault h.content_form x ≡ None) (b_is ∙ sym content_is) f.1))

pub now_misfits : (h g : Held) (k c a b : Text) (e : TypeError) → h ≡ g → a ≡ k → b ≡ c → misfit_of (datum_fault h.key_form a) (datum_fault h.content_form b) ≡ Some e → pair_text (seen g) (k, c) ≡ Err e
now_misfits h g k c a b e is a_is b_is error = pair_now h g a b h.settings.delim k c (Err e) is a_is b_is refl (pair_error h.key_form h.content_form a b h.settings.delim e error)

pub waits_from : (s : State) (pairs : List Pair) (reply : Reply) (old : Option Text) (a : Text) (new : Option Text) (b : Text) → a ≡ [] → (reply ≡ SinkFault → ⊥) → Lists s pairs reply old a new b → Waiting s pairs reply old [] new b
waits_from s pairs reply old a new b none other l = waits_by s pairs reply old [] new b other (subst (λ (x : Text). Lists s pairs reply old x new b) none l)

-- the cause of an answer that is no fault of the output
pub cause_by : (reply : Reply) (a b c d e : ℕ) → (reply ≡ SinkFault → ⊥) → IsListCause reply a b c d → IsListCause reply a b c e
cause_by Done a b c d e other h = h
cause_by (Typed x) a b c d e other h = h
cause_by SinkFault a b c d e other h = absurd (other refl)
cause_by (Refused x) a b c d e other h = h
cause_by Quit a b c d e other h = h

pub page_empty : (waits : Text) → (length waits == 0) ≡ true → waits ≡ []
page_empty [] is = refl
page_empty (b ∷ bs) is = absurd (let e : length (b ∷ bs) ≡ 0 = eqb-true (length (b ∷ bs)) 0 is in omega (arith, e))

pub page_some : (waits : Text) → (length waits == 0) ≡ false → waits ≢ []
page_some [] is = absurd (let no_ : true ≡ false = is in cc)
page_some (b ∷ bs) is = λ none. cc

pub sink_listed : (s : State) (pairs : List Pair) (reply : Reply) (old : Option Text) (a : Text) (new : Option Text) (b : Text) → reply ≡ SinkFault → a ≡ [] → Lists s pairs reply old a new b → Listed s pairs SinkFault old new
sink_listed s pairs reply old a new b is none l =
    subst (λ (x : Text). WritesFront old new (x ++ (list_row s pairs).text) × ((list_row s pairs).text ≢ [])) none (subst (λ (r : Reply). Lists s pairs r old a new b) is l)
