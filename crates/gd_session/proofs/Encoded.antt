-- Answers of commands whose arguments are typed.
use Rattle.std.proofs.Common.{◌≡◌, ◌≢◌, ◌⊎◌, inl, inr, ⊎_elim, ℕ, Bool, true, false, List, [], Option, Some, None, Result, Ok, Err, refl, sym, ap, subst, ◌∙◌, arith}
use Rattle.gd_base.proofs.Writes.{put-nothing}
use Rattle.gd_base.specs.declared.errors.DbError.TheVariants as db
use Rattle.gd_base.specs.declared.errors.DbError.TheVariants.{ClockFault, NotOpen, VaultFault}
use Rattle.gd_session.specs.Answers.{Answer, Ending, Prints, Replies, Starves}
use Rattle.gd_session.specs.Calls.{Answered, Answers, AnswersWith, Clocked, Scene, answer_in, unasked, words_reply}
use Rattle.gd_session.specs.Due.{CausedBy, Causes, Kind, ending, phase_due, set_kind, silent, telling, typed_due}
use Rattle.gd_session.specs.Requests.{IsProperRequest, keyed_due, keyed_kind, keyed_request, own_due, request_kind, request_row}
use Rattle.gd_session.specs.Rows.{Alone, Asks, FirstFails, FirstOpened, FirstRefused, InPhase, Needs, OrBroken, Row, Whole, next_row, WithBytes, WithContent, WithKey, done, set_row, version_row, with_setting}
use Rattle.gd_session.specs.Said.{Said, Sets}
use Rattle.gd_session.specs.State.{Db, Phase, State, Text, at_phase}
use Rattle.gd_session.specs.State.Phase.{Fresh, Open, Shut}
use Rattle.gd_session.specs.Texts.{variables_text, version_text}
use Rattle.gd_session.specs.declared.settings.Settings.{Settings}
use Rattle.gd_session.specs.declared.reply.Reply.{Reply}
use Rattle.gd_session.specs.declared.reply.Reply.TheVariants.{Done, Quit, Refused, SinkFault}
use Rattle.gd_session.specs.declared.reply.Reply.TheVariants as replies
use Rattle.gd_session.specs.declared.request.Keyed.{Keyed}
use Rattle.gd_session.specs.declared.request.Keyed.TheVariants as keyed
use Rattle.gd_session.specs.declared.request.Request.{Request}
use Rattle.gd_session.specs.declared.request.Request.TheVariants as requests
use Rattle.gd_types.specs.Encoding.{Refuses, typed_bytes}
use Rattle.gd_types.specs.declared.errors.EncodeError.{EncodeError}
use Rattle.gd_types.specs.declared.errors.EncodeError.TheVariants.{Typed, OutOfMemory}
use Rattle.gd_types.specs.declared.errors.TypeError.{TypeError}
use Rattle.gd_vault.specs.Content.{Content}
use Rattle.gd_vault.specs.Views.{OnlyAsks, View, content_of}
use Rattle.gd_session.proofs.Asked as asked
use Rattle.gd_session.proofs.Asked.{nothing_asked, quiet, quiet_answer, shown_prints}
use Rattle.gd_session.proofs.Caused.{asks_open, caused_done, caused_memory, caused_starved, caused_words, said_caused, with_due, writes_open}
use Rattle.gd_session.proofs.Saying.{said_shown}
use Rattle.gd_lang.specs.declared.commands.Command.{Command}
use Rattle.gd_lang.specs.declared.commands.Setting.{Setting}
use Rattle.gd_session.specs.Step.{Stepped, step}

-- an answer of one row is one of another
pub answers_map : (row row' : Row) (old new : Scene) (r : Reply) → ((a : Answer) → a.old ≡ old.state → row a → row' a) → Answers row old new r → Answers row' old new r
answers_map row row' old new r f h = λ k on c told.
    let a = h k on c told in
    record { text = a.text; after = a.after; told = a.told; written = a.written; is = f (answer_in old new k c r a.text a.after) refl a.is }

pub answers_with : (row row' : Row) (old new : Scene) (n : ℕ) (r : Reply) → ((a : Answer) → row a → row' a) → Answers row old new r → AnswersWith row' old new (unasked n) r
answers_with row row' old new n r f h = λ c told.
    let a = h (unasked n) (omega arith) c told in
    record { text = a.text; after = a.after; told = a.told; written = a.written; is = f (answer_in old new (unasked n) c r a.text a.after) a.is }

with_bytes : (typed_is : Result (List ℕ) TypeError) (bytes : List ℕ) (row : List ℕ → Row) (a : Answer) → typed_is ≡ Ok bytes → row bytes a → WithBytes typed_is row a
with_bytes typed_is bytes row a is h = subst (λ (t : Result (List ℕ) TypeError). WithBytes t row a) (sym is) h

pub with_key : (words : List (List ℕ)) (key : List ℕ) (row : List ℕ → Row) (old new : Scene) (r : Reply) → typed_bytes old.state.key_form words ≡ Ok key → Answers (row key) old new r → Answers (WithKey words row) old new r
with_key words key row old new r is h =
    answers_map (row key) (WithKey words row) old new r
    (λ a own x. inl (with_bytes (typed_bytes a.old.key_form words) key row a (ap (λ (s : State). typed_bytes s.key_form words) own ∙ is) x)) h

pub with_content : (words : List (List ℕ)) (content : List ℕ) (row : List ℕ → Row) (old new : Scene) (r : Reply) → typed_bytes old.state.content_form words ≡ Ok content → Answers (row content) old new r → Answers (WithContent words row) old new r
with_content words content row old new r is h =
    answers_map (row content) (WithContent words row) old new r
    (λ a own x. inl (with_bytes (typed_bytes a.old.content_form words) content row a (ap (λ (s : State). typed_bytes s.content_form words) own ∙ is) x)) h

refused_words : (e : EncodeError) (typed_is : Result (List ℕ) TypeError) (row : List ℕ → Row) (a : Answer) → Refuses e typed_is → Replies (words_reply e) a → WithBytes typed_is row a ⊎ Starves a
refused_words (Typed e) typed_is row a is h = inl (subst (λ (t : Result (List ℕ) TypeError). WithBytes t row a) (sym is) (inl h))
refused_words OutOfMemory typed_is row a is h = inr h

pub key_refused : (words : List (List ℕ)) (e : EncodeError) (row : List ℕ → Row) (old new : Scene) (r : Reply) → r ≡ words_reply e → Refuses e (typed_bytes old.state.key_form words)
    → OnlyAsks old.view new.view → new.written ≡ old.written → new.state ≡ old.state → Answers (WithKey words row) old new r
key_refused words e row old new r is refuses asks written state =
    quiet_answer (WithKey words row) old new r asks written (λ k c told.
    refused_words e (typed_bytes old.state.key_form words) row (quiet old new k c r) refuses (subst (λ (x : Reply). Replies x (quiet old new k c r)) is (asked.replies old new k c r state)))

pub content_refused : (words : List (List ℕ)) (e : EncodeError) (row : List ℕ → Row) (old new : Scene) (r : Reply) → r ≡ words_reply e → Refuses e (typed_bytes old.state.content_form words)
    → OnlyAsks old.view new.view → new.written ≡ old.written → new.state ≡ old.state → Answers (WithContent words row) old new r
content_refused words e row old new r is refuses asks written state =
    quiet_answer (WithContent words row) old new r asks written (λ k c told.
    refused_words e (typed_bytes old.state.content_form words) row (quiet old new k c r) refuses (subst (λ (x : Reply). Replies x (quiet old new k c r)) is (asked.replies old new k c r state)))

-- ---- the step

-- the answer of a command's row is its step
pub answered_as : (command kind : Command) (old new : Scene) (n : ℕ) (r : Reply) → command ≡ kind → Answers (step kind) old new r → AnswersWith (Stepped command) old new (unasked n) r
answered_as command kind old new n r is h =
    answers_with (step kind) (Stepped command) old new n r (λ a x. record { is = subst (λ (x : Command). step x a) (sym is) x }) h

-- a command that changes nothing
pub stays_as : (command kind : Command) (s : Scene) (n : ℕ) (r : Reply) → command ≡ kind → ((a : Answer) → Replies r a → step kind a) → AnswersWith (Stepped command) s s (unasked n) r
stays_as command kind s n r is f =
    answers_with (Replies r) (Stepped command) s s n r (λ a x. record { is = subst (λ (x : Command). step x a) (sym is) (f a x) })
    (quiet_answer (Replies r) s s r (nothing_asked s.view) refl (λ j c told. asked.replies s s j c r refl))

-- ---- causes

pub typed_caused : (t : Result (List ℕ) TypeError) (bytes : List ℕ) (rest : Option Reply) (k : Kind) (old new : Scene) (r : Reply) → t ≡ Ok bytes → Causes rest k old new r → Causes (typed_due t rest) k old new r
typed_caused t bytes rest k old new r is c = with_due rest (typed_due t rest) k old new r (ap (λ (x : Result (List ℕ) TypeError). typed_due x rest) is) c

words_refused : (t : Result (List ℕ) TypeError) (rest : Option Reply) (k : Kind) (old new : Scene) (e : EncodeError) → Refuses e t → k.quits ≡ false → k.types ≡ true → new ≡ old → Causes (typed_due t rest) k old new (words_reply e)
words_refused t rest k old new (Typed e) is quits types same = caused_words (typed_due t rest) k old new e quits types (ap (λ (x : Result (List ℕ) TypeError). typed_due x rest) is) same
words_refused t rest k old new OutOfMemory is quits types same = caused_starved (typed_due t rest) k old new quits same

pub words_caused : (t : Result (List ℕ) TypeError) (rest : Option Reply) (k : Kind) (old new : Scene) (e : EncodeError) (r : Reply) → r ≡ words_reply e → Refuses e t → k.quits ≡ false → k.types ≡ true → new ≡ old → Causes (typed_due t rest) k old new r
words_caused t rest k old new e r is refuses quits types same = subst (λ (x : Reply). Causes (typed_due t rest) k old new x) (sym is) (words_refused t rest k old new e refuses quits types same)

-- ---- requests

pub request_as : (request kind : Request) (old new : Scene) (r : Reply) → request ≡ kind → Answers (Needs (request_row kind)) old new r → Answers (Needs (request_row request)) old new r
request_as request kind old new r is h = subst (λ (x : Request). Answers (Needs (request_row x)) old new r) (sym is) h

pub request_caused : (request kind : Request) (p : Phase) (old new : Scene) (r : Reply) → request ≡ kind → Causes (phase_due (own_due kind) p) (request_kind kind) old new r → Causes (phase_due (own_due request) p) (request_kind request) old new r
request_caused request kind p old new r is h = subst (λ (x : Request). Causes (phase_due (own_due x) p) (request_kind x) old new r) (sym is) h

pub own_open : (request : Request) (db : Db) → own_due request db ≡ Some (Refused NotOpen) → ⊥
own_open (requests.Store how key content) db is = writes_open db is
own_open (requests.Delete key) db is = writes_open db is
own_open (requests.Fill start n) db is = writes_open db is
own_open requests.Count db is = asks_open db is
own_open (requests.Fetch key) db is = asks_open db is
own_open requests.First db is = asks_open db is
own_open (requests.Next key) db is = asks_open db is
own_open requests.List db is = asks_open db is

pub request_quits : (request : Request) → (request_kind request).quits ≡ false
request_quits requests.Count = refl
request_quits (requests.Store how key content) = refl
request_quits (requests.Delete key) = refl
request_quits (requests.Fill start n) = refl
request_quits request = refl

pub request_asks : (request : Request) → (request_kind request).asks ≡ true
request_asks requests.Count = refl
request_asks (requests.Store how key content) = refl
request_asks (requests.Delete key) = refl
request_asks (requests.Fill start n) = refl
request_asks request = refl

pub keyed_quits : (k : Keyed) → (keyed_kind k).quits ≡ false
keyed_quits keyed.Fetch = refl
keyed_quits keyed.Next = refl
keyed_quits keyed.Delete = refl

pub keyed_types : (k : Keyed) → (keyed_kind k).types ≡ true
keyed_types keyed.Fetch = refl
keyed_types keyed.Next = refl
keyed_types keyed.Delete = refl

pub keyed_answer : (request kind : Request) (old new : Scene) (r : Reply) → request ≡ kind → Answers (Needs (request_row request)) old new r → Answers (Needs (request_row kind)) old new r
keyed_answer request kind old new r is h = subst (λ (x : Request). Answers (Needs (request_row x)) old new r) is h

keyed_caused_as : (k : Keyed) (key : List ℕ) (p : Phase) (old new : Scene) (r : Reply) → Causes (phase_due (own_due (keyed_request k key)) p) (request_kind (keyed_request k key)) old new r → Causes (phase_due (keyed_due k) p) (keyed_kind k) old new r
keyed_caused_as keyed.Fetch key p old new r h = h
keyed_caused_as keyed.Next key p old new r h = h
keyed_caused_as keyed.Delete key p old new r h = h

pub keyed_caused : (k : Keyed) (request : Request) (key : List ℕ) (p : Phase) (old new : Scene) (r : Reply) → request ≡ keyed_request k key → Causes (phase_due (own_due request) p) (request_kind request) old new r → Causes (phase_due (keyed_due k) p) (keyed_kind k) old new r
keyed_caused k request key p old new r is h = keyed_caused_as k key p old new r (subst (λ (x : Request). Causes (phase_due (own_due x) p) (request_kind x) old new r) is h)

pub keyed_proper : (k : Keyed) (request : Request) (key : List ℕ) → request ≡ keyed_request k key → IsProperRequest request
keyed_proper keyed.Fetch request key is = subst (λ (x : Request). IsProperRequest x) (sym is) tt
keyed_proper keyed.Next request key is = subst (λ (x : Request). IsProperRequest x) (sym is) tt
keyed_proper keyed.Delete request key is = subst (λ (x : Request). IsProperRequest x) (sym is) tt

-- ---- the record after the key last printed

next_whole : (b : Bool) (db : Db) (a : Answer) → OrBroken b (Asks (next_row a.old.last) db) a → OrBroken b (λ (x : Answer). Asks (next_row x.old.last) db x) a
next_whole true db a h = h
next_whole false db a h = h

next_first : (a : Answer) → FirstOpened (Whole (Asks (next_row a.old.last))) a → FirstOpened (Whole (λ (db : Db) (x : Answer). Asks (next_row x.old.last) db x)) a
next_first a h = record {
  db = h.db;
  mid = h.mid;
  opens = h.opens;
  counted = h.counted;
  later = h.later;
  rest = next_whole h.db.broken h.db (record a { old = at_phase a.old (Open h.db); before = h.mid; counted = h.counted }) h.rest;
}

next_phase : (p : Phase) (a : Answer) → InPhase p (Whole (Asks (next_row a.old.last))) a → InPhase p (Whole (λ (db : Db) (x : Answer). Asks (next_row x.old.last) db x)) a
next_phase Shut a h = h
next_phase (Open db) a h = next_whole db.broken db a h
next_phase Fresh a h = ⊎_elim (λ (x : FirstFails a). inl x) (λ (y : _). ⊎_elim (λ (x : FirstRefused a). inr (inl x)) (λ (x : _). inr (inr (next_first a x))) y) h

pub next_answer : (old new : Scene) (r : Reply) → Answers (Needs (Asks (next_row old.state.last))) old new r → Answers (Needs (request_row (requests.Next None))) old new r
next_answer old new r h =
    answers_map (Needs (Asks (next_row old.state.last))) (Needs (request_row (requests.Next None))) old new r
    (λ a own x. next_phase a.old.phase a (subst (λ (s : State). Needs (Asks (next_row s.last)) a) (sym own) x)) h

-- ---- commands

pub caused_as : (command kind : Command) (old new : Scene) (r : Reply) → command ≡ kind → CausedBy kind old new r → CausedBy command old new r
caused_as command kind old new r is h = subst (λ (x : Command). CausedBy x old new r) (sym is) h

pub caused_quit : (s : Scene) → Causes None ending s s Quit
caused_quit s = record {
  early = λ e is. absurd (let no_ : None ≡ Some e = is in cc);
  shut = λ is. absurd (let no_ : Quit ≡ Refused NotOpen = is in cc);
  vault = λ is. absurd (let no_ : Quit ≡ Refused VaultFault = is in cc);
  clock = λ is. let no_ : Quit ≡ Refused ClockFault = is in cc;
  out = λ is. absurd (let no_ : Quit ≡ SinkFault = is in cc);
  typed = λ e is. absurd (let no_ : Quit ≡ replies.Typed e = is in cc);
  quit = λ is. refl;
  quits = λ is. refl;
}

-- a text that was said, of a command that needs no database
pub alone_said : (row : State → Ending) (text : Text) (old new : Scene) (r : Reply) → row old.state ≡ done old.state text → text ≢ [] → new.view ≡ old.view → new.state ≡ old.state → Said text r old.written new.written old.failed new.failed → Answers (Alone row) old new r
alone_said row text old new r is some view state said = λ k on c told.
    let s = said_shown old.state old.state text old new r said state refl some in
    record {
      text = s.text;
      after = c;
      told = ap (λ (v : View). content_of v.told) view ∙ told;
      written = s.written;
      is = inl (subst (λ (e : Ending). Prints e (answer_in old new k c r s.text c)) (sym is) (shown_prints (done old.state text) old new k c r s));
    }

pub alone_set : (setting : Setting) (old new : Scene) (r : Reply) → new.view ≡ old.view → new.written ≡ old.written → Sets setting old.state new.state r → Answers (Alone (set_row (Some setting))) old new r
alone_set setting old new r view written sets = λ k on c told.
    record {
      text = [];
      after = c;
      told = ap (λ (v : View). content_of v.told) view ∙ told;
      written = written ∙ put-nothing old.written;
      is = ⊎_elim
          (λ (h : (r ≡ Done) × (new.state ≡ with_setting old.state setting)). inl (inl (record { reply = h.0; text = refl; session = h.1; content = refl })))
          (λ (h : (r ≡ Refused db.OutOfMemory) × (new.state ≡ old.state)). inr (record { reply = h.0; stays = record { session = h.1; content = refl; text = refl } }))
          sets;
    }

pub set_caused : (setting : Setting) (old new : Scene) (r : Reply) → Sets setting old.state new.state r → Causes None silent old new r
set_caused setting old new r sets =
    ⊎_elim
    (λ (h : (r ≡ Done) × (new.state ≡ with_setting old.state setting)). subst (λ (x : Reply). Causes None silent old new x) (sym h.0) (caused_done silent old new refl))
    (λ (h : (r ≡ Refused db.OutOfMemory) × (new.state ≡ old.state)). subst (λ (x : Reply). Causes None silent old new x) (sym h.0) (caused_memory silent old new refl))
    sets

pub version_answer : (old new : Scene) (r : Reply) → new.view ≡ old.view → new.state ≡ old.state → Said version_text r old.written new.written old.failed new.failed → Answers (Alone version_row) old new r
version_answer old new r view state said = alone_said version_row version_text old new r refl (λ e. cc) view state said

pub version_caused : (old new : Scene) (r : Reply) → Said version_text r old.written new.written old.failed new.failed → Causes None telling old new r
version_caused old new r said = said_caused telling version_text old new r refl refl said

-- ---- variables

variables_some : (s : Settings) → variables_text s ≢ []
unfolding variables_text
variables_some s = λ e. cc

pub set_said : (o : Option Setting) (text : Text) (old new : Scene) (r : Reply) → o ≡ None → text ≡ variables_text old.state.settings → new.view ≡ old.view → new.state ≡ old.state → Said text r old.written new.written old.failed new.failed → Answers (Alone (set_row o)) old new r
set_said o text old new r is text_is view state said =
    subst (λ (x : Option Setting). Answers (Alone (set_row x)) old new r) (sym is)
    (alone_said (set_row None) (variables_text old.state.settings) old new r refl (variables_some old.state.settings) view state (subst (λ (t : Text). Said t r old.written new.written old.failed new.failed) text_is said))

pub set_said_caused : (o : Option Setting) (text : Text) (old new : Scene) (r : Reply) → o ≡ None → Said text r old.written new.written old.failed new.failed → Causes None (set_kind o) old new r
set_said_caused o text old new r is said = subst (λ (x : Option Setting). Causes None (set_kind x) old new r) (sym is) (said_caused telling text old new r refl refl said)

pub set_changed : (o : Option Setting) (setting : Setting) (old new : Scene) (r : Reply) → o ≡ Some setting → new.view ≡ old.view → new.written ≡ old.written → Sets setting old.state new.state r → Answers (Alone (set_row o)) old new r
set_changed o setting old new r is view written sets = subst (λ (x : Option Setting). Answers (Alone (set_row x)) old new r) (sym is) (alone_set setting old new r view written sets)

pub set_changed_caused : (o : Option Setting) (setting : Setting) (old new : Scene) (r : Reply) → o ≡ Some setting → Sets setting old.state new.state r → Causes None (set_kind o) old new r
set_changed_caused o setting old new r is sets = subst (λ (x : Option Setting). Causes None (set_kind x) old new r) (sym is) (set_caused setting old new r sets)
