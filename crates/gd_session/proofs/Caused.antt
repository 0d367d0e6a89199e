-- Why commands were answered so.
use Rattle.std.proofs.Common.{◌≡◌, ◌≢◌, ◌⊎◌, inl, inr, ⊎_elim, ℕ, ◌≤◌, Bool, true, false, List, [], Option, Some, None, Result, Ok, Err, refl, sym, ap, subst, ◌∙◌, arith}
use Rattle.gd_base.specs.Causes.{Rose}
use Rattle.gd_base.specs.Streams.{WritesFront, and_then}
use Rattle.gd_base.specs.declared.errors.DbError.{DbError}
use Rattle.gd_base.specs.declared.errors.DbError.TheVariants.{ClockFault, NeedRecovery, NotOpen, OutOfMemory, ReaderCant, VaultFault}
use Rattle.gd_readable.specs.Asks as verify
use Rattle.gd_store.specs.Opened.{Opened}
use Rattle.gd_store.specs.declared.access.Access.{Access}
use Rattle.gd_store.specs.declared.access.Access.TheVariants.{Reader, Writer}
use Rattle.gd_types.specs.declared.errors.TypeError.{TypeError}
use Rattle.gd_vault.specs.Views.{View}
use Rattle.gd_session.specs.Calls.{Scene, scene}
use Rattle.gd_session.specs.Due.{Causes, Kind, RefusedEarly, access_due, ask_due, broken_due, changing, counting, moving, phase_due, write_due}
use Rattle.gd_session.specs.Openings.{FirstOf, IsOpeningCause, is_of_named}
use Rattle.gd_session.specs.Said.{Said, Shows}
use Rattle.gd_session.specs.State.{Db, Held, Phase, Text, db_of, phase_of, seen}
use Rattle.gd_session.specs.State.Phase.{Fresh, Open, Shut}
use Rattle.gd_session.specs.Texts.{line}
use Rattle.gd_session.specs.declared.phase.Phase as real
use Rattle.gd_session.specs.declared.phase.Phase.TheVariants as phases
use Rattle.gd_session.specs.declared.reply.Reply.{Reply}
use Rattle.gd_session.specs.declared.reply.Reply.TheVariants.{Done, Quit, Refused, SinkFault, Typed}
use Rattle.gd_session.proofs.Asked.{bool_cases}
use Rattle.gd_session.proofs.Changed.{access_cases}
use Rattle.gd_session.proofs.Saying.{rose_later}

-- ---- single answers

no_due : (old new : Scene) (r e : Reply) → None ≡ Some e → RefusedEarly e old new r
no_due old new r e is = absurd (let no_ : None ≡ Some e = is in cc)

pub caused_done : (k : Kind) (old new : Scene) → k.quits ≡ false → Causes None k old new Done
caused_done k old new quits = record {
  early = λ e is. no_due old new Done e is;
  shut = λ is. absurd (let no_ : Done ≡ Refused NotOpen = is in cc);
  vault = λ is. absurd (let no_ : Done ≡ Refused VaultFault = is in cc);
  clock = λ is. let no_ : Done ≡ Refused ClockFault = is in cc;
  out = λ is. absurd (let no_ : Done ≡ SinkFault = is in cc);
  typed = λ e is. absurd (let no_ : Done ≡ Typed e = is in cc);
  quit = λ is. absurd (let no_ : Done ≡ Quit = is in cc);
  quits = λ is. absurd (let no_ : false ≡ true = sym quits ∙ is in cc);
}

pub caused_sink : (k : Kind) (old new : Scene) → k.quits ≡ false → k.prints ≡ true → Rose old.failed new.failed → Causes None k old new SinkFault
caused_sink k old new quits prints rose = record {
  early = λ e is. no_due old new SinkFault e is;
  shut = λ is. absurd (let no_ : SinkFault ≡ Refused NotOpen = is in cc);
  vault = λ is. absurd (let no_ : SinkFault ≡ Refused VaultFault = is in cc);
  clock = λ is. let no_ : SinkFault ≡ Refused ClockFault = is in cc;
  out = λ is. (prints, rose);
  typed = λ e is. absurd (let no_ : SinkFault ≡ Typed e = is in cc);
  quit = λ is. absurd (let no_ : SinkFault ≡ Quit = is in cc);
  quits = λ is. absurd (let no_ : false ≡ true = sym quits ∙ is in cc);
}

pub caused_typed : (k : Kind) (old new : Scene) (x : TypeError) → k.quits ≡ false → k.types ≡ true → Causes None k old new (Typed x)
caused_typed k old new x quits types = record {
  early = λ e is. no_due old new (Typed x) e is;
  shut = λ is. absurd (let no_ : Typed x ≡ Refused NotOpen = is in cc);
  vault = λ is. absurd (let no_ : Typed x ≡ Refused VaultFault = is in cc);
  clock = λ is. let no_ : Typed x ≡ Refused ClockFault = is in cc;
  out = λ is. absurd (let no_ : Typed x ≡ SinkFault = is in cc);
  typed = λ e is. types;
  quit = λ is. absurd (let no_ : Typed x ≡ Quit = is in cc);
  quits = λ is. absurd (let no_ : false ≡ true = sym quits ∙ is in cc);
}

pub refused_same : (x y : DbError) → Refused x ≡ Refused y → x ≡ y
refused_same x y h = cc

not_of : (kinds : DbError → Bool) (x y : DbError) → kinds x ≡ true → kinds y ≡ false → Refused x ≡ Refused y → ⊥
not_of kinds x y kind none is =
    let no_ : true ≡ false = sym kind ∙ (ap kinds (refused_same x y is) ∙ none) in cc

-- an error of one of these kinds; a fault has its cause
pub caused_error : (k : Kind) (kinds : DbError → Bool) (old new : Scene) (x : DbError) → k.quits ≡ false → k.asks ≡ true → kinds x ≡ true → kinds NotOpen ≡ false → kinds ClockFault ≡ false
    → (x ≡ VaultFault → Rose old.view.faults new.view.faults) → Causes None k old new (Refused x)
caused_error k kinds old new x quits asks kind none clock rose = record {
  early = λ e is. no_due old new (Refused x) e is;
  shut = λ is. absurd (not_of kinds x NotOpen kind none is);
  vault = λ is. (asks, rose (refused_same x VaultFault is));
  clock = λ is. not_of kinds x ClockFault kind clock is;
  out = λ is. absurd (let no_ : Refused x ≡ SinkFault = is in cc);
  typed = λ e is. absurd (let no_ : Refused x ≡ Typed e = is in cc);
  quit = λ is. absurd (let no_ : Refused x ≡ Quit = is in cc);
  quits = λ is. absurd (let no_ : false ≡ true = sym quits ∙ is in cc);
}

pub rose_of : (fault refusal : Type 0) (x : DbError) → verify.Refuses x fault refusal → x ≡ VaultFault → fault
rose_of fault refusal x why is = subst (λ (y : DbError). verify.Refuses y fault refusal) is why

-- the errors that may be due by the session alone
abbrev pub is_early : DbError → Bool
is_early NotOpen = true
is_early NeedRecovery = true
is_early ReaderCant = true
is_early OutOfMemory = true
is_early e = false

-- the refusal that is due
pub caused_due : (due : Option Reply) (k : Kind) (old new : Scene) (x : DbError) → k.quits ≡ false → is_early x ≡ true → due ≡ Some (Refused x) → new ≡ old → Causes due k old new (Refused x)
caused_due due k old new x quits early is same = record {
  early = λ e own. record { reply = inl (let both : Some (Refused x) ≡ Some e = sym is ∙ own in cc); stays = same };
  shut = λ own. is ∙ ap Some own;
  vault = λ own. absurd (not_of is_early x VaultFault early refl own);
  clock = λ own. not_of is_early x ClockFault early refl own;
  out = λ own. absurd (let no_ : Refused x ≡ SinkFault = own in cc);
  typed = λ e own. absurd (let no_ : Refused x ≡ Typed e = own in cc);
  quit = λ own. absurd (let no_ : Refused x ≡ Quit = own in cc);
  quits = λ own. absurd (let no_ : false ≡ true = sym quits ∙ own in cc);
}

-- want of memory before anything happened
pub caused_starved : (due : Option Reply) (k : Kind) (old new : Scene) → k.quits ≡ false → new ≡ old → Causes due k old new (Refused OutOfMemory)
caused_starved due k old new quits same = record {
  early = λ e own. record { reply = inr refl; stays = same };
  shut = λ own. absurd (let no_ : Refused OutOfMemory ≡ Refused NotOpen = own in let bad : OutOfMemory ≡ NotOpen = refused_same OutOfMemory NotOpen no_ in cc);
  vault = λ own. absurd (let bad : OutOfMemory ≡ VaultFault = refused_same OutOfMemory VaultFault own in cc);
  clock = λ own. let bad : OutOfMemory ≡ ClockFault = refused_same OutOfMemory ClockFault own in cc;
  out = λ own. absurd (let no_ : Refused OutOfMemory ≡ SinkFault = own in cc);
  typed = λ e own. absurd (let no_ : Refused OutOfMemory ≡ Typed e = own in cc);
  quit = λ own. absurd (let no_ : Refused OutOfMemory ≡ Quit = own in cc);
  quits = λ own. absurd (let no_ : false ≡ true = sym quits ∙ own in cc);
}

-- want of memory of a command that changed nothing
pub caused_memory : (k : Kind) (old new : Scene) → k.quits ≡ false → Causes None k old new (Refused OutOfMemory)
caused_memory k old new quits = record {
  early = λ e is. no_due old new (Refused OutOfMemory) e is;
  shut = λ own. absurd (let bad : OutOfMemory ≡ NotOpen = refused_same OutOfMemory NotOpen own in cc);
  vault = λ own. absurd (let bad : OutOfMemory ≡ VaultFault = refused_same OutOfMemory VaultFault own in cc);
  clock = λ own. let bad : OutOfMemory ≡ ClockFault = refused_same OutOfMemory ClockFault own in cc;
  out = λ own. absurd (let no_ : Refused OutOfMemory ≡ SinkFault = own in cc);
  typed = λ e own. absurd (let no_ : Refused OutOfMemory ≡ Typed e = own in cc);
  quit = λ own. absurd (let no_ : Refused OutOfMemory ≡ Quit = own in cc);
  quits = λ own. absurd (let no_ : false ≡ true = sym quits ∙ own in cc);
}

-- the refusal of an argument
pub caused_words : (due : Option Reply) (k : Kind) (old new : Scene) (x : TypeError) → k.quits ≡ false → k.types ≡ true → due ≡ Some (Typed x) → new ≡ old → Causes due k old new (Typed x)
caused_words due k old new x quits types is same = record {
  early = λ e own. record { reply = inl (let both : Some (Typed x) ≡ Some e = sym is ∙ own in cc); stays = same };
  shut = λ own. absurd (let no_ : Typed x ≡ Refused NotOpen = own in cc);
  vault = λ own. absurd (let no_ : Typed x ≡ Refused VaultFault = own in cc);
  clock = λ own. let no_ : Typed x ≡ Refused ClockFault = own in cc;
  out = λ own. absurd (let no_ : Typed x ≡ SinkFault = own in cc);
  typed = λ e own. types;
  quit = λ own. absurd (let no_ : Typed x ≡ Quit = own in cc);
  quits = λ own. absurd (let no_ : false ≡ true = sym quits ∙ own in cc);
}

-- ---- by the phase

-- a cause where nothing is due is one where the due refusal is none
pub with_due : (due due' : Option Reply) (k : Kind) (old new : Scene) (r : Reply) → due' ≡ due → Causes due k old new r → Causes due' k old new r
with_due due due' k old new r is c = subst (λ (d : Option Reply). Causes d k old new r) (sym is) c

due_calm : (own : Db → Option Reply) (p : Phase) (db : Db) → p ≡ Open db → db.broken ≡ false → phase_due own p ≡ own db
due_calm own p db is calm = ap (phase_due own) is ∙ ap (λ (b : Bool). broken_due b (own db)) calm

due_broken : (own : Db → Option Reply) (p : Phase) (db : Db) → p ≡ Open db → db.broken ≡ true → phase_due own p ≡ Some (Refused NeedRecovery)
due_broken own p db is bad = ap (phase_due own) is ∙ ap (λ (b : Bool). broken_due b (own db)) bad

-- no database is open
pub shut_caused : (own : Db → Option Reply) (k : Kind) (old new : Scene) → k.quits ≡ false → old.state.phase ≡ Shut → new ≡ old → Causes (phase_due own old.state.phase) k old new (Refused NotOpen)
shut_caused own k old new quits phase same = caused_due (phase_due own old.state.phase) k old new NotOpen quits refl (ap (phase_due own) phase) same

-- the answer of an open database, which may be broken
pub open_caused : (own : Db → Option Reply) (k : Kind) (old new : Scene) (store : Opened) (r : Reply) → k.quits ≡ false → old.state.phase ≡ Open (db_of store)
    → (store.broken ≡ true → (r ≡ Refused NeedRecovery) × (new ≡ old)) → (store.broken ≡ false → Causes (own (db_of store)) k old new r) → Causes (phase_due own old.state.phase) k old new r
open_caused own k old new store r quits phase bad calm =
    ⊎_elim
    (λ (b : store.broken ≡ true).
    subst (λ (x : Reply). Causes (phase_due own old.state.phase) k old new x) (sym (bad b).0)
    (caused_due (phase_due own old.state.phase) k old new NeedRecovery quits refl (due_broken own old.state.phase (db_of store) phase b) (bad b).1))
    (λ (b : store.broken ≡ false). with_due (own (db_of store)) (phase_due own old.state.phase) k old new r (due_calm own old.state.phase (db_of store) phase b) (calm b))
    (bool_cases store.broken)

-- a change, by what the database was opened for
pub writes_caused : (k : Kind) (old new : Scene) (store : Opened) (r : Reply) → k.quits ≡ false
    → (store.access ≡ Reader → (r ≡ Refused ReaderCant) × (new ≡ old)) → (store.access ≡ Writer → Causes None k old new r) → Causes (write_due (db_of store)) k old new r
writes_caused k old new store r quits reader writer =
    ⊎_elim
    (λ (a : store.access ≡ Reader).
    subst (λ (x : Reply). Causes (write_due (db_of store)) k old new x) (sym (reader a).0)
    (caused_due (write_due (db_of store)) k old new ReaderCant quits refl (ap access_due a) (reader a).1))
    (λ (a : store.access ≡ Writer). with_due None (write_due (db_of store)) k old new r (ap access_due a) (writer a))
    (access_cases store.access)

-- ---- kinds and first openings

-- one kind has all that another one has
pub record Wider (k l : Kind) : Type 0 where
  pub asks : k.asks ≡ true → l.asks ≡ true
  pub prints : k.prints ≡ true → l.prints ≡ true
  pub types : k.types ≡ true → l.types ≡ true
  pub quit : k.quits ≡ true → l.quits ≡ true
  pub quits : l.quits ≡ true → k.quits ≡ true

pub caused_wider : (due : Option Reply) (k l : Kind) (old new : Scene) (r : Reply) → Wider k l → Causes due k old new r → Causes due l old new r
caused_wider due k l old new r w c = record {
  early = c.early;
  shut = c.shut;
  vault = λ is. (w.asks (c.vault is).0, (c.vault is).1);
  clock = c.clock;
  out = λ is. (w.prints (c.out is).0, (c.out is).1);
  typed = λ e is. w.types (c.typed e is);
  quit = λ is. w.quit (c.quit is);
  quits = λ is. c.quits (w.quits is);
}

pub moving_changing : Wider moving changing
moving_changing = record { asks = λ h. h; prints = λ h. h; types = λ h. refl; quit = λ h. h; quits = λ h. h }

pub moving_counting : Wider moving counting
moving_counting = record { asks = λ h. h; prints = λ h. refl; types = λ h. h; quit = λ h. h; quits = λ h. h }

-- what happened before raised no count of the output
pub caused_before : (due : Option Reply) (k : Kind) (h old new : Scene) (r : Reply) → h.view.faults ≤ old.view.faults → h.failed ≤ old.failed → (due ≡ Some (Refused NotOpen) → ⊥) → Causes due k old new r → Causes None k h new r
caused_before due k h old new r vault out open_ c = record {
  early = λ e is. no_due h new r e is;
  shut = λ is. absurd (open_ (c.shut is));
  vault = λ is. ((c.vault is).0, rose_later h.view.faults old.view.faults new.view.faults vault (c.vault is).1);
  clock = c.clock;
  out = λ is. ((c.out is).0, rose_later h.failed old.failed new.failed out (c.out is).1);
  typed = c.typed;
  quit = c.quit;
  quits = c.quits;
}

never_shut : (own : Db → Option Reply) (db : Db) (b : Bool) → (own db ≡ Some (Refused NotOpen) → ⊥) → broken_due b (own db) ≡ Some (Refused NotOpen) → ⊥
never_shut own db true other is = let both : Refused NeedRecovery ≡ Refused NotOpen = cc in let bad : NeedRecovery ≡ NotOpen = refused_same NeedRecovery NotOpen both in cc
never_shut own db false other is = other is

pub asks_open : (db : Db) → ask_due db ≡ Some (Refused NotOpen) → ⊥
asks_open db is = let no_ : None ≡ Some (Refused NotOpen) = is in cc

access_open : (a : Access) → access_due a ≡ Some (Refused NotOpen) → ⊥
access_open Reader is = let both : Refused ReaderCant ≡ Refused NotOpen = cc in let bad : ReaderCant ≡ NotOpen = refused_same ReaderCant NotOpen both in cc
access_open Writer is = let no_ : None ≡ Some (Refused NotOpen) = is in cc

pub writes_open : (db : Db) → write_due db ≡ Some (Refused NotOpen) → ⊥
writes_open db is = access_open db.access is

stayed : (own : Db → Option Reply) (k : Kind) (h g : Held) (u v : View) (w : Option Text) (f : ℕ) (new : Scene) (r : Reply) → g ≡ h → v ≡ u → Causes (phase_due own (seen g).phase) k (scene g v w f) new r → Causes (phase_due own (seen h).phase) k (scene h u w f) new r
stayed own k h g u v w f new r same view c =
    subst (λ (j : Held). Causes (phase_due own (seen j).phase) k (scene j u w f) new r) same (subst (λ (x : View). Causes (phase_due own (seen g).phase) k (scene g x w f) new r) view c)

-- the first opening was answered
pub first_caused : (own : Db → Option Reply) (k : Kind) (p : real.Phase) (h g : Held) (x : Unit {0}) (u v : View) (w : Option Text) (f : ℕ) (new : Scene) (r : Reply) → ((db : Db) → own db ≡ Some (Refused NotOpen) → ⊥) → h.phase ≡ p → FirstOf p h g (Ok x) u v
    → Causes (phase_due own (seen g).phase) k (scene g v w f) new r → Causes (phase_due own (seen h).phase) k (scene h u w f) new r
first_caused own k phases.Fresh h g x u v w f new r other is first c =
    let o = first.0 in
    let phase : (seen g).phase ≡ Open (db_of o) = ap (λ (j : Held). (seen j).phase) first.1 in
    with_due None (phase_due own (seen h).phase) k (scene h u w f) new r (ap (λ (q : real.Phase). phase_due own (phase_of q)) is)
    (caused_before (phase_due own (seen g).phase) k (scene h u w f) (scene g v w f) new r first.3 (omega arith)
    (λ bad. never_shut own (db_of o) o.broken (other (db_of o)) (sym (ap (phase_due own) phase) ∙ bad)) c)
first_caused own k (phases.Open store) h g x u v w f new r other is first c = stayed own k h g u v w f new r first.1 first.2 c
first_caused own k phases.Shut h g x u v w f new r other is first c = stayed own k h g u v w f new r first.1 first.2 c

abbrev pub is_named_cause : DbError → Bool
is_named_cause VaultFault = true
is_named_cause OutOfMemory = true
is_named_cause e = is_of_named e

named_kind : (fault : Type 0) (e : DbError) → verify.Refuses e fault (is_of_named e ≡ true) → is_named_cause e ≡ true
named_kind fault VaultFault why = refl
named_kind fault OutOfMemory why = refl
named_kind fault e why = why

pub opening_caused : (k : Kind) (old new : Scene) (e : DbError) → k.quits ≡ false → k.asks ≡ true → IsOpeningCause e old.view.faults new.view.faults → Causes None k old new (Refused e)
opening_caused k old new e quits asks why =
    caused_error k is_named_cause old new e quits asks (named_kind (Rose old.view.faults new.view.faults) e why) refl refl (rose_of (Rose old.view.faults new.view.faults) (is_of_named e ≡ true) e why)

-- the first opening was refused
pub first_refused : (own : Db → Option Reply) (k : Kind) (p : real.Phase) (h g : Held) (e : DbError) (u v : View) (w : Option Text) (f : ℕ) → k.quits ≡ false → k.asks ≡ true → h.phase ≡ p → FirstOf p h g (Err e) u v → IsOpeningCause e u.faults v.faults
    → Causes (phase_due own (seen h).phase) k (scene h u w f) (scene g v w f) (Refused e)
first_refused own k phases.Fresh h g e u v w f quits asks is first why =
    with_due None (phase_due own (seen h).phase) k (scene h u w f) (scene g v w f) (Refused e) (ap (λ (q : real.Phase). phase_due own (phase_of q)) is) (opening_caused k (scene h u w f) (scene g v w f) e quits asks why)
first_refused own k (phases.Open store) h g e u v w f quits asks is first why = absurd (let t : false ≡ true = first.0 in cc)
first_refused own k phases.Shut h g e u v w f quits asks is first why = absurd (let t : false ≡ true = first.0 in cc)

-- ---- commands that ask

pub said_caused : (k : Kind) (text : Text) (old new : Scene) (r : Reply) → k.quits ≡ false → k.prints ≡ true → Said text r old.written new.written old.failed new.failed → Causes None k old new r
said_caused k text old new r quits prints said =
    ⊎_elim
    (λ (h : (r ≡ Done) × (new.written ≡ and_then old.written text)). subst (λ (x : Reply). Causes None k old new x) (sym h.0) (caused_done k old new quits))
    (λ (h : (r ≡ SinkFault) × Rose old.failed new.failed × WritesFront old.written new.written text). subst (λ (x : Reply). Causes None k old new x) (sym h.0) (caused_sink k old new quits prints h.1))
    said

pub shows_caused : (k : Kind) (text : Result Text TypeError) (old new : Scene) (r : Reply) → k.quits ≡ false → k.prints ≡ true → k.types ≡ true → Shows text r old.written new.written old.failed new.failed → Causes None k old new r
shows_caused k (Ok text) old new r quits prints types shows = said_caused k (line text) old new r quits prints shows
shows_caused k (Err e) old new r quits prints types shows = subst (λ (x : Reply). Causes None k old new x) (sym shows.0) (caused_typed k old new e quits types)

-- a call that asks was answered
pub answered_caused : {A : Type 0} (k : Kind) (old new : Scene) (store : Opened) (r : Reply) (x : A) (result : Result A DbError) → result ≡ Ok x → k.quits ≡ false → old.state.phase ≡ Open (db_of store)
    → (store.broken ≡ true → result ≡ Err NeedRecovery) → Causes None k old new r → Causes (phase_due ask_due old.state.phase) k old new r
answered_caused k old new store r x result is quits phase bad c =
    open_caused ask_due k old new store r quits phase (λ b. absurd (let no_ : Ok x ≡ Err NeedRecovery = sym is ∙ bad b in cc)) (λ b. c)

-- a call that asks was refused
pub refused_caused : {A : Type 0} (k : Kind) (kinds : DbError → Bool) (old new : Scene) (store : Opened) (e : DbError) (result : Result A DbError) (refusal : Type 0) → result ≡ Err e → k.quits ≡ false → k.asks ≡ true → kinds NotOpen ≡ false → kinds ClockFault ≡ false
    → old.state.phase ≡ Open (db_of store) → (store.broken ≡ true → result ≡ Err NeedRecovery) → (store.broken ≡ true → new ≡ old)
    → (store.broken ≡ false → kinds e ≡ true) → (store.broken ≡ false → verify.Refuses e (Rose old.view.faults new.view.faults) refusal)
    → Causes (phase_due ask_due old.state.phase) k old new (Refused e)
refused_caused k kinds old new store e result refusal is quits asks none clock phase bad same kind why =
    open_caused ask_due k old new store (Refused e) quits phase
    (λ b. (let own : Err e ≡ Err NeedRecovery = sym is ∙ bad b in let x : e ≡ NeedRecovery = cc in ap Refused x, same b))
    (λ b. caused_error k kinds old new e quits asks (kind b) none clock (rose_of (Rose old.view.faults new.view.faults) refusal e (why b)))

pub scene_same : (g h : Held) (u v : View) (w : Option Text) (f : ℕ) → g ≡ h → v ≡ u → scene g v w f ≡ scene h u w f
scene_same g h u v w f same view = λ i. scene (same i) (view i) w f

-- ---- commands that change the map

pub change_answered : {A : Type 0} (k : Kind) (old new : Scene) (store : Opened) (x : A) (result : Result A DbError) → result ≡ Ok x → k.quits ≡ false → old.state.phase ≡ Open (db_of store)
    → (store.broken ≡ true → result ≡ Err NeedRecovery) → (store.broken ≡ false → store.access ≡ Reader → result ≡ Err ReaderCant) → Causes (phase_due write_due old.state.phase) k old new Done
change_answered k old new store x result is quits phase bad reader =
    open_caused write_due k old new store Done quits phase (λ b. absurd (let no_ : Ok x ≡ Err NeedRecovery = sym is ∙ bad b in cc))
    (λ b. writes_caused k old new store Done quits (λ a. absurd (let no_ : Ok x ≡ Err ReaderCant = sym is ∙ reader b a in cc)) (λ a. caused_done k old new quits))

same_error : {A : Type 0} (result : Result A DbError) (e x : DbError) → result ≡ Err e → result ≡ Err x → e ≡ x
same_error result e x is own = let both : Err e ≡ Err x = sym is ∙ own in cc

pub change_refused : {A : Type 0} (k : Kind) (kinds : DbError → Bool) (old new : Scene) (store : Opened) (e : DbError) (result : Result A DbError) (refusal : Type 0) → result ≡ Err e → k.quits ≡ false → k.asks ≡ true → kinds NotOpen ≡ false → kinds ClockFault ≡ false
    → old.state.phase ≡ Open (db_of store) → (store.broken ≡ true → result ≡ Err NeedRecovery) → (store.broken ≡ true → new ≡ old)
    → (store.broken ≡ false → store.access ≡ Reader → result ≡ Err ReaderCant) → (store.broken ≡ false → store.access ≡ Reader → new ≡ old)
    → (store.broken ≡ false → store.access ≡ Writer → kinds e ≡ true) → (store.broken ≡ false → store.access ≡ Writer → verify.Refuses e (Rose old.view.faults new.view.faults) refusal)
    → Causes (phase_due write_due old.state.phase) k old new (Refused e)
change_refused k kinds old new store e result refusal is quits asks none clock phase bad same reader same_reader kind why =
    open_caused write_due k old new store (Refused e) quits phase
    (λ b. (ap Refused (same_error result e NeedRecovery is (bad b)), same b))
    (λ b. writes_caused k old new store (Refused e) quits
    (λ a. (ap Refused (same_error result e ReaderCant is (reader b a)), same_reader b a))
    (λ a. caused_error k kinds old new e quits asks (kind b a) none clock (rose_of (Rose old.view.faults new.view.faults) refusal e (why b a))))
