-- The parts of a load, one after another.
use Rattle.std.proofs.Common.{◌≡◌, ◌∙◌, ap, sym, subst, refl, ℕ, zero, suc, ◌+◌, ◌-◌, ◌^◌, ◌≤◌, Bool, true, false, List, [], ◌++◌, length, take, drop, Option, Some, None, Result, Ok, Err, arith}
use Rattle.std.specs.Prelude.{if◌then◌else◌, option_map}
use Rattle.std.proofs.lemmas.List.{append_assoc, length-append}
use Rattle.gd_base.specs.declared.errors.DbError.{DbError}
use Rattle.gd_base.specs.declared.errors.DbError.TheVariants.{OutOfMemory}
use Rattle.gd_dump_reading.specs.Readers.{left_by, taken_by}
use Rattle.gd_dump_reading.specs.Told.{EndBehind, NoneEnds, Told, given}
use Rattle.gd_dump_reading.specs.declared.items.DumpHead.{DumpHead}
use Rattle.gd_dump_reading.specs.declared.items.Item.TheVariants.{Head}
use Rattle.gd_dump_reading.specs.declared.machine.Machine.{Ghosts}
use Rattle.gd_load.specs.Front.{dump_told, front_ended, front_left, front_read, front_stop, front_taken}
use Rattle.gd_load.specs.Items.{EndsWith, MayCome, ReadOn, incoming_left}
use Rattle.gd_load.specs.declared.front.Begun.{Begun}
use Rattle.gd_load.specs.declared.front.Front.{Front}
use Rattle.gd_load.specs.declared.front.Front.TheVariants.{Ascii, Binary}
use Rattle.gd_load.specs.declared.incoming.Incoming.{Incoming}
use Rattle.gd_load.specs.declared.incoming.Stop.TheVariants.{Refused, InputFailed, TooLong, Starved}
use Rattle.gd_loading.specs.Load.{Entered, HeadThen, LoadsBy, NamedFor, PairsLeft, PairsRead, Poured, PouredBy, PouredFront, Ran, Scene, ends_by, is_memory}
use Rattle.gd_loading.specs.Loads.{AllTaken, Bytes, CausedBy, IsLoading, LeftAfter, Loads, LoadsOn, NoneAfter, Reached, behind, given_behind, whole}
use Rattle.gd_loading.specs.declared.loading.LoadEnd.{LoadEnd}
use Rattle.gd_loading.specs.declared.loading.LoadEnd.TheVariants as ends
use Rattle.gd_loading.specs.declared.loading.Plan.{Plan}
use Rattle.gd_loading.specs.declared.taking.Ending.{Ending}
use Rattle.gd_loading.specs.declared.taking.Ending.TheVariants.{Dump, Db}
use Rattle.gd_loading.proofs.Rounds.{told-then}
use Rattle.gd_store.specs.Opened.{Opened}
use Rattle.gd_store.specs.declared.access.How.{How}
use Rattle.gd_base.specs.declared.errors.Format.{Format}
use Rattle.gd_vault.specs.Content.{Content}
use Rattle.gd_vault.specs.declared.vaults.FileId.{FileId}
use Rattle.gd_vault.specs.Views.{View}

pub front-poured : (how : How) (s : Opened) (front kind : Front) (old new : Scene) (end : LoadEnd) → front ≡ kind → PouredFront how s kind old new end → PouredFront how s front old new end
front-poured how s front kind old new end is h = subst (λ (x : Front). PouredFront how s x old new end) (sym is) h

pub named-for : (e : DbError) (meant : Option Bytes) (text : Bytes) → meant ≡ Some text → NamedFor e meant text
named-for OutOfMemory meant text is = tt
named-for e meant text is = is

may-then : (was : Bool) (b rest : Bytes) (now : Bool) → (was ≡ true → (b ≡ []) × (now ≡ true)) → MayCome now rest → MayCome was (b ++ rest)
may-then was b rest now stays may = λ ended. let h = stays ended in ap (λ (x : Bytes). x ++ rest) h.0 ∙ may h.1

-- what is told behind the head, by what was read before it and behind it
told-on : (told0 : Bytes → Told) (h : DumpHead) (place : ℕ) (a b : Bytes) (was now : Bool) → ((rest : Bytes) → MayCome was rest → dump_told (a ++ rest) ≡ given (Head h) place (told0 rest)) → (was ≡ true → (b ≡ []) × (now ≡ true))
    → (rest : Bytes) → MayCome now rest → dump_told ((a ++ b) ++ rest) ≡ given (Head h) place (told0 (b ++ rest))
told-on told0 h place a b was now came stays rest may = ap dump_told (append_assoc a b rest) ∙ came (b ++ rest) (may-then was b rest now stays may)

take-none : (n : ℕ) (xs : Bytes) → n ≡ 0 → take n xs ≡ []
take-none zero xs is = refl
take-none (suc n) xs is = absurd (omega (arith, is))

none-left-now : {M : Type 0} {g : Ghosts M} (now : Incoming M g) → AllTaken now → NoneEnds (incoming_left now) (taken_by g.taken now.reader)
none-left-now {g = g} now all = λ rest some. subst (λ (t : Bytes). EndBehind (taken_by g.taken now.reader) (left_by g.left now.reader (t ++ rest)).items) (sym (take-none (now.end - now.at) (drop now.at now.page) (let e = all.0 in omega (arith, e)))) (all.2 rest some)

pairs-read : {M : Type 0} {g : Ghosts M} (wrap : Incoming M g → Front) → ((i : Incoming M g) → front_left (wrap i) ≡ incoming_left i) → ((i : Incoming M g) → front_taken (wrap i) ≡ taken_by g.taken i.reader) → ((i : Incoming M g) → front_stop (wrap i) ≡ i.reader.stop)
    → (how : How) (f : ℕ) (u v : View) (i now : Incoming M g) (h : DumpHead) (place : ℕ) (a b : Bytes)
    → ((rest : Bytes) → MayCome i.ended rest → dump_told (a ++ rest) ≡ given (Head h) place (incoming_left i rest)) → i.read ≡ length a → (i.ended ≡ true → (b ≡ []) × (now.ended ≡ true))
    → Reached how f u v i now b → AllTaken now → PairsRead h place how f u v (a ++ b)
pairs-read {g = g} wrap left taken stop how f u v i now h place a b came read stays r all =
    let lens = length-append a b in
    let size : now.read ≡ length (a ++ b) = (let n = r.read in omega (arith, n, read, lens)) in
    record {
      pairs = r.on.pairs;
      stored = r.on.stored;
      front = wrap now;
      behind = λ more.
          let may : MayCome now.ended more = λ (ended : now.ended ≡ true). absurd (let no : true ≡ false = sym ended ∙ all.1 in cc) in (
            incoming_left i (b ++ more),
            told-on (incoming_left i) h place a b i.ended now.ended came stays more may,
            r.on.is more may ∙ ap (λ (t : Bytes → Told). behind r.on.pairs (whole (t more))) (sym (left now)),
          );
      none = subst (λ (t : Bytes → Told). NoneEnds t (length (a ++ b))) (sym (left now)) (subst (λ (n : ℕ). NoneEnds (incoming_left now) n) (all.3 ∙ size) (none-left-now now all));
      taken = taken now ∙ all.3 ∙ size;
      going = stop now ∙ all.4;
    }

pairs-left : {M : Type 0} {g : Ghosts M} (wrap : Incoming M g → Front) → ((i : Incoming M g) → front_left (wrap i) ≡ incoming_left i) → ((i : Incoming M g) → front_taken (wrap i) ≡ taken_by g.taken i.reader) → ((i : Incoming M g) → front_stop (wrap i) ≡ i.reader.stop)
    → (how : How) (f : ℕ) (u v : View) (i now : Incoming M g) (h : DumpHead) (place : ℕ) (a b : Bytes) (r : Result (Unit {0}) Ending)
    → ((rest : Bytes) → MayCome i.ended rest → dump_told (a ++ rest) ≡ given (Head h) place (incoming_left i rest)) → i.read ≡ length a → (i.ended ≡ true → (b ≡ []) × (now.ended ≡ true))
    → LeftAfter how f u v i now b r → NoneAfter now r → PairsLeft r h place how f u v (a ++ b)
pairs-left wrap left taken stop how f u v i now h place a b (Ok x) came read stays r all = tt
pairs-left wrap left taken stop how f u v i now h place a b (Err (Db e)) came read stays r all = tt
pairs-left wrap left taken stop how f u v i now h place a b (Err (Dump (Refused kind at))) came read stays r all = tt
pairs-left wrap left taken stop how f u v i now h place a b (Err (Dump Starved)) came read stays r all = tt
pairs-left wrap left taken stop how f u v i now h place a b (Err (Dump InputFailed)) came read stays r all = pairs-read wrap left taken stop how f u v i now h place a b came read stays r all
pairs-left wrap left taken stop how f u v i now h place a b (Err (Dump TooLong)) came read stays r all = pairs-read wrap left taken stop how f u v i now h place a b came read stays r all

-- what comes of the pairs and the closing, over all that was read
pub record Out (how : How) (h : DumpHead) (place : ℕ) (s : Opened) (first old new : Scene) (a : Bytes) (end : LoadEnd) : Type 0 where
  pub bytes : Bytes
  pub front : old.left ≡ option_map (λ (rest : List ℕ). bytes ++ rest) new.left
  pub ended : Bool
  pub ends : EndsWith ended new.left
  pub few : length (a ++ bytes) ≤ 2 ^ 32
  pub poured : Poured how h place s old.view first new (a ++ bytes) ended end

out : {M : Type 0} {g : Ghosts M} (wrap : Incoming M g → Front) → ((i : Incoming M g) → front_left (wrap i) ≡ incoming_left i) → ((i : Incoming M g) → front_taken (wrap i) ≡ taken_by g.taken i.reader) → ((i : Incoming M g) → front_stop (wrap i) ≡ i.reader.stop)
    → (how : How) (s : Opened) (i : Incoming M g) (h : DumpHead) (place : ℕ) (a : Bytes) (first old new : Scene) (end : LoadEnd)
    → ((rest : Bytes) → MayCome i.ended rest → dump_told (a ++ rest) ≡ given (Head h) place (incoming_left i rest)) → i.read ≡ length a → old.failed ≡ first.failed
    → PouredBy how s i old new end → Out how h place s first old new a end
out wrap left taken stop how s i h place a first old new end came read same p =
    let b = p.reads.bytes in
    let on = p.reads.says in
    let lens = length-append a b in
    let size : p.now.read ≡ length (a ++ b) = (let n = on.read in omega (arith, n, read, lens)) in
    record {
      bytes = b;
      front = p.reads.front;
      ended = p.now.ended;
      ends = p.ends;
      few = subst (λ (n : ℕ). n ≤ 2 ^ 32) size p.few;
      poured = record {
        pairs = p.pairs;
        closing = p.closing;
        is = p.is;
        loads = λ rest may. (incoming_left i (b ++ rest), told-on (incoming_left i) h place a b i.ended p.now.ended came on.stays rest may, on.loads rest may);
        left = pairs-left wrap left taken stop how s.file old.view new.view i p.now h place a b p.pairs came read on.stays on.left p.none;
        writes = p.writes;
        mid = p.mid;
        cause = subst (λ (n : ℕ). CausedBy p.pairs first.failed new.failed n old.view.faults p.mid.faults) size (subst (λ (n : ℕ). CausedBy p.pairs n new.failed p.now.read old.view.faults p.mid.faults) same p.cause);
        closes = p.closes;
      };
    }

pub front-out : (how : How) (s : Opened) (front : Front) (h : DumpHead) (place : ℕ) (a : Bytes) (was : Bool) (first old new : Scene) (end : LoadEnd)
    → ((rest : Bytes) → MayCome was rest → dump_told (a ++ rest) ≡ given (Head h) place (front_left front rest)) → front_read front ≡ length a → front_ended front ≡ was → old.failed ≡ first.failed
    → PouredFront how s front old new end → Out how h place s first old new a end
front-out how s (Ascii i) h place a was first old new end came read ended same p =
    out Ascii (λ j. refl) (λ j. refl) (λ j. refl) how s i h place a first old new end (λ rest may. came rest (λ (w : was ≡ true). may (ended ∙ w))) read same p
front-out how s (Binary i) h place a was first old new end came read ended same p =
    out Binary (λ j. refl) (λ j. refl) (λ j. refl) how s i h place a first old new end (λ rest may. came rest (λ (w : was ≡ true). may (ended ∙ w))) read same p

-- ---- the load, by how it ended

pub meant-by : (found meant : Option Bytes) (x : Option Bytes) → found ≡ meant → found ≡ x → meant ≡ x
meant-by found meant x same is = sym same ∙ is

module _ (plan : Plan) (name : Option Bytes) (used : Option FileId) (old new : Scene) (bytes : Bytes) (ended : Bool) where
  by-choice : (b : Bool) (ending : Ending) (e : DbError) → Ran plan name used old new bytes ended (if b then ends.Closing e else ends.Pairs ending) → LoadsBy plan name used old new bytes ended (if b then ends.Closing e else ends.Pairs ending)
  by-choice true ending e ran = ran
  by-choice false ending e ran = ran

  by-ends : (pairs : Result (Unit {0}) Ending) (closing : Result (Unit {0}) DbError) → Ran plan name used old new bytes ended (ends_by pairs closing) → LoadsBy plan name used old new bytes ended (ends_by pairs closing)
  by-ends (Ok x) (Ok y) ran = ran
  by-ends (Ok x) (Err e) ran = ran
  by-ends (Err ending) (Ok y) ran = ran
  by-ends (Err ending) (Err e) ran = by-choice (is_memory ending) ending e ran

  pub by-end : (end : LoadEnd) → Ran plan name used old new bytes ended end → LoadsBy plan name used old new bytes ended end
  by-end end ran =
      let is = ran.poured.is in
      subst (λ (x : LoadEnd). LoadsBy plan name used old new bytes ended x) is (by-ends ran.poured.pairs ran.poured.closing (subst (λ (x : LoadEnd). Ran plan name used old new bytes ended x) (sym is) ran))

pub loading-of : (plan : Plan) (format : Format) (text : Bytes) (due : Content → Option DbError) (u v : View) (s : Opened) → Entered plan format text due u v s → IsLoading v s
loading-of plan format text due u v s h = record { there = h.there; fits = h.fits; calm = h.opened.whole; writer = h.opened.access }

pub entered-by : (plan : Plan) (was now : Format) (text : Bytes) (due : Content → Option DbError) (u v : View) (s : Opened) → was ≡ now → Entered plan was text due u v s → Entered plan now text due u v s
entered-by plan was now text due u v s is h = subst (λ (x : Format). Entered plan x text due u v s) is h
