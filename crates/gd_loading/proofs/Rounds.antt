-- Rounds of a load: over the items of what was read, and over what is read.
use Rattle.std.proofs.Common.{◌≡◌, ◌∙◌, ◌⊎◌, ⊎_elim, ap, sym, subst, refl, ℕ, zero, suc, ◌+◌, ◌-◌, Bool, true, false, List, [], ◌++◌, length, take, drop, Option, Some, None, Result, Ok, Err, arith}
use Rattle.std.specs.Prelude.{option_map}
use Rattle.std.proofs.lemmas.List.{append_assoc, length-append}
use Rattle.gd_base.specs.declared.errors.DbError.{DbError}
use Rattle.gd_dump_reading.specs.Told.{NoneEnds, Told, given, nothing}
use Rattle.gd_dump_reading.specs.Readers.{left_by, taken_by}
use Rattle.gd_dump_reading.specs.declared.items.Item.{Item}
use Rattle.gd_dump_reading.specs.declared.machine.Machine.{Ghosts}
use Rattle.gd_dump_reading.specs.declared.reader.Reader.{Reader}
use Rattle.gd_load.specs.Items.{EndsWith, GivesRead, MayCome, NoneRead, ReadOn, StopsFor, incoming_left, waiting}
use Rattle.gd_load.specs.declared.incoming.Incoming.{Incoming}
use Rattle.gd_load.specs.declared.incoming.Stop.{Stop}
use Rattle.gd_load.specs.declared.incoming.Stop.TheVariants.{Refused, InputFailed, TooLong, Starved}
use Rattle.gd_loading.specs.Loads.{AllTaken, Bytes, Dumped, LeftAfter, Loads, LoadsAll, LoadsOn, LoadsRead, NoneAfter, NoneLeft, Onward, OnwardAll, Reached, TakesItem, behind, given_behind, whole}
use Rattle.gd_loading.specs.declared.taking.Ending.{Ending}
use Rattle.gd_loading.specs.declared.taking.Ending.TheVariants.{Dump, Db}
use Rattle.gd_loading.proofs.Steps.{loads-end, loads-end-item, loads-refused, loads-stopped, loads-then, onward-all-item, onward-all-none, onward-all-then, onward-all-told, onward-at, onward-then}
use Rattle.gd_store.specs.declared.access.How.{How}
use Rattle.gd_readable.specs.Asks.{Counts}
use Rattle.gd_vault.proofs.Writes.{writes_trans}
use Rattle.gd_vault.specs.Streams.{OnlyWrites}
use Rattle.gd_vault.specs.Views.{View}

pub whole-given : (told now : Told) (item : Item) (end : ℕ) → told ≡ given item end now → whole told ≡ whole (given item end now)
whole-given told now item end is = ap whole is

-- ---- an item of what was read

pub item-end : (how : How) (f : ℕ) (u v w : View) (d : Dumped) (told now : Told) (item : Item) (end : ℕ) → told ≡ given item end now → TakesItem how item f v w (Ok false) → Onward how f u v d (whole told) → Loads how f u w d (Ok tt)
item-end how f u v w d told now item end is takes h = loads-then how f u v w d (whole told) (Ok tt) h (loads-end-item how f v w item (whole told) (whole now) (whole-given told now item end is) takes.0 takes.1)

pub item-refused : (how : How) (f : ℕ) (u v w : View) (d : Dumped) (told now : Told) (item : Item) (end : ℕ) (e : DbError) → told ≡ given item end now → TakesItem how item f v w (Err e) → Onward how f u v d (whole told) → Loads how f u w d (Err (Db e))
item-refused how f u v w d told now item end e is takes h = loads-then how f u v w d (whole told) (Err (Db e)) h (loads-refused how f v w item (whole told) (whole now) e (whole-given told now item end is) takes)

pub still-may : (was now : Bool) (rest : List ℕ) → now ≡ was → MayCome was rest → MayCome now rest
still-may was now rest same may = λ (ended : now ≡ true). may (sym same ∙ ended)

pub all-taken : {M : Type 0} {g : Ghosts M} (i : Incoming M g) → i.at ≡ i.end → i.reader.stop ≡ None → taken_by g.taken i.reader ≡ i.read
all-taken i all going = let e = i.exact going in omega (arith, all, e)

-- ---- no item in what was read

pub none-read : {M : Type 0} {g : Ghosts M} (how : How) (f : ℕ) (u v : View) (d : Bytes → Dumped) (was b : Bool) (old new : Incoming M g) → b ≡ was → NoneRead b old new → OnwardAll how f u v (MayCome was) d (given_behind [] old) → LoadsRead how f u v (MayCome was) d (given_behind [] new) (Ok b)
none-read how f u v d was true old new same none h = λ rest may.
    let at_none : incoming_left old rest ≡ nothing = ap (incoming_left old) (may (sym same)) ∙ none in
    loads-then how f u v v (d rest) (whole (incoming_left old rest)) (Ok tt) (onward-at how f u v (MayCome was) d (given_behind [] old) rest h may) (loads-end how f v (whole (incoming_left old rest)) (ap whole at_none))
none-read how f u v d was false old new same none h = onward-all-told how f u v (MayCome was) (MayCome was) d (given_behind [] old) (given_behind [] new) (λ rest may. may) (λ rest may. ap whole (none.2 rest)) h

pub none-left : {M : Type 0} {g : Ghosts M} (b : Bool) (old new : Incoming M g) → new.ended ≡ b → new.reader.stop ≡ None → NoneRead b old new → NoneLeft new (Ok b)
none-left true old new is going none = tt
none-left false old new is going none = (none.0, is, none.1, all-taken new none.0 going, going)

pub read-stopped : {M : Type 0} {g : Ghosts M} (how : How) (f : ℕ) (u v : View) (d : Bytes → Dumped) (was : Bool) (old new : Incoming M g) (stop : Stop) → old.ended ≡ was → GivesRead old new (Err stop) → OnwardAll how f u v (MayCome was) d (given_behind [] old) → LoadsRead how f u v (MayCome was) d (given_behind [] new) (Err (Dump stop))
read-stopped how f u v d was old new (Refused kind place) same gives h = λ rest may.
    loads-then how f u v v (d rest) (whole (incoming_left old rest)) (Err (Dump (Refused kind place))) (onward-at how f u v (MayCome was) d (given_behind [] old) rest h may)
    (loads-stopped how f v v (whole (incoming_left old rest)) (Refused kind place) refl (ap whole (gives rest (still-may was old.ended rest same may))))
read-stopped how f u v d was old new Starved same gives h = λ rest may.
    loads-then how f u v v (d rest) (whole (incoming_left old rest)) (Err (Dump Starved)) (onward-at how f u v (MayCome was) d (given_behind [] old) rest h may) (loads-stopped how f v v (whole (incoming_left old rest)) Starved refl tt)
read-stopped how f u v d was old new InputFailed same gives h = absurd gives
read-stopped how f u v d was old new TooLong same gives h = absurd gives

pub stopped-left : {M : Type 0} {g : Ghosts M} (old new : Incoming M g) (stop : Stop) → GivesRead old new (Err stop) → NoneLeft new (Err (Dump stop))
stopped-left old new (Refused kind place) gives = tt
stopped-left old new Starved gives = tt
stopped-left old new InputFailed gives = absurd gives
stopped-left old new TooLong gives = absurd gives

pub stopped-for : {M : Type 0} {g : Ghosts M} (old new : Incoming M g) (stop : Stop) (n m : ℕ) → GivesRead old new (Err stop) → StopsFor stop n n m
stopped-for old new (Refused kind place) n m gives = refl
stopped-for old new Starved n m gives = refl
stopped-for old new InputFailed n m gives = absurd gives
stopped-for old new TooLong n m gives = absurd gives

-- ---- what is read

pub input-stopped : (how : How) (f : ℕ) (u v : View) (d e : Dumped) (stop : Stop) → (stop ≡ InputFailed) ⊎ (stop ≡ TooLong) → Onward how f u v d e → Loads how f u v d (Err (Dump stop))
input-stopped how f u v d e (Refused kind place) which h = absurd (⊎_elim (λ (a : Refused kind place ≡ InputFailed). cc) (λ (a : Refused kind place ≡ TooLong). cc) which)
input-stopped how f u v d e Starved which h = absurd (⊎_elim (λ (a : Starved ≡ InputFailed). cc) (λ (a : Starved ≡ TooLong). cc) which)
input-stopped how f u v d e InputFailed which h = loads-then how f u v v d e (Err (Dump InputFailed)) h (loads-stopped how f v v e InputFailed refl tt)
input-stopped how f u v d e TooLong which h = loads-then how f u v v d e (Err (Dump TooLong)) h (loads-stopped how f v v e TooLong refl tt)

-- ---- over what a loop keeps

pub item-round : {M : Type 0} {g : Ghosts M} (how : How) (f k : ℕ) (u v w : View) (d : Bytes → Dumped) (was : Bool) (old new : Incoming M g) (o : Option Item) (item : Item) (b : Bool)
    → k ≡ f → o ≡ Some item → b ≡ true → old.ended ≡ was → GivesRead old new (Ok o) → TakesItem how item k v w (Ok b)
    → OnwardAll how f u v (MayCome was) d (given_behind [] old)
    → OnwardAll how f u w (MayCome was) d (given_behind [] new)
item-round {g = g} how f k u v w d was old new o item b same some goes ended gives takes h =
    let given_now = subst (λ (x : Option Item). GivesRead old new (Ok x)) some gives in
    let taken_on = subst (λ (x : ℕ). TakesItem how item x v w (Ok b)) same takes in
    let taken = subst (λ (x : Bool). TakesItem how item f v w (Ok x)) goes taken_on in
    onward-all-then how f u v w (MayCome was) d (given_behind [] old) (given_behind [] new) h
    (onward-all-item how f v w item (MayCome was) (given_behind [] old) (given_behind [] new)
    (λ rest may. whole-given (incoming_left old rest) (incoming_left new rest) item (taken_by g.taken new.reader) (given_now rest (still-may was old.ended rest ended may))) taken.0 taken.1)

pub end-round : {M : Type 0} {g : Ghosts M} (how : How) (f k : ℕ) (u v w : View) (d : Bytes → Dumped) (was : Bool) (old new : Incoming M g) (o : Option Item) (item : Item) (b : Bool)
    → k ≡ f → o ≡ Some item → b ≡ false → old.ended ≡ was → GivesRead old new (Ok o) → TakesItem how item k v w (Ok b)
    → OnwardAll how f u v (MayCome was) d (given_behind [] old)
    → LoadsAll how f u w (MayCome was) d (Ok tt)
end-round {g = g} how f k u v w d was old new o item b same some goes ended gives takes h = λ rest may.
    let given_now = subst (λ (x : Option Item). GivesRead old new (Ok x)) some gives in
    let taken_on = subst (λ (x : ℕ). TakesItem how item x v w (Ok b)) same takes in
    let taken = subst (λ (x : Bool). TakesItem how item f v w (Ok x)) goes taken_on in
    item-end how f u v w (d rest) (incoming_left old rest) (incoming_left new rest) item (taken_by g.taken new.reader) (given_now rest (still-may was old.ended rest ended may)) taken
    (onward-at how f u v (MayCome was) d (given_behind [] old) rest h may)

pub refused-round : {M : Type 0} {g : Ghosts M} (how : How) (f k : ℕ) (u v w : View) (d : Bytes → Dumped) (was : Bool) (old new : Incoming M g) (o : Option Item) (item : Item) (e : DbError)
    → k ≡ f → o ≡ Some item → old.ended ≡ was → GivesRead old new (Ok o) → TakesItem how item k v w (Err e)
    → OnwardAll how f u v (MayCome was) d (given_behind [] old)
    → LoadsAll how f u w (MayCome was) d (Err (Db e))
refused-round {g = g} how f k u v w d was old new o item e same some ended gives takes h = λ rest may.
    let given_now = subst (λ (x : Option Item). GivesRead old new (Ok x)) some gives in
    let taken = subst (λ (x : ℕ). TakesItem how item x v w (Err e)) same takes in
    item-refused how f u v w (d rest) (incoming_left old rest) (incoming_left new rest) item (taken_by g.taken new.reader) e (given_now rest (still-may was old.ended rest ended may)) taken
    (onward-at how f u v (MayCome was) d (given_behind [] old) rest h may)

pub writes-on : (f k : ℕ) (u v w : View) → k ≡ f → OnlyWrites f u v → OnlyWrites k v w → OnlyWrites f u w
writes-on f k u v w same one two = writes_trans one (subst (λ (x : ℕ). OnlyWrites x v w) same two)

pub counts-on : (e : DbError) (a b c : ℕ) → b ≡ a → Counts e b c → Counts e a c
counts-on e a b c same h = subst (λ (x : ℕ). Counts e x c) same h

-- ---- the pages

pub none-of : {M : Type 0} {g : Ghosts M} (i : Incoming M g) (b : Bool) → b ≡ false → NoneLeft i (Ok b) → AllTaken i
none-of i b goes none = subst (λ (x : Bool). NoneLeft i (Ok x)) goes none

-- what is told behind more bytes
pub told-then : (a b : List ℕ) (first mid now : Option (List ℕ)) → first ≡ option_map (λ (rest : List ℕ). a ++ rest) mid → mid ≡ option_map (λ (rest : List ℕ). b ++ rest) now → first ≡ option_map (λ (rest : List ℕ). (a ++ b) ++ rest) now
told-then a b first mid None one two = one ∙ ap (option_map (λ (rest : List ℕ). a ++ rest)) two
told-then a b first mid (Some x) one two = one ∙ ap (option_map (λ (rest : List ℕ). a ++ rest)) two ∙ ap (λ (t : List ℕ). Some t) (sym (append_assoc a b x))

pub told-first : (o : Option (List ℕ)) → o ≡ option_map (λ (rest : List ℕ). [] ++ rest) o
told-first None = refl
told-first (Some x) = refl

pub reached-first : {M : Type 0} {g : Ghosts M} (how : How) (f : ℕ) (u : View) (i : Incoming M g) (told : Option (List ℕ)) → ReadOn told told (Reached how f u u i i)
reached-first how f u i told = record {
  bytes = [];
  front = told-first told;
  says = record { read = omega arith; stays = λ ended. (refl, ended); on = onward-all-none how f u (MayCome i.ended) (given_behind [] i) };
}

-- the pairs of what was read
pub reached-read : {M : Type 0} {g : Ghosts M} (how : How) (f k : ℕ) (u v w : View) (first old new : Incoming M g) (b : Bool) (bytes : List ℕ)
    → k ≡ f → b ≡ false → new.read ≡ old.read → new.ended ≡ old.ended → Reached how f u v first old bytes
    → LoadsRead how k v w (MayCome old.ended) (given_behind [] old) (given_behind [] new) (Ok b)
    → Reached how f u w first new bytes
reached-read how f k u v w first old new b bytes same goes read ended h loads =
    let on = subst (λ (x : Bool). LoadsRead how k v w (MayCome old.ended) (given_behind [] old) (given_behind [] new) (Ok x)) goes loads in
    let mine = subst (λ (x : ℕ). OnwardAll how x v w (MayCome old.ended) (given_behind [] old) (given_behind [] new)) same on in
    record {
      read = read ∙ h.read;
      stays = λ was. ((h.stays was).0, ended ∙ (h.stays was).1);
      on = onward-all-told how f u w (MayCome old.ended) (MayCome new.ended) (given_behind bytes first) (given_behind [] new) (given_behind [] new) (λ rest may. still-may new.ended old.ended rest (sym ended) may) (λ rest may. refl)
          (onward-all-then how f u v w (MayCome old.ended) (given_behind bytes first) (given_behind [] old) (given_behind [] new) h.on mine);
    }

take-none : (n : ℕ) (xs : List ℕ) → n ≡ 0 → take n xs ≡ []
take-none zero xs is = refl
take-none (suc n) xs is = absurd (omega (arith, is))

none-waits : (at end : ℕ) (xs : List ℕ) → at ≡ end → take (end - at) (drop at xs) ≡ []
none-waits at end xs is = take-none (end - at) (drop at xs) (omega (arith, is))

-- nothing was read
pub unread-still : (old new at end n : ℕ) → new ≡ old → at ≡ end → n ≡ end - at → new ≡ old + n
unread-still old new at end n same all size = omega (arith, same, all, size)

-- a page was turned: what waits in it comes at the front of what comes
pub turned-left : {M : Type 0} {g : Ghosts M} (old new : Incoming M g) (rest : List ℕ) → old.at ≡ old.end → new.reader ≡ old.reader → incoming_left old (waiting new ++ rest) ≡ incoming_left new rest
turned-left {g = g} old new rest all same =
    ap (λ (t : List ℕ). left_by g.left old.reader (t ++ (waiting new ++ rest))) (none-waits old.at old.end old.page all)
    ∙ ap (λ (r : Reader _). left_by g.left r (waiting new ++ rest)) (sym same)

pub reached-turned : {M : Type 0} {g : Ghosts M} (how : How) (f : ℕ) (u v : View) (first old new : Incoming M g) (bytes : List ℕ)
    → old.at ≡ old.end → old.ended ≡ false → new.reader ≡ old.reader → new.read ≡ old.read + length (waiting new) → Reached how f u v first old bytes → Reached how f u v first new (bytes ++ waiting new)
reached-turned how f u v first old new bytes all going same read h =
    let len = length-append bytes (waiting new) in
    let was = h.read in
    record {
      read = omega (arith, len, was, read);
      stays = λ was. absurd (let no : true ≡ false = sym (h.stays was).1 ∙ going in cc);
      on = record {
        pairs = h.on.pairs;
        is = λ rest may.
            ap (λ (t : List ℕ). whole (incoming_left first t)) (append_assoc bytes (waiting new) rest)
            ∙ h.on.is (waiting new ++ rest) (λ (ended : old.ended ≡ true). absurd (let no : true ≡ false = sym ended ∙ going in cc))
            ∙ ap (λ (t : Told). behind h.on.pairs (whole t)) (turned-left old new rest all same);
        stored = h.on.stored;
      };
    }

-- the load ends in what was read
pub ended-read : {M : Type 0} {g : Ghosts M} (how : How) (f k : ℕ) (u v w : View) (first old new : Incoming M g) (bytes : List ℕ) (r : Result (Unit {0}) Ending)
    → k ≡ f → new.read ≡ old.read → new.ended ≡ old.ended → Reached how f u v first old bytes → LoadsAll how k v w (MayCome old.ended) (given_behind [] old) r → LeftAfter how f u w first new bytes r
    → LoadsOn how f u w first new r bytes
ended-read how f k u v w first old new bytes r same read ended h loads left = record {
  read = read ∙ h.read;
  stays = λ was. ((h.stays was).0, ended ∙ (h.stays was).1);
  loads = λ rest may.
      let was = still-may new.ended old.ended rest (sym ended) may in
      loads-then how f u v w (given_behind bytes first rest) (given_behind [] old rest) r (onward-at how f u v (MayCome old.ended) (given_behind bytes first) (given_behind [] old) rest h.on was)
      (subst (λ (x : ℕ). Loads how x v w (given_behind [] old rest) r) same (loads rest was));
  left = left;
}

pub ended-ok : {M : Type 0} {g : Ghosts M} (how : How) (f k : ℕ) (u v w : View) (first old new : Incoming M g) (bytes : List ℕ) (b : Bool)
    → k ≡ f → b ≡ true → new.read ≡ old.read → new.ended ≡ old.ended → Reached how f u v first old bytes → LoadsRead how k v w (MayCome old.ended) (given_behind [] old) (given_behind [] new) (Ok b)
    → LoadsOn how f u w first new (Ok tt) bytes
ended-ok how f k u v w first old new bytes b same goes read ended h loads =
    let on = subst (λ (x : Bool). LoadsRead how k v w (MayCome old.ended) (given_behind [] old) (given_behind [] new) (Ok x)) goes loads in
    ended-read how f k u v w first old new bytes (Ok tt) same read ended h on tt

left-none : {M : Type 0} {g : Ghosts M} (how : How) (f : ℕ) (u v : View) (first new : Incoming M g) (bytes : List ℕ) (ending : Ending) → NoneLeft new (Err ending) → LeftAfter how f u v first new bytes (Err ending)
left-none how f u v first new bytes (Dump (Refused kind place)) none = tt
left-none how f u v first new bytes (Dump InputFailed) none = absurd none
left-none how f u v first new bytes (Dump TooLong) none = absurd none
left-none how f u v first new bytes (Dump Starved) none = tt
left-none how f u v first new bytes (Db e) none = tt

pub ended-stop : {M : Type 0} {g : Ghosts M} (how : How) (f k : ℕ) (u v w : View) (first old new : Incoming M g) (bytes : List ℕ) (ending : Ending)
    → k ≡ f → new.read ≡ old.read → new.ended ≡ old.ended → Reached how f u v first old bytes → NoneLeft new (Err ending) → LoadsAll how k v w (MayCome old.ended) (given_behind [] old) (Err ending)
    → LoadsOn how f u w first new (Err ending) bytes
ended-stop how f k u v w first old new bytes ending same read ended h none loads = ended-read how f k u v w first old new bytes (Err ending) same read ended h loads (left-none how f u w first new bytes ending none)

-- the source ends the load
pub ended-input : {M : Type 0} {g : Ghosts M} (how : How) (f : ℕ) (u v : View) (first now : Incoming M g) (bytes : List ℕ) (stop : Stop) → (stop ≡ InputFailed) ⊎ (stop ≡ TooLong) → Reached how f u v first now bytes → LoadsOn how f u v first now (Err (Dump stop)) bytes
ended-input how f u v first now bytes (Refused kind place) which h = absurd (⊎_elim (λ (a : Refused kind place ≡ InputFailed). cc) (λ (a : Refused kind place ≡ TooLong). cc) which)
ended-input how f u v first now bytes Starved which h = absurd (⊎_elim (λ (a : Starved ≡ InputFailed). cc) (λ (a : Starved ≡ TooLong). cc) which)
ended-input how f u v first now bytes InputFailed which h = record {
  read = h.read;
  stays = h.stays;
  loads = λ rest may. input-stopped how f u v (given_behind bytes first rest) (given_behind [] now rest) InputFailed which (onward-at how f u v (MayCome now.ended) (given_behind bytes first) (given_behind [] now) rest h.on may);
  left = h;
}
ended-input how f u v first now bytes TooLong which h = record {
  read = h.read;
  stays = h.stays;
  loads = λ rest may. input-stopped how f u v (given_behind bytes first rest) (given_behind [] now rest) TooLong which (onward-at how f u v (MayCome now.ended) (given_behind bytes first) (given_behind [] now) rest h.on may);
  left = h;
}

pub stops-from : (stop : Stop) (was before now read : ℕ) → before ≡ was → StopsFor stop before now read → StopsFor stop was now read
stops-from stop was before now read same h = subst (λ (x : ℕ). StopsFor stop x now read) same h

none-still : {M : Type 0} {g : Ghosts M} (old new : Incoming M g) → AllTaken old → new.at ≡ new.end → new.ended ≡ false → new.reader ≡ old.reader → AllTaken new
none-still {g = g} old new all at ended same =
    let going : new.reader.stop ≡ None = ap (λ (r : Reader _). r.stop) same ∙ all.4 in
    (at, ended, subst (λ (r : Reader _). NoneEnds (left_by g.left r) (taken_by g.taken r)) (sym same) all.2, all-taken new at going, going)

-- nothing more ends in what was read, where the source ends the load
pub none-after : {M : Type 0} {g : Ghosts M} (old new : Incoming M g) (stop : Stop) → AllTaken old → new.at ≡ new.end → new.ended ≡ false → new.reader ≡ old.reader → NoneAfter new (Err (Dump stop))
none-after old new (Refused kind place) all at ended same = tt
none-after old new Starved all at ended same = tt
none-after {g = g} old new InputFailed all at ended same = none-still old new all at ended same
none-after {g = g} old new TooLong all at ended same = none-still old new all at ended same
