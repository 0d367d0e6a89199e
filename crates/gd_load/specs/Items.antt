-- The items that come from a source.
use Rattle.std.specs.Prelude.{◌≡◌, ℕ, ◌+◌, ◌-◌, ◌*◌, ◌^◌, List, [], ◌++◌, take, drop, Bool, true, false, Option, Some, None, option_map, length, Result, Ok, Err}
use Rattle.gd_base.specs.Causes.{Rose}
use Rattle.gd_base.specs.Sources.{IsAtEnd}
use Rattle.gd_dump_reading.specs.Readers.{left_by, taken_by}
use Rattle.gd_dump_reading.specs.Told.{NoneEnds, Told, given, nothing, refused}
use Rattle.gd_dump_reading.specs.declared.items.Item.{Item}
use Rattle.gd_dump_reading.specs.declared.machine.Machine.{Ghosts}
use Rattle.gd_load.specs.declared.incoming.Incoming.{Incoming}
use Rattle.gd_load.specs.declared.incoming.Stop.{Stop}
use Rattle.gd_load.specs.declared.incoming.Stop.TheVariants.{Refused, InputFailed, TooLong, Starved}

-- the bytes of the page that the reader has not taken
abbrev pub waiting : {M : Type 0} {g : Ghosts M} → Incoming M g → List ℕ
waiting i = take (i.end - i.at) (drop i.at i.page)

-- what is still given, by what is left of the source
abbrev pub incoming_left : {M : Type 0} {g : Ghosts M} → Incoming M g → List ℕ → Told
incoming_left {g = g} i rest = left_by g.left i.reader (waiting i ++ rest)

-- where the source tells what is left of it, P holds of that
abbrev pub IsLeft : Option (List ℕ) → (List ℕ → Type 0) → Type 0
IsLeft told P = (rest : List ℕ) × (told ≡ Some rest) × P rest

-- these bytes were read of a source: they were at the front of what it told, and of them P holds
pub record ReadOn (before now : Option (List ℕ)) (P : List ℕ → Type 0) : Type 0 where
  pub bytes : List ℕ
  pub front : before ≡ option_map (λ rest. bytes ++ rest) now
  pub says : P bytes

-- what may still come of a source: nothing, where it has ended
abbrev pub MayCome : Bool → List ℕ → Type 0
MayCome ended rest = ended ≡ true → rest ≡ []

-- so many bytes more were read, and none where the source had ended
pub record Counts {M : Type 0} {g : Ghosts M} (old new : Incoming M g) (bytes : List ℕ) : Type 0 where
  pub read : new.read ≡ old.read + length bytes
  pub stays : old.ended ≡ true → (bytes ≡ []) × (new.ended ≡ true)

-- the same dump is still told, whatever comes behind the bytes that were read: all were taken, no item ends in them, and the dump was not
-- refused
pub record StillTold {M : Type 0} {g : Ghosts M} (old new : Incoming M g) (bytes : List ℕ) : Type 0 where
  pub same : (rest : List ℕ) → incoming_left old (bytes ++ rest) ≡ incoming_left new rest
  pub none : NoneEnds (left_by g.left new.reader) (taken_by g.taken new.reader)
  pub all : taken_by g.taken new.reader ≡ new.read
  pub going : new.reader.stop ≡ None
  pub more : new.ended ≡ false

-- one call for the next item, in which these bytes were read of the source
abbrev pub Gives : {M : Type 0} {g : Ghosts M} → Incoming M g → Incoming M g → List ℕ → Result (Option Item) Stop → Type 0
Gives {g = g} old new bytes (Ok (Some item)) = (rest : List ℕ) → MayCome new.ended rest → incoming_left old (bytes ++ rest) ≡ given item (taken_by g.taken new.reader) (incoming_left new rest)
Gives {g = g} old new bytes (Ok None) = (new.ended ≡ true) × (incoming_left old (bytes ++ []) ≡ nothing)
Gives {g = g} old new bytes (Err (Refused kind place)) = (rest : List ℕ) → MayCome new.ended rest → incoming_left old (bytes ++ rest) ≡ refused kind place
Gives {g = g} old new bytes (Err InputFailed) = StillTold old new bytes
Gives {g = g} old new bytes (Err TooLong) = StillTold old new bytes
Gives {g = g} old new bytes (Err Starved) = Unit {0}

-- why there is no next item
abbrev pub StopsFor : Stop → (before now read : ℕ) → Type 0
StopsFor InputFailed before now read = Rose before now
StopsFor TooLong before now read = (now ≡ before) × (read ≡ 2 ^ 32)
StopsFor stop before now read = now ≡ before

-- a source that has ended stays at its end
abbrev pub EndsWith : Bool → Option (List ℕ) → Type 0
EndsWith ended told = ended ≡ true → IsAtEnd told

-- ---- the parts of a call

-- an item came, or all of the page was taken and none ends there; f and h are what is told before and after, by what is left of the source
abbrev pub FeedsBy : (f h reads : List ℕ → Told) (at end taken : ℕ) → Option Item → Type 0
FeedsBy f h reads at end taken (Some item) = (rest : List ℕ) → f rest ≡ given item taken (h rest)
FeedsBy f h reads at end taken None = (at ≡ end) × NoneEnds reads taken × ((rest : List ℕ) → f rest ≡ h rest)

-- what the page still has was fed
abbrev pub FeedsPage : {M : Type 0} {g : Ghosts M} → Incoming M g → Incoming M g → Result (Option Item) Stop → Type 0
FeedsPage {g = g} old new (Ok item) = FeedsBy (incoming_left old) (incoming_left new) (left_by g.left new.reader) new.at new.end (taken_by g.taken new.reader) item
FeedsPage {g = g} old new (Err (Refused kind place)) = (rest : List ℕ) → incoming_left old rest ≡ refused kind place
FeedsPage {g = g} old new (Err Starved) = Unit {0}
FeedsPage {g = g} old new (Err stop) = ⊥

-- nothing more comes
abbrev pub FinishesPage : {M : Type 0} {g : Ghosts M} → Incoming M g → Incoming M g → Result (Option Item) Stop → Type 0
FinishesPage {g = g} old new (Ok (Some item)) = incoming_left old [] ≡ given item (taken_by g.taken new.reader) (incoming_left new [])
FinishesPage {g = g} old new (Ok None) = incoming_left old [] ≡ nothing
FinishesPage {g = g} old new (Err (Refused kind place)) = incoming_left old [] ≡ refused kind place
FinishesPage {g = g} old new (Err stop) = ⊥

-- how often a page may still be turned, where so much was read
abbrev pub pages_left : ℕ → Bool → ℕ
pages_left read true = 2 * (2 ^ 32 - read)
pages_left read false = 2 * (2 ^ 32 - read) + 1

-- ---- the next item of what was read

-- no item is in what was read: the dump has ended with the source, or all that was read was taken, and no item ends there
abbrev pub NoneRead : {M : Type 0} {g : Ghosts M} → Bool → Incoming M g → Incoming M g → Type 0
NoneRead true old new = incoming_left old [] ≡ nothing
NoneRead {g = g} false old new = (new.at ≡ new.end) × NoneEnds (left_by g.left new.reader) (taken_by g.taken new.reader) × ((rest : List ℕ) → incoming_left old rest ≡ incoming_left new rest)

abbrev pub GivesRead : {M : Type 0} {g : Ghosts M} → Incoming M g → Incoming M g → Result (Option Item) Stop → Type 0
GivesRead {g = g} old new (Ok (Some item)) = (rest : List ℕ) → MayCome old.ended rest → incoming_left old rest ≡ given item (taken_by g.taken new.reader) (incoming_left new rest)
GivesRead {g = g} old new (Ok None) = NoneRead new.ended old new
GivesRead {g = g} old new (Err (Refused kind place)) = (rest : List ℕ) → MayCome old.ended rest → incoming_left old rest ≡ refused kind place
GivesRead {g = g} old new (Err Starved) = Unit {0}
GivesRead {g = g} old new (Err stop) = ⊥
