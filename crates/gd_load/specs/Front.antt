-- The beginning of a load: the dump that an input is, and its head.
use Rattle.std.specs.Prelude.{◌≡◌, ◌⊎◌, ℕ, ◌^◌, ◌≤◌, Bool, List, ◌++◌, length, codes, eqb, if◌then◌else◌, Option, None, Some, [], ◌∷◌, Result, Ok, Err}
use Rattle.std.specs.List.{starts_with}
use Rattle.gd_base.specs.Causes.{Rose}
use Rattle.gd_dump_reading.specs.AsciiItems.{ascii_items}
use Rattle.gd_dump_reading.specs.BinaryItems.{binary_items}
use Rattle.gd_dump_reading.specs.Readers.{taken_by}
use Rattle.gd_dump_reading.specs.Told.{NoneEnds, Told, given, refused}
use Rattle.gd_dump_reading.specs.declared.items.DumpHead.{DumpHead}
use Rattle.gd_dump_reading.specs.declared.items.DumpKind.{DumpKind}
use Rattle.gd_dump_reading.specs.declared.items.Item.{Item}
use Rattle.gd_dump_reading.specs.declared.items.Item.TheVariants.{Head}
use Rattle.gd_dump_reading.specs.declared.items.Refusal.{Refusal}
use Rattle.gd_dump_reading.specs.declared.machine.Machine.{Ghosts}
use Rattle.gd_load.specs.Items.{EndsWith, Gives, MayCome, ReadOn, incoming_left}
use Rattle.gd_load.specs.declared.front.Begun.{Begun}
use Rattle.gd_load.specs.declared.front.Front.{Front}
use Rattle.gd_load.specs.declared.front.Front.TheVariants.{Ascii, Binary}
use Rattle.gd_load.specs.declared.incoming.Incoming.{Incoming}
use Rattle.gd_load.specs.declared.incoming.Stop.{Stop}
use Rattle.gd_load.specs.declared.incoming.Stop.TheVariants.{Refused, InputFailed, TooLong, Starved}

-- what a whole input tells as a dump: as a binary one where its first byte is '!', else as an ASCII one
abbrev pub dump_told : List ℕ → Told
dump_told bytes = if starts_with eqb bytes (codes "!") then binary_items bytes else ascii_items bytes

-- ---- what a front keeps

-- what it still gives, by what is left of the source
abbrev pub front_left : Front → List ℕ → Told
front_left (Ascii dump) rest = incoming_left dump rest
front_left (Binary dump) rest = incoming_left dump rest

-- how many bytes were taken, and how many were read
abbrev pub taken_in : {M : Type 0} {g : Ghosts M} → Incoming M g → ℕ
taken_in {g = g} i = taken_by g.taken i.reader

abbrev pub front_taken : Front → ℕ
front_taken (Ascii dump) = taken_in dump
front_taken (Binary dump) = taken_in dump

abbrev pub front_read : Front → ℕ
front_read (Ascii dump) = dump.read
front_read (Binary dump) = dump.read

-- whether the source has ended
abbrev pub front_ended : Front → Bool
front_ended (Ascii dump) = dump.ended
front_ended (Binary dump) = dump.ended

-- the refusal that it has answered
abbrev pub front_stop : Front → Option Refusal
front_stop (Ascii dump) = dump.reader.stop
front_stop (Binary dump) = dump.reader.stop

-- ---- the beginning of a load

-- a front has taken these bytes, and neither a head nor a refusal came: whatever comes behind them, no item ends in them
pub record HasTaken (bytes : List ℕ) : Type 0 where
  pub front : Front
  pub still : (rest : List ℕ) → dump_told (bytes ++ rest) ≡ front_left front rest
  pub taken : front_taken front ≡ length bytes
  pub going : front_stop front ≡ None
  pub none : NoneEnds (λ rest. dump_told (bytes ++ rest)) (length bytes)

-- nothing was read, or a front has taken all of it
abbrev pub IsOpen : List ℕ → Type 0
IsOpen bytes = (bytes ≡ []) ⊎ HasTaken bytes

-- the head came: what is told behind it is what the front still gives
pub record HeadCame (bytes : List ℕ) (last : Bool) (b : Begun) : Type 0 where
  pub told : (rest : List ℕ) → MayCome last rest → dump_told (bytes ++ rest) ≡ given (Head b.head) b.place (front_left b.front rest)
  pub place : b.place ≡ front_taken b.front
  pub read : front_read b.front ≡ length bytes
  pub ended : front_ended b.front ≡ last

-- the head, or why there is none, where these bytes were read, and the source has ended or not
abbrev pub Begins : List ℕ → Bool → Result Begun Stop → Type 0
Begins bytes ended (Ok b) = HeadCame bytes ended b
Begins bytes ended (Err (Refused kind place)) = (rest : List ℕ) → MayCome ended rest → dump_told (bytes ++ rest) ≡ refused kind place
Begins bytes ended (Err InputFailed) = IsOpen bytes
Begins bytes ended (Err TooLong) = HasTaken bytes × (length bytes ≡ 2 ^ 32)
Begins bytes ended (Err Starved) = Unit {0}

-- at most 2^32 bytes were read of a source, of which this is told now
pub record Reached (told : Option (List ℕ)) (bytes : List ℕ) (result : Result Begun Stop) : Type 0 where
  pub few : length bytes ≤ 2 ^ 32
  pub ended : Bool
  pub ends : EndsWith ended told
  pub begins : Begins bytes ended result

abbrev pub Starts : (before now : Option (List ℕ)) → Result Begun Stop → Type 0
Starts before now result = ReadOn before now (λ bytes. Reached now bytes result)

-- an input fault comes only where the source's count of faults rose, and with every other answer it stands
abbrev pub Counted : {T : Type 0} → Result T Stop → (before now : ℕ) → Type 0
Counted (Err InputFailed) before now = Rose before now
Counted r before now = now ≡ before

-- ---- the parts of a call

-- a dump begins with a head, or is refused
abbrev pub BeginsAs : List (Item × ℕ) → Option (DumpKind × ℕ) → Type 0
BeginsAs [] None = ⊥
BeginsAs [] (Some refusal) = Unit {0}
BeginsAs ((Head head, end) ∷ items) refusal = Unit {0}
BeginsAs ((item, end) ∷ items) refusal = ⊥

abbrev pub IsDump : Told → Type 0
IsDump told = BeginsAs told.items told.refusal

-- the head, where these bytes were read of the source
abbrev pub GivesHead : {M : Type 0} {g : Ghosts M} → Incoming M g → Incoming M g → List ℕ → Result DumpHead Stop → Type 0
GivesHead old new bytes (Ok head) = Gives old new bytes (Ok (Some (Head head)))
GivesHead old new bytes (Err stop) = Gives old new bytes (Err stop)

abbrev pub IsHead : Item → Type 0
IsHead (Head head) = Unit {0}
IsHead item = ⊥
