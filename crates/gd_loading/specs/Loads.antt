-- What a dump gives behind its head, and what storing its pairs makes of a database.
use Rattle.std.specs.Prelude.{◌≡◌, ℕ, ◌+◌, Bool, true, false, List, [], ◌∷◌, ◌++◌, length, Option, Some, None, Result, Ok, Err}
use Rattle.std.specs.FinMap.{insert}
use Rattle.gd_base.specs.declared.errors.DbError.{DbError}
use Rattle.gd_base.specs.declared.errors.DbError.TheVariants.{VaultFault}
use Rattle.gd_dump_reading.specs.Told.{NoneEnds, Told}
use Rattle.gd_dump_reading.specs.Readers.{left_by, taken_by}
use Rattle.gd_dump_reading.specs.declared.items.DumpKind.{DumpKind}
use Rattle.gd_dump_reading.specs.declared.items.Item.{Item}
use Rattle.gd_dump_reading.specs.declared.items.Item.TheVariants.{Head, Pair, End}
use Rattle.gd_dump_reading.specs.declared.machine.Machine.{Ghosts}
use Rattle.gd_file_laws.specs.Parts.{file_header}
use Rattle.gd_format.specs.File.{records}
use Rattle.gd_load.specs.Items.{MayCome, StopsFor, incoming_left}
use Rattle.gd_load.specs.declared.incoming.Incoming.{Incoming}
use Rattle.gd_load.specs.declared.incoming.Stop.TheVariants.{Refused, InputFailed, TooLong}
use Rattle.gd_loading.specs.declared.taking.Ending.{Ending}
use Rattle.gd_loading.specs.declared.taking.Ending.TheVariants.{Dump, Db}
use Rattle.gd_map_laws.specs.Maps.{pair_map}
use Rattle.gd_open.specs.Files.{FileBecomes}
use Rattle.gd_readable.specs.Asks.{Counts, Refuses}
use Rattle.gd_store.specs.Opened.{Fits, OnFile, Opened}
use Rattle.gd_store.specs.Replies.{is_of_storing, store_due}
use Rattle.gd_store.specs.declared.access.Access.TheVariants.{Writer}
use Rattle.gd_store.specs.declared.access.How.{How}
use Rattle.gd_vault.specs.Views.{HasFile, View}

abbrev pub Bytes : Type 0
Bytes = List ℕ

-- ---- a dump

-- the pairs of a dump, and the refusal that ends it, if one does
pub record Dumped : Type 0 where
  pub pairs : List (Bytes × Bytes)
  pub stop : Option (DumpKind × ℕ)

-- these pairs before a dump
abbrev pub behind : List (Bytes × Bytes) → Dumped → Dumped
behind pairs d = record { pairs = pairs ++ d.pairs; stop = d.stop }

abbrev pub pair_in : Item → List (Bytes × Bytes)
pair_in (Pair key value) = (key, value) ∷ []
pair_in item = []

abbrev pub is_end : Item → Bool
is_end End = true
is_end item = false

-- nothing comes
abbrev pub at_end : Dumped
at_end = record { pairs = []; stop = None }

-- a refusal comes
abbrev pub stopped : DumpKind → ℕ → Dumped
stopped kind place = record { pairs = []; stop = Some (kind, place) }

-- an item, and what comes behind it; nothing comes behind the end
abbrev pub item_before : Item → Dumped → Dumped
item_before (Pair key value) d = behind ((key, value) ∷ []) d
item_before (Head h) d = d
item_before End d = at_end

-- what the items give up to the end
abbrev pub dumped : List (Item × ℕ) → Option (DumpKind × ℕ) → Dumped
dumped [] stop = record { pairs = []; stop = stop }
dumped (i ∷ items) stop = item_before i.0 (dumped items stop)

abbrev pub whole : Told → Dumped
whole told = dumped told.items told.refusal

-- ---- the database

-- a database that is open to write, with its file
pub record IsLoading (v : View) (s : Opened) : Type 0 where
  pub there : HasFile v s.file
  pub fits : Fits v s
  pub calm : s.broken ≡ false
  pub writer : s.access ≡ Writer

-- the refusal of a pair by the bytes of the file
abbrev pub due_of : How → Bytes × Bytes → Bytes → Option DbError
due_of how p file = store_due (records file) (file_header file).elems (file_header file).next_block how p.0 p.1

-- a pair was stored: nothing stood against it, and the map is the old one with the pair
pub record StoredOne (how : How) (p : Bytes × Bytes) (old new : Bytes) : Type 0 where
  pub due : due_of how p old ≡ None
  pub map : pair_map (records new) ≡ insert (pair_map (records old)) p.0 p.1

-- pairs were stored, in their order
abbrev pub Stored : How → List (Bytes × Bytes) → Bytes → Bytes → Type 0
Stored how [] old new = new ≡ old
Stored how (p ∷ ps) old new = (mid : Bytes) × StoredOne how p old mid × Stored how ps mid new

-- ---- a call that stores pairs

-- nothing is said of the file after a fault of the vault
abbrev pub UnlessFault : {T : Type 0} → Result T Ending → Type 0 → Type 0
UnlessFault (Err (Db VaultFault)) P = Unit {0}
UnlessFault r P = P

-- the pairs before the dump's rest were stored
pub record Onward (how : How) (f : ℕ) (u v : View) (d e : Dumped) : Type 0 where
  pub pairs : List (Bytes × Bytes)
  pub is : d ≡ behind pairs e
  pub stored : FileBecomes u v f (Stored how pairs)

-- the same whatever comes: d and e are what is told before and behind these pairs, by what is left of the source
pub record OnwardAll (how : How) (f : ℕ) (u v : View) (may : Bytes → Type 0) (d e : Bytes → Dumped) : Type 0 where
  pub pairs : List (Bytes × Bytes)
  pub is : (rest : Bytes) → may rest → d rest ≡ behind pairs (e rest)
  pub stored : FileBecomes u v f (Stored how pairs)

-- the next pair was refused, by the file as it stands
pub record PairRefused (how : How) (f : ℕ) (v : View) (e : DbError) (tail : Dumped) : Type 0 where
  pub pair : Bytes × Bytes
  pub more : Dumped
  pub is : tail ≡ behind (pair ∷ []) more
  pub cause : Refuses e (Unit {0}) (OnFile v f (λ file. due_of how pair file ≡ Some e))

-- what of the dump comes behind the pairs that were stored, by why they ended
abbrev pub IsTail : How → ℕ → View → Ending → Dumped → Type 0
IsTail how f v (Dump (Refused kind place)) tail = tail ≡ stopped kind place
IsTail how f v (Dump stop) tail = Unit {0}
IsTail how f v (Db e) tail = PairRefused how f v e tail

-- the pairs of a dump were stored up to a place, where they ended
pub record Ended {T : Type 0} (how : How) (f : ℕ) (u v : View) (d : Dumped) (r : Result T Ending) (P : Dumped → Type 0) : Type 0 where
  pub pairs : List (Bytes × Bytes)
  pub tail : Dumped
  pub is : d ≡ behind pairs tail
  pub ends : P tail
  pub stored : UnlessFault r (FileBecomes u v f (Stored how pairs))

-- all of the dump was stored, or the pairs before a stop
abbrev pub Loads : How → ℕ → View → View → Dumped → Result (Unit {0}) Ending → Type 0
Loads how f u v d (Ok x) = Ended how f u v d (Ok x) (λ tail. tail ≡ at_end)
Loads how f u v d (Err e) = Ended {T = Unit {0}} how f u v d (Err e) (IsTail how f v e)

-- so it is whatever comes
abbrev pub LoadsAll : How → ℕ → View → View → (may : Bytes → Type 0) → (d : Bytes → Dumped) → Result (Unit {0}) Ending → Type 0
LoadsAll how f u v may d r = (rest : Bytes) → may rest → Loads how f u v (d rest) r

-- the pairs of what was read were stored: true where the dump is at its end
abbrev pub LoadsRead : How → ℕ → View → View → (may : Bytes → Type 0) → (d e : Bytes → Dumped) → Result Bool Ending → Type 0
LoadsRead how f u v may d e (Ok true) = LoadsAll how f u v may d (Ok tt)
LoadsRead how f u v may d e (Ok false) = OnwardAll how f u v may d e
LoadsRead how f u v may d e (Err ending) = LoadsAll how f u v may d (Err ending)

-- one item was taken: true where more may come
abbrev pub TakesItem : How → Item → ℕ → View → View → Result Bool DbError → Type 0
TakesItem how item f u v (Ok true) = (is_end item ≡ false) × FileBecomes u v f (Stored how (pair_in item))
TakesItem how item f u v (Ok false) = (is_end item ≡ true) × FileBecomes u v f (Stored how [])
TakesItem how item f u v (Err e) = (p : Bytes × Bytes) × (item ≡ Pair p.0 p.1) × Refuses e (Unit {0}) (OnFile v f (λ file. due_of how p file ≡ Some e)) × UnlessFault {T = Bool} (Err (Db e)) (FileBecomes u v f (Stored how []))

-- ---- causes

-- why a load ended, by the counts of faults of the source and of the vault, and by how much was read
abbrev pub CausedBy : {T : Type 0} → Result T Ending → (in_before in_now read before now : ℕ) → Type 0
CausedBy (Ok x) in_before in_now read before now = (in_now ≡ in_before) × (now ≡ before)
CausedBy (Err (Dump stop)) in_before in_now read before now = StopsFor stop in_before in_now read × (now ≡ before)
CausedBy (Err (Db e)) in_before in_now read before now = (in_now ≡ in_before) × Counts e before now × (is_of_storing e ≡ true)

-- is it a fault of the vault?
abbrev pub is_broken_by : {T : Type 0} → Result T Ending → Bool
is_broken_by (Err (Db VaultFault)) = true
is_broken_by r = false

-- all that was read was taken, no item ends there, and the dump was not refused
abbrev pub AllTaken : {M : Type 0} {g : Ghosts M} → Incoming M g → Type 0
AllTaken {g = g} i = (i.at ≡ i.end) × (i.ended ≡ false) × NoneEnds (left_by g.left i.reader) (taken_by g.taken i.reader) × (taken_by g.taken i.reader ≡ i.read) × (i.reader.stop ≡ None)

-- after a fault of the input, or an input that is too long, no other item ends in the bytes that were taken
abbrev pub NoneAfter : {M : Type 0} {g : Ghosts M} → Incoming M g → Result (Unit {0}) Ending → Type 0
NoneAfter i (Err (Dump InputFailed)) = AllTaken i
NoneAfter i (Err (Dump TooLong)) = AllTaken i
NoneAfter i r = Unit {0}

-- what a dump still gives, by what comes behind these bytes
abbrev pub given_behind : {M : Type 0} {g : Ghosts M} → Bytes → Incoming M g → Bytes → Dumped
given_behind bytes i rest = whole (incoming_left i (bytes ++ rest))

-- these bytes were read of the source, and the pairs before what is still given were stored
pub record Reached {M : Type 0} {g : Ghosts M} (how : How) (f : ℕ) (u v : View) (old now : Incoming M g) (bytes : Bytes) : Type 0 where
  pub read : now.read ≡ old.read + length bytes
  pub stays : old.ended ≡ true → (bytes ≡ []) × (now.ended ≡ true)
  pub on : OnwardAll how f u v (MayCome now.ended) (given_behind bytes old) (given_behind [] now)

-- after a fault of the input, or an input that is too long, what is still given comes right behind the pairs that were stored
abbrev pub LeftAfter : {M : Type 0} {g : Ghosts M} → How → ℕ → View → View → (old new : Incoming M g) → Bytes → Result (Unit {0}) Ending → Type 0
LeftAfter how f u v old new bytes (Err (Dump InputFailed)) = Reached how f u v old new bytes
LeftAfter how f u v old new bytes (Err (Dump TooLong)) = Reached how f u v old new bytes
LeftAfter how f u v old new bytes r = Unit {0}

-- these bytes were read of the source, and the dump's pairs were stored up to its end or a stop, whatever comes behind them
pub record LoadsOn {M : Type 0} {g : Ghosts M} (how : How) (f : ℕ) (u v : View) (old new : Incoming M g) (r : Result (Unit {0}) Ending) (bytes : Bytes) : Type 0 where
  pub read : new.read ≡ old.read + length bytes
  pub stays : old.ended ≡ true → (bytes ≡ []) × (new.ended ≡ true)
  pub loads : LoadsAll how f u v (MayCome new.ended) (given_behind bytes old) r
  pub left : LeftAfter how f u v old new bytes r

-- the answer of an item as that of a load
abbrev pub item_cause : Result Bool DbError → Result Bool Ending
item_cause (Ok more) = Ok more
item_cause (Err e) = Err (Db e)

-- where more is to be read, all that was read was taken, and no item ends there
abbrev pub NoneLeft : {M : Type 0} {g : Ghosts M} → Incoming M g → Result Bool Ending → Type 0
NoneLeft i (Ok false) = AllTaken i
NoneLeft i (Ok true) = Unit {0}
NoneLeft i (Err (Dump InputFailed)) = ⊥
NoneLeft i (Err (Dump TooLong)) = ⊥
NoneLeft i (Err e) = Unit {0}
