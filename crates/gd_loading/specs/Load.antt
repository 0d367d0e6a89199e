-- A whole load: the head of a dump, the database that it names, its pairs, and the closing.
use Rattle.std.specs.Prelude.{◌≡◌, ◌⊎◌, ℕ, ◌==◌, ◌^◌, ◌≤◌, ◌&&◌, Bool, true, false, List, [], ◌++◌, length, is_none, is_some, Option, Some, None, Result, Ok, Err, if◌then◌else◌}
use Rattle.std.specs.Str.{is_utf8}
use Rattle.gd_base.specs.Causes.{Rose}
use Rattle.gd_base.specs.Names.{name_fault}
use Rattle.gd_base.specs.declared.errors.DbError.{DbError}
use Rattle.gd_base.specs.declared.errors.DbError.TheVariants.{Exists, InUse, OutOfMemory, VaultFault}
use Rattle.gd_base.specs.declared.errors.Format.{Format}
use Rattle.gd_base.specs.declared.errors.Format.TheVariants.{Standard}
use Rattle.gd_base.specs.declared.errors.Which.TheVariants.{Only}
use Rattle.gd_create.specs.NewFile.{IsNewHeader, new_file}
use Rattle.gd_dump_reading.specs.Told.{NoneEnds, Told, given}
use Rattle.gd_dump_reading.specs.declared.items.DumpHead.{DumpHead}
use Rattle.gd_dump_reading.specs.declared.items.Item.TheVariants.{Head}
use Rattle.gd_dump_reading.specs.declared.machine.Machine.{Ghosts}
use Rattle.gd_format.specs.File.{records}
use Rattle.gd_load.specs.Front.{Begins, Counted, dump_told, front_left, front_stop, front_taken}
use Rattle.gd_load.specs.Items.{EndsWith, MayCome, ReadOn}
use Rattle.gd_load.specs.declared.front.Front.{Front}
use Rattle.gd_load.specs.declared.front.Front.TheVariants.{Ascii, Binary}
use Rattle.gd_load.specs.declared.incoming.Incoming.{Incoming}
use Rattle.gd_load.specs.declared.incoming.Stop.{Stop}
use Rattle.gd_load.specs.declared.incoming.Stop.TheVariants.{InputFailed, TooLong, Starved}
use Rattle.gd_loading.specs.Loads.{Bytes, CausedBy, Loads, LoadsOn, NoneAfter, Stored, behind, is_broken_by, whole}
use Rattle.gd_loading.specs.declared.loading.LoadEnd.{LoadEnd}
use Rattle.gd_loading.specs.declared.loading.LoadEnd.TheVariants as ends
use Rattle.gd_loading.specs.declared.loading.Plan.{Plan}
use Rattle.gd_loading.specs.declared.taking.Ending.{Ending}
use Rattle.gd_loading.specs.declared.taking.Ending.TheVariants.{Dump, Db}
use Rattle.gd_open.specs.Files.{FileBecomes}
use Rattle.gd_readable.specs.Asks.{Counts, IsAnswer, Refuses}
use Rattle.gd_store.specs.Opened.{Fits, IsAsked, IsCleared, IsOwn, MarksStay, NamesOwn, OnFile, Opened, OpenedAs, StandsFor, is_of_opening, open_due}
use Rattle.gd_store.specs.declared.access.Access.TheVariants.{Writer}
use Rattle.gd_store.specs.declared.access.How.{How}
use Rattle.gd_vault.specs.declared.vaults.FileId.{FileId}
use Rattle.gd_vault.specs.Changes.{Changed}
use Rattle.gd_vault.specs.Content.{Content}
use Rattle.gd_vault.specs.Events.Call.{Sync}
use Rattle.gd_vault.specs.Frame.{Within}
use Rattle.gd_vault.specs.Streams.{OnlyWrites}
use Rattle.gd_vault.specs.Views.{HasFile, IsAt, OnlyAsks, View}

-- ---- the database that is meant

-- a text is a name: it is UTF-8, and no name's fault is in it
abbrev pub is_name : Bytes → Bool
is_name text = is_utf8 text && is_none (name_fault text)

-- the name that a head gives, where it gives one
abbrev pub name_in : Option Bytes → Option Bytes
name_in None = None
name_in (Some text) = if is_name text then Some text else None

-- the name that was given, else that of the head
abbrev pub target : Option Bytes → Option Bytes → Option Bytes
target (Some name) file = Some name
target None file = name_in file

-- the format of the head, else the standard one
abbrev pub format_in : Option Format → Format
format_in (Some format) = format
format_in None = Standard

-- does a name stand for the file that is read?
abbrev pub is_used : Option FileId → Option ℕ → Bool
is_used (Some f) (Some g) = f.0 == g
is_used used id = false

-- the refusal of the file for which a name stands; where it stands for none a file is made
abbrev pub found_due : Content → Bytes → Option ℕ → Option DbError
found_due c name None = None
found_due c name (Some f) = open_due c name Writer

-- only an update opens the file that is there
abbrev pub target_due : Content → (update : Bool) → Bytes → Option DbError
target_due c update name = if update then found_due c name (c.names name) else None

-- the refusal of an opening
abbrev pub entry_due : Content → (update : Bool) → Option FileId → Bytes → Option DbError
entry_due c update used name = if is_used used (c.names name) then Some InUse else target_due c update name

-- which errors an opening has, whatever the vault tells, beside a fault and want of memory
abbrev pub is_of_target : (update : Bool) → DbError → Bool
is_of_target update (Exists Only) = true
is_of_target update e = update && is_of_opening Writer e

abbrev pub is_of_entry : (update is_read : Bool) → DbError → Bool
is_of_entry update is_read InUse = is_read
is_of_entry update is_read e = is_of_target update e

-- ---- the opening

-- an empty database was made, or the older file of the name became one
pub record Made (block : ℕ) (format : Format) (name : Bytes) (u v : View) (s : Opened) : Type 0 where
  pub asked : IsAsked block format s.header
  pub header : IsNewHeader s.header
  pub own : IsOwn u name s.file
  pub empty : OnFile v s.file (λ file. (file ≡ new_file format s.header.block s.header.dir_bits) × (records file ≡ []))
  pub cleared : IsCleared u v name s.file (new_file format s.header.block s.header.dir_bits)
  pub frame : Within (StandsFor u name) (λ n. n ≡ name) u v

-- the file that was there was opened as it is
pub record Found (name : Bytes) (u v : View) (s : Opened) : Type 0 where
  pub named : StandsFor u name s.file
  pub asks : OnlyAsks u v

-- where the content is told, the name stands for no file
abbrev pub IsAbsent : View → Bytes → Type 0
IsAbsent u name = IsAt u (λ c. c.names name ≡ None)

-- only an update opens the file that is there; an absent one is made
abbrev pub EntersBy : (update : Bool) → (block : ℕ) → Format → Bytes → View → View → Opened → Type 0
EntersBy false block format name u v s = Made block format name u v s
EntersBy true block format name u v s = Found name u v s ⊎ (IsAbsent u name × Made block format name u v s)

-- the database is open to write, by its name, and no refusal was due
pub record Entered (plan : Plan) (format : Format) (name : Bytes) (due : Content → Option DbError) (u v : View) (s : Opened) : Type 0 where
  pub opened : OpenedAs v name Writer plan.cache s
  pub there : HasFile v s.file
  pub fits : Fits v s
  pub none : IsAt u (λ c. due c ≡ None)
  pub enters : EntersBy plan.update plan.block format name u v s
  pub count : v.faults ≡ u.faults

-- what a fault in an opening leaves: all but the bytes of the name's file, and a name that stood for none may stand for a new
-- file; where an update finds a file nothing changes
pub record Spoiled (update : Bool) (name : Bytes) (u v : View) : Type 0 where
  pub frame : Within (StandsFor u name) (λ n. n ≡ name) u v
  pub names : NamesOwn u v name
  pub marks : MarksStay u v name
  pub found : update ≡ true → IsAt u (λ c. (f : ℕ) → c.names name ≡ Some f → v.told ≡ u.told)

abbrev pub LeavesAt : DbError → (update : Bool) → Bytes → View → View → Type 0
LeavesAt VaultFault update name u v = Spoiled update name u v
LeavesAt e update name u v = v.told ≡ u.told

-- the database was not opened: by the refusal that is due, a fault or want of memory
pub record NotEntered (plan : Plan) (name : Bytes) (due : Content → Option DbError) (kinds : DbError → Bool) (u v : View) (e : DbError) : Type 0 where
  pub is_due : Refuses e (Rose u.faults v.faults) (IsAt u (λ c. due c ≡ Some e))
  pub kind : IsAnswer kinds e
  pub leaves : LeavesAt e plan.update name u v
  pub count : Counts e u.faults v.faults

-- a call that opens the database
abbrev pub Enters : Plan → Format → Bytes → (Content → Option DbError) → (DbError → Bool) → View → View → Result Opened DbError → Type 0
Enters plan format name due kinds u v (Ok s) = Entered plan format name due u v s
Enters plan format name due kinds u v (Err e) = NotEntered plan name due kinds u v e

-- ---- the dump

-- a dump's head ends at a place, and of what is told behind it P holds
abbrev pub HeadThen : Bytes → DumpHead → ℕ → (Told → Type 0) → Type 0
HeadThen bytes h place P = (told : Told) × (dump_told bytes ≡ given (Head h) place told) × P told

-- these bytes were read of a source that has ended or not: P holds of the input, whatever comes behind them
abbrev pub Whatever : Bytes → Bool → (Bytes → Type 0) → Type 0
Whatever bytes ended P = (rest : Bytes) → MayCome ended rest → P (bytes ++ rest)

-- the head came
abbrev pub HeadComes : Bytes → Bool → DumpHead → ℕ → Type 0
HeadComes bytes ended h place = Whatever bytes ended (λ all. HeadThen all h place (λ told. Unit {0}))

-- the pairs that were stored are those that end in the bytes that were read, whatever comes behind them, and the dump was not refused
pub record PairsRead (h : DumpHead) (place : ℕ) (how : How) (f : ℕ) (u v : View) (bytes : Bytes) : Type 0 where
  pub pairs : List (Bytes × Bytes)
  pub stored : FileBecomes u v f (Stored how pairs)
  pub front : Front
  pub behind : (more : Bytes) → HeadThen (bytes ++ more) h place (λ told. whole told ≡ behind pairs (whole (front_left front more)))
  pub none : NoneEnds (front_left front) (length bytes)
  pub taken : front_taken front ≡ length bytes
  pub going : front_stop front ≡ None

-- after a fault of the input, or an input that is too long
abbrev pub PairsLeft : Result (Unit {0}) Ending → DumpHead → ℕ → How → ℕ → View → View → Bytes → Type 0
PairsLeft (Err (Dump InputFailed)) h place how f u v bytes = PairsRead h place how f u v bytes
PairsLeft (Err (Dump TooLong)) h place how f u v bytes = PairsRead h place how f u v bytes
PairsLeft r h place how f u v bytes = Unit {0}

-- ---- the pairs and the closing

-- what is seen of the source and of the vault
pub record Scene : Type 0 where
  pub left : Option Bytes
  pub failed : ℕ
  pub view : View

-- a database that is not broken is made durable, by one call; a broken one is left alone
abbrev pub ClosesAs : (broken : Bool) → ℕ → Result (Unit {0}) DbError → View → View → Type 0
ClosesAs false f closing u v = Changed (Sync f) closing u v
ClosesAs true f closing u v = (closing ≡ Ok tt) × (v ≡ u)

abbrev pub is_memory : Ending → Bool
is_memory (Dump Starved) = true
is_memory (Db OutOfMemory) = true
is_memory ending = false

-- the end of a load, by that of its pairs and that of the closing: the first refusal, but want of memory comes behind a closing that failed
abbrev pub ends_by : Result (Unit {0}) Ending → Result (Unit {0}) DbError → LoadEnd
ends_by (Ok x) (Ok y) = ends.Loaded
ends_by (Ok x) (Err e) = ends.Closing e
ends_by (Err ending) (Ok y) = ends.Pairs ending
ends_by (Err ending) (Err e) = if is_memory ending then ends.Closing e else ends.Pairs ending

-- the pairs of a dump were stored, up to its end or a stop, and the database was closed: of a source that this reader read
pub record PouredBy {M : Type 0} {g : Ghosts M} (how : How) (s : Opened) (i : Incoming M g) (old new : Scene) (end : LoadEnd) : Type 0 where
  pub pairs : Result (Unit {0}) Ending
  pub closing : Result (Unit {0}) DbError
  pub is : ends_by pairs closing ≡ end
  pub now : Incoming M g
  pub few : now.read ≤ 2 ^ 32
  pub reads : ReadOn old.left new.left (LoadsOn how s.file old.view new.view i now pairs)
  pub none : NoneAfter now pairs
  pub ends : EndsWith now.ended new.left
  pub writes : OnlyWrites s.file old.view new.view
  pub mid : View
  pub cause : CausedBy pairs old.failed new.failed now.read old.view.faults mid.faults
  pub closes : ClosesAs (is_broken_by pairs) s.file closing mid new.view

abbrev pub PouredFront : How → Opened → Front → Scene → Scene → LoadEnd → Type 0
PouredFront how s (Ascii dump) old new end = PouredBy how s dump old new end
PouredFront how s (Binary dump) old new end = PouredBy how s dump old new end

-- the same for a dump of either kind, where these bytes were read of the source
pub record Poured (how : How) (h : DumpHead) (place : ℕ) (s : Opened) (u : View) (old new : Scene) (bytes : Bytes) (ended : Bool) (end : LoadEnd) : Type 0 where
  pub pairs : Result (Unit {0}) Ending
  pub closing : Result (Unit {0}) DbError
  pub is : ends_by pairs closing ≡ end
  pub loads : Whatever bytes ended (λ all. HeadThen all h place (λ told. Loads how s.file u new.view (whole told) pairs))
  pub left : PairsLeft pairs h place how s.file u new.view bytes
  pub writes : OnlyWrites s.file u new.view
  pub mid : View
  pub cause : CausedBy pairs old.failed new.failed (length bytes) u.faults mid.faults
  pub closes : ClosesAs (is_broken_by pairs) s.file closing mid new.view

-- ---- the load

-- the head was refused, or the source ended it: the vault is as it was
pub record Headless (old new : Scene) (bytes : Bytes) (ended : Bool) (stop : Stop) : Type 0 where
  pub begins : Begins bytes ended (Err stop)
  pub cause : Counted {T = Unit {0}} (Err stop) old.failed new.failed
  pub same : new.view ≡ old.view

-- no name was given, and none is in the head
pub record Nameless (name : Option Bytes) (old new : Scene) (bytes : Bytes) (ended : Bool) (place : ℕ) : Type 0 where
  pub head : DumpHead
  pub came : HeadComes bytes ended head place
  pub none : target name head.file ≡ None
  pub count : new.failed ≡ old.failed
  pub same : new.view ≡ old.view

-- the name is that which is meant; where memory is wanted for it, nothing is said
abbrev pub NamedFor : DbError → Option Bytes → Bytes → Type 0
NamedFor OutOfMemory meant text = Unit {0}
NamedFor e meant text = meant ≡ Some text

-- the head came, and the database was not opened
pub record Unopened (plan : Plan) (name : Option Bytes) (used : Option FileId) (old new : Scene) (bytes : Bytes) (ended : Bool) (e : DbError) : Type 0 where
  pub head : DumpHead
  pub place : ℕ
  pub came : HeadComes bytes ended head place
  pub text : Bytes
  pub named : NamedFor e (target name head.file) text
  pub refused : NotEntered plan text (λ c. entry_due c plan.update used text) (is_of_entry plan.update (is_some used)) old.view new.view e
  pub count : new.failed ≡ old.failed

-- the database was opened, and pairs were stored
pub record Ran (plan : Plan) (name : Option Bytes) (used : Option FileId) (old new : Scene) (bytes : Bytes) (ended : Bool) (end : LoadEnd) : Type 0 where
  pub head : DumpHead
  pub place : ℕ
  pub text : Bytes
  pub named : target name head.file ≡ Some text
  pub opened : View
  pub store : Opened
  pub entered : Entered plan (format_in head.format) text (λ c. entry_due c plan.update used text) old.view opened store
  pub poured : Poured plan.how head place store opened old new bytes ended end

-- by how it ended
abbrev pub LoadsBy : Plan → Option Bytes → Option FileId → Scene → Scene → Bytes → Bool → LoadEnd → Type 0
LoadsBy plan name used old new bytes ended (ends.Head stop) = Headless old new bytes ended stop
LoadsBy plan name used old new bytes ended (ends.Unnamed place) = Nameless name old new bytes ended place
LoadsBy plan name used old new bytes ended (ends.Opening e) = Unopened plan name used old new bytes ended e
LoadsBy plan name used old new bytes ended end = Ran plan name used old new bytes ended end

-- these bytes were read of the source, and ended says whether it has ended
pub record LoadsOver (plan : Plan) (name : Option Bytes) (used : Option FileId) (old new : Scene) (end : LoadEnd) (bytes : Bytes) : Type 0 where
  pub few : length bytes ≤ 2 ^ 32
  pub ended : Bool
  pub ends : EndsWith ended new.left
  pub by : LoadsBy plan name used old new bytes ended end

-- a whole load
abbrev pub LoadsAs : Plan → Option Bytes → Option FileId → Scene → Scene → LoadEnd → Type 0
LoadsAs plan name used old new end = ReadOn old.left new.left (LoadsOver plan name used old new end)
