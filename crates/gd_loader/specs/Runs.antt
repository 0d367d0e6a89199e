-- The run of the loader.
use Rattle.std.specs.Prelude.{◌≡◌, ◌⊎◌, ℕ, ◌^◌, ◌≤◌, Bool, true, false, List, length, Option, Some, None}
use Rattle.gd_base.specs.declared.errors.DbError.{DbError}
use Rattle.gd_base.specs.declared.errors.DbError.TheVariants as errors
use Rattle.gd_dump_reading.specs.declared.items.DumpKind.TheVariants.{Parameter}
use Rattle.gd_load.specs.declared.incoming.Stop.{Stop}
use Rattle.gd_load.specs.declared.incoming.Stop.TheVariants as stops
use Rattle.gd_loading.specs.Load.{LoadsAs, Scene}
use Rattle.gd_loading.specs.declared.loading.LoadEnd.{LoadEnd}
use Rattle.gd_loading.specs.declared.loading.LoadEnd.TheVariants as loads
use Rattle.gd_loading.specs.declared.loading.Plan.{Plan}
use Rattle.gd_loading.specs.declared.taking.Ending.TheVariants.{Dump, Db}
use Rattle.gd_store.specs.Opened.{StandsFor}
use Rattle.gd_store.specs.declared.access.How.{How}
use Rattle.gd_store.specs.declared.access.How.TheVariants.{Insert, Replace}
use Rattle.gd_vault.specs.Views.{IsAt, OnlyAsks, View}
use Rattle.gd_vault.specs.declared.vaults.FileId.{FileId}
use Rattle.gd_words.specs.Meaning.{load_reading}
use Rattle.gd_words.specs.declared.load.LoadWords.{LoadWords}
use Rattle.gd_loader.specs.Ends.{Says, Text}
use Rattle.gd_loader.specs.Held.{AtFile, NotRead, readable_front}
use Rattle.gd_loader.specs.declared.ending.RunEnd.{RunEnd}
use Rattle.gd_loader.specs.declared.ending.RunEnd.TheVariants.{Loaded, Misused, Refused, Damaged, InputFailed, TooLong, Starved}

-- what is seen of a source and of the vault, before or after a run
abbrev pub scene : Option Text → ℕ → View → Scene
scene left failed view = record { left = left; failed = failed; view = view }

-- ---- what the words ask for

-- do the pairs of the dump take the place of those that are there?
abbrev pub how_of : (replace : Bool) → How
how_of true = Replace
how_of false = Insert

abbrev pub plan_of : LoadWords → Plan
plan_of w = record { block = w.block; cache = w.cache; how = how_of w.replace; update = w.update }

-- ---- how the run ends, by how the load ended

abbrev pub stop_end : Stop → RunEnd
stop_end (stops.Refused kind place) = Damaged kind place
stop_end stops.InputFailed = InputFailed
stop_end stops.TooLong = TooLong
stop_end stops.Starved = Starved

abbrev pub error_end : DbError → RunEnd
error_end errors.OutOfMemory = Starved
error_end e = Refused e

-- a head that names no database is refused where it ends
abbrev pub end_of : LoadEnd → RunEnd
end_of loads.Loaded = Loaded
end_of (loads.Head stop) = stop_end stop
end_of (loads.Unnamed place) = Damaged Parameter place
end_of (loads.Opening e) = error_end e
end_of (loads.Pairs (Dump stop)) = stop_end stop
end_of (loads.Pairs (Db e)) = error_end e
end_of (loads.Closing e) = Refused e

-- ---- a dump from standard input

pub record FromInput (plan : Plan) (db : Option Text) (end : RunEnd) (old new : Scene) : Type 0 where
  pub load : LoadEnd
  pub is : end ≡ end_of load
  pub loads : LoadsAs plan db None old new load

-- ---- a dump from a file of the vault

-- why the file was not read: its name stands for none, a fault of the vault, or want of memory
abbrev pub FileRefused : DbError → (file : Text) → (u v : View) → Type 0
FileRefused errors.Absent file u v = IsAt u (λ c. c.names file ≡ None) × (v.faults ≡ u.faults)
FileRefused e file u v = NotRead e u.faults v.faults

-- the file was not read, and the vault was only asked
pub record Unread (file : Text) (end : RunEnd) (u v : View) : Type 0 where
  pub error : DbError
  pub is : end ≡ error_end error
  pub why : FileRefused error file u v
  pub asks : OnlyAsks u v

-- the file was read, at most 2^32 bytes of it, and these bytes were loaded; the database may not be that file
pub record Read (plan : Plan) (db : Option Text) (file : Text) (end : RunEnd) (u v : View) : Type 0 where
  pub id : FileId
  pub named : StandsFor u file id.0
  pub bytes : Text
  pub is_front : AtFile u id.0 (λ x. bytes ≡ readable_front x)
  pub few : length bytes ≤ 2 ^ 32
  pub mid : View
  pub asks : OnlyAsks u mid
  pub count : mid.faults ≡ u.faults
  pub load : LoadEnd
  pub is : end ≡ end_of load
  pub rest : Text
  pub loads : LoadsAs plan db (Some id) (scene (Some bytes) 0 mid) (scene (Some rest) 0 v) load

-- standard input is left alone
pub record FromFile (plan : Plan) (db : Option Text) (file : Text) (end : RunEnd) (old new : Scene) : Type 0 where
  pub left : new.left ≡ old.left
  pub count : new.failed ≡ old.failed
  pub reads : Unread file end old.view new.view ⊎ Read plan db file end old.view new.view

abbrev pub From : Option Text → Plan → (db : Option Text) → RunEnd → (old new : Scene) → Type 0
From None plan db end old new = FromInput plan db end old new
From (Some file) plan db end old new = FromFile plan db file end old new

-- ---- the run

-- the words are refused, or no memory was found for them
abbrev pub Unbegun : Option LoadWords → RunEnd → Type 0
Unbegun meant Misused = meant ≡ None
Unbegun meant Starved = Unit {0}
Unbegun meant end = ⊥

-- the dump that the words name was loaded, up to its end or a stop
pub record Begun (meant : Option LoadWords) (end : RunEnd) (old new : Scene) : Type 0 where
  pub words : LoadWords
  pub reads : meant ≡ Some words
  pub from : From words.input (plan_of words) words.db end old new

-- where no load was begun nothing is read, and the vault is not asked
abbrev pub Comes : Option LoadWords → RunEnd → (old new : Scene) → Type 0
Comes meant end old new = (Unbegun meant end × (new ≡ old)) ⊎ Begun meant end old new

-- there is one way in which the run ended: why it came, what became of standard input and of the vault, and what was said
pub record LoadRuns (words : List Text) (status : ℕ) (old new : Scene) (err_before err_now : ℕ) (err0 err1 : Option Text) : Type 0 where
  pub end : RunEnd
  pub comes : Comes (load_reading words) end old new
  pub says : Says end status err_before err_now err0 err1

-- the dump was stored to its end, or no memory was found
abbrev pub IsQuiet : (status : ℕ) → Type 0
IsQuiet status = (status ≡ 0) ⊎ (status ≡ 4)

-- no call of standard input, of the vault and of standard error failed
pub record NoneFailed (old new : Scene) (err_before err_now : ℕ) : Type 0 where
  pub input : new.failed ≡ old.failed
  pub vault : new.view.faults ≡ old.view.faults
  pub err : err_now ≡ err_before
