-- An image of what a crash leaves, as it follows the log.
use Rattle.std.specs.Prelude.{◌≡◌, ◌≢◌, ◌⊎◌, ◌<◌, ◌≤◌, ◌==◌, ℕ, Bool, true, false, List, [], ◌++◌, length, slice_get, drop, Some, None, fold, take}
use Rattle.std.specs.List.{list_all}
use Rattle.gd_vault.specs.Content.{File, Content}
use Rattle.gd_vault.specs.Events.{Call, Event, content_after}
use Rattle.gd_vault.specs.Events.Call.{Sync}
use Rattle.gd_vault.specs.History.{CutShort, FileLeft, MayMake, MayName, NameLeft, NameStep, NoLonger, left, was}
use Rattle.gd_vault.specs.Views.Told.{Records}
use Rattle.gd_memvault.specs.DiskData.{DiskData}
use Rattle.gd_memvault.specs.declared.log.Entry.{Entry}
use Rattle.gd_memvault.specs.Log.{add_entry}
use Rattle.gd_memvault.specs.Disk.{disk_content, names_of}
use Rattle.gd_memvault.specs.Memory.{MemState, fresh, memory_told}

-- each file and each name is one that a crash may leave after these events, and all files are there
pub record Candidate (first : Content) (es : List Event) (image : DiskData) : Type 0 where
  pub files : (f : ℕ) (x : File) → slice_get image.files f ≡ Some x → FileLeft first es f x
  pub there : (f : ℕ) → f < length image.files → (content_after first es).files f ≢ None
  pub all : (f : ℕ) → (content_after first es).files f ≢ None → f < length image.files
  pub names : (n : List ℕ) → NameLeft first es n (names_of image.names n)

-- the files that are there, over an event
pub record FileSteps (e : Event) (old new : List File) : Type 0 where
  pub count : length new ≡ length old
  pub synced : (f : ℕ) (x : File) → e.call ≡ Sync f → e.ok ≡ true → slice_get new f ≡ Some x → e.after.files f ≡ Some x
  pub stepped : (f : ℕ) (x : File) → (e.call ≡ Sync f → e.ok ≡ false) → slice_get new f ≡ Some x → (y : File) × (slice_get old f ≡ Some y) × CutShort e.call f y x × NoLonger e f y x

-- the names, over an event
abbrev pub NameSteps : Event → List ℕ → DiskData → DiskData → Type 0
NameSteps e n old new = NameStep e n (λ z. z ≡ names_of old.names n) (names_of new.names n)

-- an image over an event, of which the disk is what was after it
pub record Steps (e : Event) (disk old new : DiskData) : Type 0 where
  pub kept : (kept : List File) × FileSteps e old.files kept × (new.files ≡ kept ++ drop (length kept) disk.files)
  pub names : (n : List ℕ) → NameSteps e n old new

-- the names inside a call, and the file that it may have made
pub record RunsNames (before : Content) (call : Call) (old new : DiskData) : Type 0 where
  pub kept : (f : ℕ) (x : File) → slice_get new.files f ≡ Some x → f < length old.files → slice_get old.files f ≡ Some x
  pub made : (f : ℕ) (x : File) → slice_get new.files f ≡ Some x → length old.files ≤ f → MayMake call x
  pub grows : length old.files ≤ length new.files
  pub names : (n : List ℕ) → (names_of new.names n ≡ names_of old.names n) ⊎ MayName before call n (names_of new.names n)
  pub placed : (n : List ℕ) (id : ℕ) → names_of new.names n ≡ Some id → (names_of new.names n ≡ names_of old.names n) ⊎ ((id < length new.files) ⊎ ((m : List ℕ) × (before.names m ≡ Some id)))

-- an image inside a call
pub record Runs (before : Content) (e : Event) (old new : DiskData) : Type 0 where
  pub middle : (kept : List File) × FileSteps e old.files kept × RunsNames before e.call (record { names = old.names; files = kept }) new

-- the events of the first so many entries
abbrev pub events_at : Content → List Entry → ℕ → List Event
events_at first entries i = fold (add_entry first) [] (take i entries)

-- a crash may leave this disk
abbrev pub IsLeft : MemState → ℕ → DiskData → Type 0
IsLeft m t disk = (first : Content) (es : List Event) → memory_told m ≡ Records first es → left first es t (disk_content disk)

-- each choice is 0
abbrev pub is_quiet : List ℕ → Bool
is_quiet pick = list_all (λ n. n == 0) pick

-- the disk is what the vault was at the moment
abbrev pub IsWas : MemState → ℕ → DiskData → Type 0
IsWas m t disk = (first : Content) (es : List Event) → memory_told m ≡ Records first es → disk_content disk ≡ was first es t

-- a vault that holds what another was at a moment, and in which nothing was called
abbrev pub HoldsWas : MemState → ℕ → MemState → Type 0
HoldsWas m t v = (first : Content) (es : List Event) → memory_told m ≡ Records first es → memory_told v ≡ Records (was first es t) []

-- a vault that holds an image of a moment, and in which nothing was called
abbrev pub HoldsImage : MemState → ℕ → MemState → Type 0
HoldsImage m t v = (disk : DiskData) × (v ≡ fresh disk (Some (record { entries = []; idle = 0 }))) × IsLeft m t disk
