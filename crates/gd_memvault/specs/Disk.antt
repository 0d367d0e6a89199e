-- The content of a disk in memory.
use Rattle.std.specs.Prelude.{◌≡◌, ◌≢◌, ◌+◌, ◌<◌, ◌^◌, ℕ, List, [], ◌∷◌, length, Option, Some, None, slice_get, bytes_eq, if◌then◌else◌}
use Rattle.gd_vault.specs.Content.{File, Content}
use Rattle.gd_vault.specs.Events.{Call}
use Rattle.gd_vault.specs.Events.Call.{Create, Write, Truncate, Clone_into, Set_mode, Sync, Sync_names, Replace, Remove}
use Rattle.gd_memvault.specs.DiskData.{DiskData}
use Rattle.gd_memvault.specs.declared.disk.NameEntry.{NameEntry}
use Rattle.gd_memvault.specs.declared.steps.Step.{Step}
use Rattle.gd_memvault.specs.declared.steps.Step.TheVariants.{Create as create, Write as write, Truncate as truncate, CloneInto as clone_into, SetMode as set_mode, Sync as sync, SyncNames as sync_names, Replace as replace, Remove as remove}

-- for what a name stands after more entries
abbrev pub id_after : List ℕ → Option ℕ → List NameEntry → Option ℕ
id_after n id [] = id
id_after n id (e ∷ es) = id_after n (if bytes_eq e.name n then e.id else id) es

abbrev pub names_of : List NameEntry → List ℕ → Option ℕ
names_of entries n = id_after n None entries

abbrev pub disk_content : DiskData → Content
disk_content d = record { names = names_of d.names; files = slice_get d.files }

abbrev pub call_of : Step → Call
call_of (create name mode) = Create name mode
call_of (write f at bytes) = Write f at bytes
call_of (truncate f) = Truncate f
call_of (clone_into dst src stamp) = Clone_into dst src stamp
call_of (set_mode f mode) = Set_mode f mode
call_of (sync f) = Sync f
call_of sync_names = Sync_names
call_of (replace from to) = Replace from to
call_of (remove name) = Remove name

-- a write ends before the longest length, and a clone's source is there
abbrev pub CanDo : Step → Content → Type 0
CanDo (write f at bytes) c = at + length bytes < 2 ^ 63
CanDo (clone_into dst src stamp) c = c.files src ≢ None
CanDo step c = Unit {0}

-- the name stands for a new file
pub record AddsFile (name : List ℕ) (file : File) (id : ℕ) (c d : Content) : Type 0 where
  pub named : d.names name ≡ Some id
  pub other_names : (n : List ℕ) → n ≢ name → d.names n ≡ c.names n
  pub unused : c.files id ≡ None
  pub made : d.files id ≡ Some file
  pub other_files : (f : ℕ) → f ≢ id → d.files f ≡ c.files f
