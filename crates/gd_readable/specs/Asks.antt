-- What is known of one file of a vault that is only asked.
use Rattle.std.specs.Prelude.{◌≡◌, ◌+◌, ◌<◌, ◌≤◌, ℕ, Bool, true, false, List, length, Option, Some, None, option_map, is_some}
use Rattle.std.specs.Option.{option_and_then}
use Rattle.gd_base.specs.Causes.{Rose}
use Rattle.gd_base.specs.declared.errors.DbError.{DbError}
use Rattle.gd_base.specs.declared.errors.DbError.TheVariants.{BlockSize, ShortFile, BadMagic, ByteSwapped, WrongOffset, BadHeader, BadDirEntry, BadBucket, BadHashTable, BadHashEntry, BadAvail, NeedRecovery, VaultFault, OutOfMemory, Absent}
use Rattle.gd_format.specs.File.{file_fault}
use Rattle.gd_readable.specs.declared.reading.Stopped.{Stopped}
use Rattle.gd_readable.specs.declared.reading.Stopped.TheVariants.{Fault, NoMemory}
use Rattle.gd_vault.specs.Content.{File, Content}
use Rattle.gd_vault.specs.Views.{Told, View, content_of}

-- what calls that ask leave as it was
pub record Kept : Type 0 where
  pub told : Told
  pub bytes_written : ℕ
  pub clones : ℕ

unfoldable pub kept_of : View → Kept
kept_of v = record { told = v.told; bytes_written = v.bytes_written; clones = v.clones }

abbrev pub file_in : Option Content → ℕ → Option (List ℕ)
file_in told f = option_and_then (λ (c : Content). option_map (λ (x : File). x.bytes) (c.files f)) told

-- the bytes of a file, where the content is told
unfoldable pub bytes_in : Kept → ℕ → Option (List ℕ)
bytes_in k f = file_in (content_of k.told) f

abbrev pub is_file_in : Option Content → ℕ → Bool
is_file_in None f = true
is_file_in (Some c) f = is_some (c.files f)

-- where the content is told, the id has a file
unfoldable pub is_there : Kept → ℕ → Bool
is_there k f = is_file_in (content_of k.told) f

-- P holds of the bytes that are told
abbrev pub Tells : Option (List ℕ) → (List ℕ → Type 0) → Type 0
Tells told P = (file : List ℕ) → told ≡ Some file → P file

-- why a check ended before its answer
abbrev pub IsCause : Stopped → ℕ → ℕ → Type 0
IsCause Fault before now = Rose before now
IsCause NoMemory before now = now ≡ before

-- the bytes from a place on, where there are any, lie in the file
abbrev pub IsIn : List ℕ → ℕ → ℕ → Type 0
IsIn file at size = 0 < size → at + size ≤ length file

-- is an error a refusal of a bucket or of an entry of the directory?
abbrev pub is_of_bucket : DbError → Bool
is_of_bucket (BadDirEntry index) = true
is_of_bucket (BadBucket at) = true
is_of_bucket (BadHashTable at) = true
is_of_bucket (BadHashEntry at slot) = true
is_of_bucket e = false

-- a refusal of a file that is read?
abbrev pub is_of_readable : DbError → Bool
is_of_readable BlockSize = true
is_of_readable ShortFile = true
is_of_readable BadMagic = true
is_of_readable ByteSwapped = true
is_of_readable WrongOffset = true
is_of_readable BadHeader = true
is_of_readable e = is_of_bucket e

-- a refusal of a file that is written?
abbrev pub is_of_sound : DbError → Bool
is_of_sound (BadAvail at) = true
is_of_sound NeedRecovery = true
is_of_sound e = is_of_readable e

-- does an error speak of the file alone?
abbrev pub is_of_file : DbError → Bool
is_of_file VaultFault = false
is_of_file OutOfMemory = false
is_of_file Absent = false
is_of_file e = true

-- why a call was refused: a fault, want of memory, or what the file is
abbrev pub Refuses : DbError → (fault refusal : Type 0) → Type 0
Refuses VaultFault fault refusal = fault
Refuses OutOfMemory fault refusal = Unit {0}
Refuses e fault refusal = refusal

-- which errors a call may answer, whatever the vault tells: a fault, want of memory, and these
abbrev pub IsAnswer : (DbError → Bool) → DbError → Type 0
IsAnswer p e = Refuses e (Unit {0}) (p e ≡ true)

-- a fault raises the count of faults, and every other error leaves it
abbrev pub Counts : DbError → ℕ → ℕ → Type 0
Counts VaultFault before now = Rose before now
Counts e before now = now ≡ before

-- why a file was not read: a fault of the vault, want of memory, or the first refusal of the file
abbrev pub RefusesFile : DbError → ℕ → View → View → Type 0
RefusesFile e f old new = Refuses e (Rose old.faults new.faults) ((c : Content) (x : File) → content_of old.told ≡ Some c → c.files f ≡ Some x → file_fault x.bytes ≡ Some e)

-- why a walk over a readable file ended: a fault of the vault, want of memory, or a vault that doesn't tell its content
abbrev pub RefusesWalk : DbError → View → View → Type 0
RefusesWalk e old new = Refuses e (Rose old.faults new.faults) (content_of old.told ≡ None)

abbrev pub error_of : Stopped → DbError
error_of Fault = VaultFault
error_of NoMemory = OutOfMemory
