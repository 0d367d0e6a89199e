-- Which errors a read of an open database answers, and when; the place of a bucket, and entries of the directory.
use Rattle.std.specs.Prelude.{◌≡◌, ℕ, ◌+◌, ◌*◌, ◌<◌, Bool, true, false, List}
use Rattle.gd_base.specs.declared.errors.DbError.{DbError}
use Rattle.gd_base.specs.declared.errors.DbError.TheVariants.{BadDirEntry, BadBucket, BadHashTable, BadHashEntry, VaultFault, OutOfMemory}
use Rattle.gd_format.specs.declared.Header.{Header}
use Rattle.gd_format.specs.Field.{i64_at}
use Rattle.gd_format.specs.HeaderFault.{natural}
use Rattle.gd_format.specs.File.{entries_of, entry_at}
use Rattle.gd_vault.specs.Views.{View}
use Rattle.gd_readable.specs.Asks.{RefusesWalk}

-- the errors of reads
abbrev pub is_of_read : DbError → Bool
is_of_read VaultFault = true
is_of_read OutOfMemory = true
is_of_read (BadDirEntry index) = true
is_of_read (BadBucket at) = true
is_of_read (BadHashTable at) = true
is_of_read (BadHashEntry at slot) = true
is_of_read e = false

-- why a read was refused: a fault of the vault, want of memory, or a vault that doesn't tell its content
pub record RefusesRead (e : DbError) (old new : View) : Type 0 where
  pub kind : is_of_read e ≡ true
  pub cause : RefusesWalk e old new

-- the address of a bucket: that of an entry of the directory
pub record IsBucketPlace (file : List ℕ) (h : Header) (at : ℕ) : Type 0 where
  pub index : ℕ
  pub within : index < entries_of h
  pub place : at ≡ natural (entry_at file h index)

-- the buffer has entries of the file
pub record ReadsEntries (file : List ℕ) (place count : ℕ) (buffer : List ℕ) : Type 0 where
  pub entries : (k : ℕ) → k < count → i64_at buffer (8 * k) ≡ i64_at file (place + 8 * k)
