-- The block of a bucket, as it is read and written.
use Rattle.std.specs.Prelude.{◌≡◌, ◌⊎◌, ◌+◌, ◌<◌, ◌≤◌, ℕ, true, false, List, [], ◌∷◌, ◌++◌, length, Some, Result}
use Rattle.gd_base.specs.Causes.{Rose}
use Rattle.gd_format.specs.Bucket.{Bucket, bucket_at, is_bucket}
use Rattle.gd_format.specs.Field.{bytes_at}
use Rattle.gd_format.specs.File.{is_count_right}
use Rattle.gd_format.specs.HeaderFault.{slots_of}
use Rattle.gd_layout.specs.Writing.{HasZeros}
use Rattle.gd_vault.specs.Content.{File, Content}
use Rattle.gd_vault.specs.Events.Call.{Write}
use Rattle.gd_vault.specs.Changes.{Wrote}
use Rattle.gd_vault.specs.Views.{View, IsAt}
use Rattle.gd_cache.specs.declared.errors.CacheError.{CacheError}
use Rattle.gd_cache.specs.declared.errors.CacheError.TheVariants.{VaultFault, BadBucket, OutOfMemory}

-- a file has the block at an address, and that is this bucket
pub record IsBucketOf (file : List ℕ) (block at : ℕ) (b : Bucket) : Type 0 where
  pub inside : at + block ≤ length file
  pub right : is_bucket (bytes_at file at block) (slots_of block) ≡ true
  pub is : b ≡ bucket_at (bytes_at file at block) (slots_of block)

-- a file ends before the end of the block at an address, or that is no bucket
abbrev pub IsNoBucket : List ℕ → ℕ → ℕ → Type 0
IsNoBucket file block at = (length file < at + block) ⊎ (is_bucket (bytes_at file at block) (slots_of block) ≡ false)

-- P of the bytes of a file, where the vault tells its content
abbrev pub IsOfBytes : View → ℕ → (List ℕ → Type 0) → Type 0
IsOfBytes v f P = IsAt v (λ (content : Content). (x : File) → content.files f ≡ Some x → P x.bytes)

-- why a bucket was not read: the vault failed once, or its reads were answered and the block at the address is no bucket
abbrev pub IsCause : CacheError → ℕ → ℕ → ℕ → View → View → Type 0
IsCause VaultFault f block at old new = Rose old.faults new.faults × (new.faults ≤ old.faults + 1)
IsCause (BadBucket a) f block at old new = (a ≡ at) × (new.faults ≡ old.faults) × IsOfBytes old f (λ file. IsNoBucket file block at)
IsCause OutOfMemory f block at old new = new.faults ≡ old.faults

-- one read more, of the whole block at an address, where the vault tells its content
abbrev pub ReadsBlock : ℕ → ℕ → ℕ → View → View → Type 0
ReadsBlock f block at old new = IsAt old (λ (content : Content). new.reads ≡ old.reads ++ (record { f = f; at = at; size = block }) ∷ [])

-- a block spells this bucket
pub record SpellsBucket (block : ℕ) (b : Bucket) (bytes : List ℕ) : Type 0 where
  pub size : length bytes ≡ block
  pub reads : bucket_at bytes (slots_of block) ≡ b
  pub right : is_bucket bytes (slots_of block) ≡ true
  pub count : is_count_right bytes (slots_of block) ≡ true
  pub zeros : HasZeros bytes b

-- one write, of a block that spells this bucket
abbrev pub WritesBucket : {T E : Type 0} → ℕ → ℕ → ℕ → Bucket → Result T E → View → View → Type 0
WritesBucket f block at b result old new = (bytes : List ℕ) × SpellsBucket block b bytes × Wrote (Write f at bytes) block result old new
