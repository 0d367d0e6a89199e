-- Where a key is looked for, and its slot.
use Rattle.std.specs.Prelude.{◌≡◌, ℕ, List, get_or, Option, Some, None}
use Rattle.gd_format.specs.declared.Header.{Header}
use Rattle.gd_format.specs.declared.Slot.TheVariants.{Empty}
use Rattle.gd_format.specs.Field.{bytes_at}
use Rattle.gd_format.specs.HeaderFault.{natural}
use Rattle.gd_format.specs.Bucket.{Bucket, bucket_at}
use Rattle.gd_format.specs.File.{entry_at}
use Rattle.gd_map_laws.specs.Lookup.{index_of}
use Rattle.gd_lookup.specs.Finding.{IsKeyAbsent, IsKeyBucket, IsKeySlot}

-- the slot at the place is that of the key, or no slot is
abbrev pub IsPlaceOf : List ℕ → List ℕ → Bucket → Option ℕ → Type 0
IsPlaceOf file key bucket None = IsKeyAbsent file key bucket.slots
IsPlaceOf file key bucket (Some p) = IsKeySlot file key (get_or bucket.slots p Empty)

-- the bucket of the key's entry, and the place of its slot
pub record IsFoundIn (file : List ℕ) (h : Header) (key : List ℕ) (at : ℕ) (found : Bucket) (p : Option ℕ) : Type 0 where
  pub address : at ≡ natural (entry_at file h (index_of h key))
  pub bucket : found ≡ bucket_at (bytes_at file at h.block) h.elems
  pub slots : IsKeyBucket file key found.slots
  pub place : IsPlaceOf file key found p
