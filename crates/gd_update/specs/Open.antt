-- A file that may be changed, and the bucket that is changed.
use Rattle.std.specs.Prelude.{◌≡◌, ℕ, ◌+◌, ◌^◌, ◌<◌, nat_lt, if◌then◌else◌, List, [], ◌∷◌, Option, Some, None, get_or}
use Rattle.gd_format.specs.declared.Extent.{Extent}
use Rattle.gd_format.specs.declared.Header.{Header}
use Rattle.gd_format.specs.declared.Slot.{Slot}
use Rattle.gd_format.specs.declared.Slot.TheVariants.{Empty, Full}
use Rattle.gd_format.specs.Field.{bytes_at}
use Rattle.gd_format.specs.Avail.{Avail, avail_at}
use Rattle.gd_format.specs.Bucket.{Bucket, bucket_at}
use Rattle.gd_format.specs.File.{front_of}
use Rattle.gd_format.specs.HeaderFault.{header_of}
use Rattle.gd_format.specs.Sound.{IsSound, extent, most_of, table_of}
use Rattle.gd_map_laws.specs.Lookup.{lookup, slot_records, index_of}
use Rattle.gd_map_laws.specs.Change.{place_of}
use Rattle.gd_space.specs.Effect.{CanBeGiven, give_growth}

-- the file is sound, and it has this header and this table of free space
pub record IsOpen (file : List ℕ) (h : Header) (table : Avail) : Type 0 where
  pub sound : IsSound file
  pub header_is : h ≡ header_of (front_of file)
  pub table_is : table ≡ avail_at (table_of file h) (most_of h)

-- the directory has this address for the key, and there stands this bucket
pub record IsHere (file : List ℕ) (h : Header) (at : ℕ) (bucket : Bucket) (key : List ℕ) : Type 0 where
  pub place_is : at ≡ place_of file h (index_of h key)
  pub bucket_is : bucket ≡ bucket_at (bytes_at file at h.block) h.elems

-- the key of a slot's record
abbrev pub slot_key : List ℕ → Slot → List ℕ
slot_key file Empty = []
slot_key file (Full hash start at k v) = bytes_at file at k

-- the place is that of the slot with the key, or no slot has the key
abbrev pub IsPlaceOf : List ℕ → List Slot → List ℕ → Option ℕ → Type 0
IsPlaceOf file slots key (Some p) = slot_key file (get_or slots p Empty) ≡ key
IsPlaceOf file slots key None = lookup key (slot_records file slots) ≡ None

-- the bytes of a slot's record
abbrev pub slot_size : Slot → ℕ
slot_size Empty = 0
slot_size (Full hash start at k v) = k + v

abbrev pub slot_extents : Slot → List Extent
slot_extents Empty = []
slot_extents (Full hash start at k v) = extent at (k + v) ∷ []

-- the record of a slot, where it has a byte, may be given back
abbrev pub MayGoBack : ℕ → List Extent → Slot → Type 0
MayGoBack next free Empty = Unit {0}
MayGoBack next free (Full hash start at k v) = 0 < k + v → CanBeGiven next free (extent at (k + v))

-- by how much the file grows where the record of a slot is given back, unless no field of an extent holds its size
abbrev pub slot_growth : Slot → Header → List Extent → List Extent → ℕ
slot_growth Empty h table bucket = 0
slot_growth (Full hash start at k v) h table bucket = if nat_lt (k + v) (2 ^ 31) then give_growth (extent at (k + v)) h table bucket else 0
