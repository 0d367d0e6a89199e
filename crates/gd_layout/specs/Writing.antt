-- What stands in a block where a slot, an extent, a header or a block of free space was written.
use Rattle.std.specs.Prelude.{◌≡◌, ℕ, ◌+◌, ◌*◌, ◌<◌, ◌≤◌, pos, true, List, [], ◌∷◌, length, get_or, slice_index, slice_index_or}
use Rattle.std.specs.Int.{w64, cast_signed}
use Rattle.gd_format.specs.declared.Extent.{Extent}
use Rattle.gd_format.specs.declared.Header.{Header}
use Rattle.gd_format.specs.declared.RawAvail.{RawAvail}
use Rattle.gd_format.specs.declared.RawSlot.{RawSlot}
use Rattle.gd_format.specs.declared.RawExtent.{RawExtent}
use Rattle.gd_format.specs.Field.{bytes_at, u32_at, i32_at, i64_at}
use Rattle.gd_format.specs.declared.Slot.TheVariants.{Empty}
use Rattle.gd_format.specs.Bucket.{Bucket, extent_of}
use Rattle.gd_format.specs.Avail.{Avail, is_extent_right}
use Rattle.gd_format.specs.HeaderFault.{RawHeader, dir_size_of}
use Rattle.gd_layout.specs.Fits.{FitsExtent}

unfoldable pub raw_slot_from : List ℕ → ℕ → RawSlot
raw_slot_from block at =
    record {
      hash = i32_at block at;
      start = bytes_at block (at + 4) 4;
      at = i64_at block (at + 8);
      key_size = i32_at block (at + 16);
      value_size = i32_at block (at + 20);
    }

unfoldable pub raw_extent_from : List ℕ → ℕ → RawExtent
raw_extent_from block at = record { size = i32_at block at; at = i64_at block (at + 8) }

-- the extent stands at a place, with zeros between its fields
pub record IsPut (block : List ℕ) (at : ℕ) (e : Extent) : Type 0 where
  pub reads : extent_of (raw_extent_from block at) ≡ e
  pub right : FitsExtent e → is_extent_right (raw_extent_from block at) ≡ true
  pub padding : u32_at block (at + 4) ≡ 0

-- these extents stand one after another from a place on
abbrev pub ArePut : List ℕ → ℕ → List Extent → Type 0
ArePut block at es = (k : ℕ) (d : Extent) → k < length es → IsPut block (at + 16 * k) (get_or es k d)

-- the block of a bucket has zeros for all that is no field: behind the number of free extents, between the fields of each,
-- from the last of them to the bits, behind the hash of an empty slot, and behind the slots
pub record HasZeros (block : List ℕ) (b : Bucket) : Type 0 where
  pub behind_count : (i : ℕ) → 4 ≤ i → i < 8 → slice_index block i ≡ 0
  pub padding : (e : ℕ) → e < length b.free → u32_at block (12 + 16 * e) ≡ 0
  pub behind_free : (i : ℕ) → 8 + 16 * length b.free ≤ i → i < 104 → slice_index block i ≡ 0
  pub empty : (s i : ℕ) → s < length b.slots → slice_index_or b.slots s Empty ≡ Empty → 4 ≤ i → i < 24 → slice_index block (112 + 24 * s + i) ≡ 0
  pub behind_slots : (i : ℕ) → 112 + 24 * length b.slots ≤ i → slice_index block i ≡ 0

-- the fields of a header as they stand in its block
abbrev pub raw_header_from : Header → RawHeader
raw_header_from h = record {
  magic = h.magic;
  block = pos h.block;
  dir = pos h.dir;
  dir_size = pos (dir_size_of h.dir_bits);
  dir_bits = pos h.dir_bits;
  bucket_size = pos h.block;
  elems = pos h.elems;
  next_block = pos h.next_block;
}

-- the fields that the numsync format alone has
pub record HasWords (block : List ℕ) (h : Header) : Type 0 where
  pub version : u32_at block 40 ≡ h.version
  pub numsync : u32_at block 44 ≡ h.numsync
  pub reserved : u32_at block 48 ∷ u32_at block 52 ∷ u32_at block 56 ∷ u32_at block 60 ∷ u32_at block 64 ∷ u32_at block 68 ∷ [] ≡ h.reserved

-- the head of a block of free space as it stands
abbrev pub raw_avail_from : Avail → ℕ → RawAvail
raw_avail_from a size = record { size = pos size; count = pos (length a.extents); next_block = cast_signed w64 a.next_block }
