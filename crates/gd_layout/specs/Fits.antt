-- What a bucket, a block of free space and a header hold, so that they can be written.
use Rattle.std.specs.Prelude.{◌≡◌, ℕ, ◌+◌, ◌^◌, ◌<◌, ◌≤◌, true, false, List, length, replicate, if◌then◌else◌}
use Rattle.std.specs.List.{All}
use Rattle.gd_base.specs.declared.errors.Format.TheVariants.{Standard, Numsync}
use Rattle.gd_format.specs.declared.Extent.{Extent}
use Rattle.gd_format.specs.declared.Header.{Header}
use Rattle.gd_format.specs.declared.Slot.{Slot}
use Rattle.gd_format.specs.HeaderFault.{is_native, is_numsync, dir_size_of}
use Rattle.gd_format.specs.Headers.{IsHeader}
use Rattle.gd_format.specs.declared.Slot.TheVariants.{Empty, Full}

-- the fields of a slot, which have a sign, hold its numbers
abbrev pub FitsFields : Slot → Type 0
FitsFields Empty = Unit {0}
FitsFields (Full hash start at k v) = (hash < 2 ^ 31) × (at < 2 ^ 63) × (k < 2 ^ 31) × (v < 2 ^ 31)

-- a bucket's numbers are in range, and there is room for six free extents
pub record FitsBucket (depth : ℕ) (extents : List Extent) (table : List Slot) (room : ℕ) : Type 0 where
  pub bits : depth ≤ 24
  pub free : length extents ≤ 6
  pub spare : 6 ≤ room
  pub elems : length table < 2 ^ 32
  pub slots : All FitsFields table

-- a block of free space has no more extents than its room
pub record FitsAvail (extents : List Extent) (most room : ℕ) : Type 0 where
  pub few : length extents ≤ most
  pub spare : most ≤ room
  pub small : most < 2 ^ 32

-- a free extent: a size of at least 1, and numbers that the fields, which have a sign, hold
pub record FitsExtent (e : Extent) : Type 0 where
  pub some : 0 < e.size
  pub size : e.size < 2 ^ 31
  pub at : e.at < 2 ^ 63

-- the fields of a header hold its numbers; the standard format has no version, no numsync and no reserved words
pub record FitsHeader (h : Header) : Type 0 where
  pub format : h.format ≡ (if is_numsync h.magic then Numsync else Standard)
  pub block : h.block < 2 ^ 31
  pub dir : h.dir < 2 ^ 63
  pub bits : h.dir_bits < 28
  pub elems : h.elems < 2 ^ 31
  pub next_block : h.next_block < 2 ^ 63
  pub avail_size : h.avail_size < 2 ^ 31
  pub words : is_numsync h.magic ≡ false → (h.version ≡ 0) × (h.numsync ≡ 0) × (h.reserved ≡ replicate 6 0)

-- a header that no test refuses in a file of len bytes
pub record IsHeaderOf (h : Header) (len : ℕ) : Type 0 where
  pub header : IsHeader h
  pub magic : is_native h.magic ≡ true
  pub block : h.block ≤ len
  pub dir : h.dir + dir_size_of h.dir_bits ≤ len
