-- A block of free space: its head of 16 bytes, and its extents of 16 bytes each.
use Rattle.std.specs.Prelude.{ℕ, ◌+◌, ◌*◌, ℤ, Bool, not, ◌&&◌, ◌==◌, List}
use Rattle.std.specs.Int.{w64, cast_unsigned}
use Rattle.gd_format.specs.declared.Extent.{Extent}
use Rattle.gd_format.specs.declared.RawAvail.{RawAvail}
use Rattle.gd_format.specs.declared.RawExtent.{RawExtent}
use Rattle.gd_format.specs.Field.{i32_at, i64_at}
use Rattle.gd_format.specs.First.{all_below, list_below}
use Rattle.gd_format.specs.HeaderFault.{is_within, natural}
use Rattle.gd_format.specs.Bucket.{is_from_zero, extent_of}

unfoldable pub raw_avail_at : List ℕ → RawAvail
raw_avail_at block = record { size = i32_at block 0; count = i32_at block 4; next_block = i64_at block 8 }

abbrev pub count_at : List ℕ → ℤ
count_at block = (raw_avail_at block).count

-- the address of the next block; one below 0 stands as the same bits read without a sign
unfoldable pub next_at : List ℕ → ℕ
next_at block = cast_unsigned w64 (raw_avail_at block).next_block

unfoldable pub raw_extent_at : List ℕ → ℕ → RawExtent
raw_extent_at block e = record { size = i32_at block (16 + 16 * e); at = i64_at block (24 + 16 * e) }

-- a size of at least 1 and an address of at least 0
unfoldable pub is_extent_right : RawExtent → Bool
is_extent_right r = is_from_zero r.size && not (natural r.size == 0) && is_from_zero r.at

unfoldable pub is_extent_right_at : List ℕ → ℕ → Bool
is_extent_right_at block e = is_extent_right (raw_extent_at block e)

-- the bytes that a block with so many extents takes
abbrev pub avail_size : ℕ → ℕ
avail_size count = 16 + 16 * count

-- the block has from 0 to most extents, and each is right
unfoldable pub is_avail : List ℕ → ℕ → Bool
is_avail block most = is_within (count_at block) 0 most && all_below (natural (count_at block)) (is_extent_right_at block)

unfoldable pub extent_at : List ℕ → ℕ → Extent
extent_at block e = extent_of (raw_extent_at block e)

abbrev pub extents_at : List ℕ → List Extent
extents_at block = list_below (natural (count_at block)) (extent_at block)

-- a block of free space with the room for so many extents
pub record Avail : Type 0 where
  pub extents : List Extent
  pub next_block : ℕ
  pub room : ℕ

unfoldable pub avail_at : List ℕ → ℕ → Avail
avail_at block most = record { extents = extents_at block; next_block = next_at block; room = most }
