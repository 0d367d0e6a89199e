-- A split by what it writes: entries, two blocks, free space and the header's block.
use Rattle.std.specs.Prelude.{◌≡◌, ◌≢◌, ℕ, ◌+◌, ◌-◌, ◌*◌, ◌/◌, ◌^◌, ◌<◌, ◌≤◌, pos, true, List, [], ◌++◌, length}
use Rattle.gd_format.specs.declared.Header.{Header}
use Rattle.gd_format.specs.declared.Extent.{Extent}
use Rattle.gd_format.specs.Field.{bytes_at}
use Rattle.gd_format.specs.Bucket.{slots_at, is_bucket}
use Rattle.gd_format.specs.File.{bits_at, is_count_right, entry_at, entries_of, run_at, block_of}
use Rattle.gd_format.specs.Slots.{count, AreReached, SameSlots, is_astray}
use Rattle.gd_format.specs.Sound.{extent}
use Rattle.gd_format.specs.Covers.{has_byte}
use Rattle.gd_map_laws.specs.Space.{one_if}
use Rattle.gd_map_laws.specs.Frame.{KeepsBut, touched_of}
use Rattle.gd_map_laws.specs.Change.{place_of, IsSoundFile}
use Rattle.gd_map_laws.specs.Split.{SplitChange}
use Rattle.gd_map_laws.specs.SplitSpace.{SplitMoves}

-- one of the two blocks
pub record HalfMade (h : Header) (bits side : ℕ) (block : List ℕ) : Type 0 where
  pub bits_more : bits_at block ≡ bits + 1
  pub fields : is_bucket block h.elems ≡ true
  pub number : is_count_right block h.elems ≡ true
  pub parted : count (is_astray bits side) (slots_at block h.elems) ≡ 0
  pub reached : AreReached (slots_at block h.elems) h.elems

-- the bucket of the entry i keeps its place with the first half, and the second half stands at a place that was free
pub record SplitWritten (old new : List ℕ) (h : Header) (i at bits half q next next' : ℕ) (pool pool' : List Extent) : Type 0 where
  pub bits_is : bits_at (block_of old h i) ≡ bits
  pub less : bits < h.dir_bits
  pub half_is : half ≡ 2 ^ (h.dir_bits - (bits + 1))
  pub q_is : i / run_at old h i ≡ q
  pub keeps : KeepsBut (λ b. one_if (has_byte (extent h.dir (8 * entries_of h)) b) + touched_of old h i pool [] b) old new
  pub low : (j : ℕ) → j < entries_of h → j / half ≢ 2 * q + 1 → entry_at new h j ≡ entry_at old h j
  pub high : (j : ℕ) → j < entries_of h → j / half ≡ 2 * q + 1 → entry_at new h j ≡ pos at
  pub second_in : at + h.block ≤ length new
  pub moves : SplitMoves old new h i at next next' pool pool'
  pub first : HalfMade h bits 0 (bytes_at new (place_of old h i) h.block)
  pub second : HalfMade h bits 1 (bytes_at new at h.block)
  pub same : SameSlots (slots_at (block_of old h i) h.elems) (slots_at (bytes_at new (place_of old h i) h.block) h.elems ++ slots_at (bytes_at new at h.block) h.elems)

abbrev pub SplitFromWrites : Type 0
SplitFromWrites =
    (old new : List ℕ) (h : Header) (i at bits half q next next' : ℕ) (pool pool' : List Extent) → 0 < h.block → IsSoundFile old h next pool → i < entries_of h
    → SplitWritten old new h i at bits half q next next' pool pool' → SplitChange old new h i at bits half q
