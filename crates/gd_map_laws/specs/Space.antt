-- The space of a file: each byte is in one extent at most.
use Rattle.std.specs.Prelude.{◌≡◌, ◌≢◌, ℕ, zero, suc, ◌+◌, ◌*◌, ◌<◌, ◌≤◌, Bool, false, ◌&&◌, nat_le, nat_lt, List, ◌++◌, if◌then◌else◌}
use Rattle.gd_format.specs.declared.Header.{Header}
use Rattle.gd_format.specs.declared.Extent.{Extent}
use Rattle.gd_format.specs.declared.Slot.{Slot}
use Rattle.gd_format.specs.declared.Slot.TheVariants.{Empty, Full}
use Rattle.gd_format.specs.HeaderFault.{natural}
use Rattle.gd_format.specs.Bucket.{counts_at, slots_at, free_at}
use Rattle.gd_format.specs.File.{entry_at, entries_of, block_of, is_first}
use Rattle.gd_format.specs.Slots.{count, SameSlots}
use Rattle.gd_format.specs.Covers.{has_byte, cover}
use Rattle.gd_format.specs.Sound.{extent}

abbrev pub slot_has : ℕ → Slot → Bool
slot_has b Empty = false
slot_has b (Full hash start at k v) = has_byte (extent at (k + v)) b

abbrev pub one_if : Bool → ℕ
one_if holds = if holds then 1 else 0

-- the free extents of a bucket, by its block
abbrev pub free_in : List ℕ → List Extent
free_in block = free_at block (natural (counts_at block).free)

-- those of the bucket of an entry
unfoldable pub free_of : List ℕ → Header → ℕ → List Extent
free_of file h i = let block = block_of file h i in free_at block (natural (counts_at block).free)

abbrev pub block_has : List ℕ → Header → ℕ → ℕ → Bool
block_has file h i b = has_byte (extent (natural (entry_at file h i)) h.block) b

-- how many extents of a bucket have a byte: its block, its records, its free extents
unfoldable pub bucket_cover : List ℕ → Header → ℕ → ℕ → ℕ
bucket_cover file h b i = one_if (block_has file h i b) + count (slot_has b) (slots_at (block_of file h i) h.elems) + cover (free_of file h i) b

-- the sum of f over the numbers below n that pass
abbrev pub sum_of : (ℕ → Bool) → (ℕ → ℕ) → ℕ → ℕ
sum_of p f zero = 0
sum_of p f (suc n) = sum_of p f n + (if p n then f n else 0)

-- the same of a file, with the extents of its table and its stack
unfoldable pub all_cover : List ℕ → Header → List Extent → ℕ → ℕ
all_cover file h pool b =
    one_if (has_byte (extent 0 h.block) b) + one_if (has_byte (extent h.dir (8 * entries_of h)) b)
    + sum_of (is_first file h) (bucket_cover file h b) (entries_of h) + cover pool b

pub record IsSpaceRight (file : List ℕ) (h : Header) (next : ℕ) (pool : List Extent) : Type 0 where
  pub once : (b : ℕ) → all_cover file h pool b ≤ 1
  pub below : (b : ℕ) → 0 < all_cover file h pool b → b < next

abbrev pub grown : ℕ → ℕ → ℕ → ℕ
grown next next' b = one_if (nat_le next b && nat_lt b next')

-- the bucket of the entry i changes alone, and what the space loses and gains balances
pub record SpaceChange (old new : List ℕ) (h : Header) (i : ℕ) (gone come rest : List Slot) (next next' : ℕ) (pool pool' : List Extent) : Type 0 where
  pub entries : (j : ℕ) → j < entries_of h → entry_at new h j ≡ entry_at old h j
  pub others : (j : ℕ) → j < entries_of h → entry_at old h j ≢ entry_at old h i → block_of new h j ≡ block_of old h j
  pub before_is : SameSlots (slots_at (block_of old h i) h.elems) (gone ++ rest)
  pub after_is : SameSlots (slots_at (block_of new h i) h.elems) (come ++ rest)
  pub grows : next ≤ next'
  pub moves : (b : ℕ) → cover pool' b + cover (free_of new h i) b + count (slot_has b) come ≤ cover pool b + cover (free_of old h i) b + count (slot_has b) gone + grown next next' b

abbrev pub SpaceLaw : Type 0
SpaceLaw =
    (old new : List ℕ) (h : Header) (i : ℕ) (gone come rest : List Slot) (next next' : ℕ) (pool pool' : List Extent) → i < entries_of h
    → IsSpaceRight old h next pool → SpaceChange old new h i gone come rest next next' pool pool' → IsSpaceRight new h next' pool'
