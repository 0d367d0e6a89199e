-- What the part of a bucket depends on, and which writes leave it as it is.
use Rattle.std.specs.Prelude.{◌≡◌, ◌⊎◌, ℕ, ◌+◌, ◌-◌, ◌*◌, ◌<◌, ◌≤◌, true, List, ◌++◌, length, take, drop, replicate}
use Rattle.gd_format.specs.declared.Header.{Header}
use Rattle.gd_format.specs.Field.{bytes_at}
use Rattle.gd_format.specs.Bucket.{raw_slot_at}
use Rattle.gd_format.specs.HeaderFault.{natural}
use Rattle.gd_format.specs.File.{entry_at, entries_of, block_of, is_full_at, bucket_records, key_at, value_of}
use Rattle.gd_file_laws.specs.Parts.{HasParts, IsBucketRight}

-- the entry, its block and the key of each full slot read alike in a file that is no shorter
pub record IsPartStill (old new : List ℕ) (h : Header) (i : ℕ) : Type 0 where
  pub longer : length old ≤ length new
  pub entry : bytes_at new (h.dir + 8 * i) 8 ≡ bytes_at old (h.dir + 8 * i) 8
  pub block : bytes_at new (natural (entry_at old h i)) h.block ≡ block_of old h i
  pub keys : (s : ℕ) → s < h.elems → is_full_at (block_of old h i) s ≡ true → key_at new (block_of old h i) s ≡ key_at old (block_of old h i) s

pub record PartKept (old new : List ℕ) (h : Header) (i top : ℕ) : Type 0 where
  pub entry : entry_at new h i ≡ entry_at old h i
  pub block : block_of new h i ≡ block_of old h i
  pub part : IsBucketRight new h (block_of new h i) top

abbrev pub StillKeepsPart : Type 0
StillKeepsPart = (old new : List ℕ) (h : Header) (i top : ℕ) → IsPartStill old new h i → IsBucketRight old h (block_of old h i) top → PartKept old new h i top

-- the values of full slots read alike too
abbrev pub AreValuesStill : List ℕ → List ℕ → Header → ℕ → Type 0
AreValuesStill old new h i =
    (s : ℕ) → s < h.elems → is_full_at (block_of old h i) s ≡ true → value_of new (raw_slot_at (block_of old h i) s) ≡ value_of old (raw_slot_at (block_of old h i) s)

abbrev pub StillKeepsRecords : Type 0
StillKeepsRecords =
    (old new : List ℕ) (h : Header) (i : ℕ) → IsPartStill old new h i → AreValuesStill old new h i
    → bucket_records new h.elems (block_of new h i) ≡ bucket_records old h.elems (block_of old h i)

-- ---- a write

-- the file after a write, which fills a gap past its end with zeros
unfoldable pub written : List ℕ → ℕ → List ℕ → List ℕ
written file at bs = take at (file ++ replicate (at - length file) 0) ++ bs ++ drop (at + length bs) file

-- the ranges of n bytes from a and of m bytes from b have no byte in common
abbrev pub AreApart : (a n b m : ℕ) → Type 0
AreApart a n b m = (a + n ≤ b) ⊎ (b + m ≤ a)

-- n bytes from a place on are apart from the entry, its block and the key of each full slot
pub record IsAside (file : List ℕ) (h : Header) (i at n : ℕ) : Type 0 where
  pub entry : AreApart (h.dir + 8 * i) 8 at n
  pub block : AreApart (natural (entry_at file h i)) h.block at n
  pub keys : (s : ℕ) → s < h.elems → is_full_at (block_of file h i) s ≡ true → 0 < natural (raw_slot_at (block_of file h i) s).key_size → AreApart (natural (raw_slot_at (block_of file h i) s).at) (natural (raw_slot_at (block_of file h i) s).key_size) at n

-- and from the value of each full slot
abbrev pub IsAsideOfValues : List ℕ → Header → (i at n : ℕ) → Type 0
IsAsideOfValues file h i at n =
    (s : ℕ) → s < h.elems → is_full_at (block_of file h i) s ≡ true → 0 < natural (raw_slot_at (block_of file h i) s).value_size → AreApart (natural (raw_slot_at (block_of file h i) s).at + natural (raw_slot_at (block_of file h i) s).key_size) (natural (raw_slot_at (block_of file h i) s).value_size) at n

-- a write aside of a bucket keeps its part, wherever it stands, past the end too
abbrev pub WriteKeepsPart : Type 0
WriteKeepsPart =
    (file : List ℕ) (h : Header) (i at : ℕ) (bs : List ℕ) → h.dir + 8 * entries_of h ≤ length file → HasParts file h → i < entries_of h
    → IsAside file h i at (length bs) → IsPartStill file (written file at bs) h i

abbrev pub WriteKeepsValues : Type 0
WriteKeepsValues =
    (file : List ℕ) (h : Header) (i at : ℕ) (bs : List ℕ) → HasParts file h → i < entries_of h
    → IsAsideOfValues file h i at (length bs) → AreValuesStill file (written file at bs) h i
