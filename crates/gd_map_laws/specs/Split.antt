-- A bucket is split in two, and its run of the directory is halved; a directory is doubled.
use Rattle.std.specs.Prelude.{◌≡◌, ◌≢◌, ℕ, ◌+◌, ◌-◌, ◌*◌, ◌/◌, ◌^◌, ◌<◌, ◌≤◌, pos, true, List, ◌++◌, length}
use Rattle.std.specs.List.{AllByRecursion}
use Rattle.gd_format.specs.declared.Header.{Header}
use Rattle.gd_format.specs.Field.{bytes_at}
use Rattle.gd_format.specs.HeaderFault.{is_within, natural}
use Rattle.gd_format.specs.Bucket.{slots_at, is_bucket}
use Rattle.gd_format.specs.File.{bits_at, is_count_right, entry_at, entries_of, run_at, block_of}
use Rattle.gd_format.specs.Slots.{count, AreReached, SameSlots, is_astray}
use Rattle.gd_file_laws.specs.Parts.{HasParts}
use Rattle.gd_map_laws.specs.Lookup.{value_at}
use Rattle.gd_map_laws.specs.Update.{IsRecordKept}

-- one of the two buckets that a split makes
pub record HalfBucket (old new : List ℕ) (h : Header) (bits side : ℕ) (block : List ℕ) : Type 0 where
  pub bits_more : bits_at block ≡ bits + 1
  pub fields : is_bucket block h.elems ≡ true
  pub number : is_count_right block h.elems ≡ true
  pub kept : AllByRecursion (IsRecordKept old new) (slots_at block h.elems)
  pub parted : count (is_astray bits side) (slots_at block h.elems) ≡ 0
  pub reached : AreReached (slots_at block h.elems) h.elems

-- the bucket of the entry i stands in two halves, of which the second has the place at
pub record SplitChange (old new : List ℕ) (h : Header) (i at bits half q : ℕ) : Type 0 where
  pub bits_is : bits_at (block_of old h i) ≡ bits
  pub less : bits < h.dir_bits
  pub half_is : half ≡ 2 ^ (h.dir_bits - (bits + 1))
  pub q_is : i / run_at old h i ≡ q
  pub longer : length old ≤ length new
  pub low : (j : ℕ) → j < entries_of h → j / half ≢ 2 * q + 1 → entry_at new h j ≡ entry_at old h j
  pub high : (j : ℕ) → j < entries_of h → j / half ≡ 2 * q + 1 → entry_at new h j ≡ pos at
  pub fresh : (j : ℕ) → j < entries_of h → entry_at old h j ≢ pos at
  pub in_file : is_within (pos at) 0 (length new - h.block) ≡ true
  pub others : (j : ℕ) → j < entries_of h → entry_at old h j ≢ entry_at old h i → bytes_at new (natural (entry_at old h j)) h.block ≡ block_of old h j
  pub records : (j : ℕ) → j < entries_of h → entry_at old h j ≢ entry_at old h i → AllByRecursion (IsRecordKept old new) (slots_at (block_of old h j) h.elems)
  pub first : HalfBucket old new h bits 0 (bytes_at new (natural (entry_at old h i)) h.block)
  pub second : HalfBucket old new h bits 1 (bytes_at new at h.block)
  pub same : SameSlots (slots_at (block_of old h i) h.elems) (slots_at (bytes_at new (natural (entry_at old h i)) h.block) h.elems ++ slots_at (bytes_at new at h.block) h.elems)

pub record MapStays (old new : List ℕ) (h h' : Header) : Type 0 where
  pub parts : HasParts new h'
  pub map : (key : List ℕ) → value_at new h' key ≡ value_at old h key

abbrev pub SplitLaw : Type 0
SplitLaw =
    (old new : List ℕ) (h : Header) (i at bits half q : ℕ) → h.dir_bits ≤ 24 → HasParts old h → i < entries_of h
    → SplitChange old new h i at bits half q → MapStays old new h h

-- each entry comes twice, in a new place
pub record DoubleChange (old new : List ℕ) (h h' : Header) : Type 0 where
  pub block : h'.block ≡ h.block
  pub bits : h'.dir_bits ≡ h.dir_bits + 1
  pub elems : h'.elems ≡ h.elems
  pub longer : length old ≤ length new
  pub entries : (j : ℕ) → j < entries_of h' → entry_at new h' j ≡ entry_at old h (j / 2)
  pub blocks : (j : ℕ) → j < entries_of h → bytes_at new (natural (entry_at old h j)) h.block ≡ block_of old h j
  pub records : (j : ℕ) → j < entries_of h → AllByRecursion (IsRecordKept old new) (slots_at (block_of old h j) h.elems)

abbrev pub DoubleLaw : Type 0
DoubleLaw = (old new : List ℕ) (h h' : Header) → h'.dir_bits ≤ 24 → HasParts old h → DoubleChange old new h h' → MapStays old new h h'
