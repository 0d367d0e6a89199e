-- What writes leave: a byte that is not touched reads as it read.
use Rattle.std.specs.Prelude.{◌≡◌, ◌≢◌, ℕ, ◌+◌, ◌*◌, ◌<◌, ◌≤◌, List, ◌++◌, length, max}
use Rattle.std.specs.List.{AllByRecursion}
use Rattle.gd_format.specs.declared.Header.{Header}
use Rattle.gd_format.specs.declared.Extent.{Extent}
use Rattle.gd_format.specs.declared.Slot.{Slot}
use Rattle.gd_format.specs.Field.{bytes_at}
use Rattle.gd_format.specs.HeaderFault.{natural}
use Rattle.gd_format.specs.Bucket.{slots_at}
use Rattle.gd_format.specs.File.{entry_at, entries_of, block_of}
use Rattle.gd_format.specs.Slots.{count, SameSlots}
use Rattle.gd_format.specs.Sound.{extent}
use Rattle.gd_format.specs.Covers.{has_byte, cover}
use Rattle.gd_file_laws.specs.Parts.{HasParts}
use Rattle.gd_file_laws.specs.Frame.{written}
use Rattle.gd_map_laws.specs.Update.{IsRecordKept, IsBucketStill}
use Rattle.gd_map_laws.specs.Space.{one_if, slot_has, block_has, free_of, IsSpaceRight}

-- each range without a touched byte reads as it read
pub record KeepsBut (touched : ℕ → ℕ) (old new : List ℕ) : Type 0 where
  pub longer : length old ≤ length new
  pub bytes : (at n : ℕ) → at + n ≤ length old → ((b : ℕ) → at ≤ b → b < at + n → touched b ≡ 0) → bytes_at new at n ≡ bytes_at old at n

-- what a change of the bucket of the entry i may touch
unfoldable pub touched_of : List ℕ → Header → ℕ → List Extent → List Slot → ℕ → ℕ
touched_of file h i pool gone b =
    one_if (has_byte (extent 0 h.block) b) + one_if (block_has file h i b) + cover pool b + cover (free_of file h i) b + count (slot_has b) gone

pub record Stays (old new : List ℕ) (h : Header) (i : ℕ) (rest : List Slot) : Type 0 where
  pub entries : (j : ℕ) → j < entries_of h → entry_at new h j ≡ entry_at old h j
  pub others : (j : ℕ) → j < entries_of h → entry_at old h j ≢ entry_at old h i → IsBucketStill old new h j
  pub kept : AllByRecursion (IsRecordKept old new) rest

abbrev pub StaysLaw : Type 0
StaysLaw =
    (old new : List ℕ) (h : Header) (i next : ℕ) (pool : List Extent) (gone rest : List Slot) → i < entries_of h → h.dir + 8 * entries_of h ≤ length old
    → HasParts old h → IsSpaceRight old h next pool → SameSlots (slots_at (block_of old h i) h.elems) (gone ++ rest)
    → KeepsBut (touched_of old h i pool gone) old new → Stays old new h i rest

abbrev pub KeepsJoin : Type 0
KeepsJoin = (f g t : ℕ → ℕ) (a b c : List ℕ) → ((x : ℕ) → x < length a → t x ≡ 0 → (f x ≡ 0) × (g x ≡ 0)) → KeepsBut f a b → KeepsBut g b c → KeepsBut t a c

abbrev pub WriteKeeps : Type 0
WriteKeeps = (file : List ℕ) (at : ℕ) (bs : List ℕ) → KeepsBut (λ b. one_if (has_byte (extent at (length bs)) b)) file (written file at bs)

-- more may be touched
abbrev pub KeepsMore : Type 0
KeepsMore = (f t : ℕ → ℕ) (a b : List ℕ) → ((x : ℕ) → x < length a → t x ≡ 0 → f x ≡ 0) → KeepsBut f a b → KeepsBut t a b

-- what was written reads there, and so it does after what doesn't touch it
abbrev pub WrittenReads : Type 0
WrittenReads =
    (touched : ℕ → ℕ) (file new : List ℕ) (at : ℕ) (bs : List ℕ) → KeepsBut touched (written file at bs) new → ((b : ℕ) → at ≤ b → b < at + length bs → touched b ≡ 0)
    → bytes_at new at (length bs) ≡ bs

abbrev pub WrittenSize : Type 0
WrittenSize = (file : List ℕ) (at : ℕ) (bs : List ℕ) → length (written file at bs) ≡ max (length file) (at + length bs)

-- the same where the directory is touched too: all but the entries stays
pub record StaysAside (old new : List ℕ) (h : Header) (i : ℕ) (rest : List Slot) : Type 0 where
  pub blocks : (j : ℕ) → j < entries_of h → entry_at old h j ≢ entry_at old h i → bytes_at new (natural (entry_at old h j)) h.block ≡ block_of old h j
  pub records : (j : ℕ) → j < entries_of h → entry_at old h j ≢ entry_at old h i → AllByRecursion (IsRecordKept old new) (slots_at (block_of old h j) h.elems)
  pub kept : AllByRecursion (IsRecordKept old new) rest

abbrev pub StaysAsideLaw : Type 0
StaysAsideLaw =
    (old new : List ℕ) (h : Header) (i next : ℕ) (pool : List Extent) (gone rest : List Slot) → i < entries_of h
    → HasParts old h → IsSpaceRight old h next pool → SameSlots (slots_at (block_of old h i) h.elems) (gone ++ rest)
    → KeepsBut (λ b. one_if (has_byte (extent h.dir (8 * entries_of h)) b) + touched_of old h i pool gone b) old new → StaysAside old new h i rest
