-- A bucket by its list of slots.
use Rattle.std.specs.Prelude.{◌≡◌, ℕ, ◌+◌, ◌-◌, ◌/◌, ◌^◌, ◌≤◌, Bool, true, not, ◌&&◌, ◌||◌, ◌==◌, nat_le, List, length, take}
use Rattle.std.specs.Str.{bytes_eq}
use Rattle.gd_format.specs.declared.Header.{Header}
use Rattle.gd_format.specs.declared.Slot.{Slot}
use Rattle.gd_format.specs.declared.Slot.TheVariants.{Empty, Full}
use Rattle.gd_format.specs.Hash.{hash_of}
use Rattle.gd_format.specs.Field.{bytes_at}
use Rattle.gd_format.specs.Bucket.{slots_at, is_bucket}
use Rattle.gd_format.specs.File.{bits_at, is_count_right}
use Rattle.gd_format.specs.Slots.{count, AreReached}
use Rattle.gd_file_laws.specs.Parts.{IsBucketRight}
use Rattle.gd_map_laws.specs.Lookup.{AreKeysOnce, slot_records}

unfoldable pub is_slot_key : ℕ → ℕ → ℕ → List ℕ → List ℕ → Bool
is_slot_key bits top hash start key = hash == hash_of key && hash / 2 ^ (31 - bits) == top && bytes_eq (take 4 key) (take (length (take 4 key)) start)

unfoldable pub is_place_in : ℕ → ℕ → ℕ → Bool
is_place_in len at size = nat_le size (2 ^ 30) && (size == 0 || nat_le (at + size) len)

-- what a full slot has to be by itself, under the top bits of the run
abbrev pub is_good : List ℕ → ℕ → ℕ → Slot → Bool
is_good file bits top Empty = true
is_good file bits top (Full hash start at k v) = is_place_in (length file) at (k + v) && is_slot_key bits top hash start (bytes_at file at k)

abbrev pub is_bad : List ℕ → ℕ → ℕ → Slot → Bool
is_bad file bits top slot = not (is_good file bits top slot)

-- the slots of a bucket are right
pub record AreSlotsRight (file : List ℕ) (bits top elems : ℕ) (slots : List Slot) : Type 0 where
  pub good : count (is_bad file bits top) slots ≡ 0
  pub once : AreKeysOnce (slot_records file slots)
  pub reached : AreReached slots elems

abbrev pub SlotsOfBucket : Type 0
SlotsOfBucket =
    (file : List ℕ) (h : Header) (block : List ℕ) (top : ℕ) → IsBucketRight file h block top
    → AreSlotsRight file (bits_at block) top h.elems (slots_at block h.elems)

-- a bucket whose fields are right is right where its slots are
abbrev pub BucketOfSlots : Type 0
BucketOfSlots =
    (file : List ℕ) (h : Header) (block : List ℕ) (top : ℕ)
    → is_bucket block h.elems ≡ true → is_count_right block h.elems ≡ true → bits_at block ≤ h.dir_bits
    → AreSlotsRight file (bits_at block) top h.elems (slots_at block h.elems)
    → IsBucketRight file h block top
