-- Which slots a look-up meets, and where a slot is inserted.
use Rattle.std.specs.Prelude.{◌≡◌, ℕ, ◌+◌, ◌%◌, ◌<◌, ◌≤◌, Bool, true, false, ◌&&◌, ◌==◌, List, length, take, get_or}
use Rattle.std.specs.Str.{bytes_eq}
use Rattle.gd_format.specs.declared.Slot.{Slot}
use Rattle.gd_format.specs.declared.Slot.TheVariants.{Empty, Full}
use Rattle.gd_format.specs.Slots.{is_full}

-- the slot that comes d places after the home of a hash, from the last slot on to slot 0
abbrev pub slot_after : List Slot → ℕ → ℕ → Slot
slot_after slots hash d = get_or slots ((hash % length slots + d) % length slots) Empty

-- a full slot whose hash, key size and first bytes, at most four, are those of a key
abbrev pub is_candidate : ℕ → List ℕ → Slot → Bool
is_candidate hash key Empty = false
is_candidate hash key (Full h start at k v) = h == hash && k == length key && bytes_eq (take 4 key) (take (length (take 4 key)) start)

-- the next candidate from a distance on, before the first empty slot and the end of the round
pub record IsNextCandidate (slots : List Slot) (hash : ℕ) (key : List ℕ) (from d : ℕ) : Type 0 where
  pub low : from ≤ d
  pub high : d < length slots
  pub here : is_candidate hash key (slot_after slots hash d) ≡ true
  pub full : (e : ℕ) → from ≤ e → e < d → is_full (slot_after slots hash e) ≡ true
  pub none : (e : ℕ) → from ≤ e → e < d → is_candidate hash key (slot_after slots hash e) ≡ false

-- each candidate from a distance on, up to the end of the round, comes after an empty slot
abbrev pub HasNoCandidate : List Slot → ℕ → List ℕ → ℕ → Type 0
HasNoCandidate slots hash key from =
    (d : ℕ) → from ≤ d → d < length slots → is_candidate hash key (slot_after slots hash d) ≡ true
    → (e : ℕ) × (from ≤ e) × (e < d) × (is_full (slot_after slots hash e) ≡ false)

-- the place is the first empty one from the home of a hash on
pub record IsFirstEmpty (slots : List Slot) (hash place : ℕ) : Type 0 where
  pub distance : ℕ
  pub in_round : distance < length slots
  pub place_is : place ≡ (hash % length slots + distance) % length slots
  pub full : (d : ℕ) → d < distance → is_full (slot_after slots hash d) ≡ true
  pub empty : is_full (get_or slots place Empty) ≡ false
