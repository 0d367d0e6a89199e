-- The slots of a bucket as a map by key.
use Rattle.std.specs.Prelude.{◌≡◌, ℕ, ◌+◌, ◌<◌, ◌≤◌, Bool, true, false, List, [], ◌∷◌, length, get_or, set, if◌then◌else◌}
use Rattle.gd_format.specs.declared.Slot.{Slot}
use Rattle.gd_format.specs.declared.Slot.TheVariants.{Empty}
use Rattle.gd_format.specs.Slots.{count, is_full, hash_in, AreReached, SameSlots}
use Rattle.gd_bucket.specs.Probing.{slot_after, is_candidate, IsNextCandidate, HasNoCandidate}

-- what the map gives for a key: the first slot that passes the test of having it, else an empty one
abbrev pub slot_with : (Slot → Bool) → List Slot → Slot
slot_with own [] = Empty
slot_with own (x ∷ xs) = if own x then x else slot_with own xs

-- the test of having a key: at most one slot passes, and only a candidate of the key's hash
pub record IsKeyTest (slots : List Slot) (hash : ℕ) (key : List ℕ) (own : Slot → Bool) : Type 0 where
  pub full : own Empty ≡ false
  pub once : count own slots ≤ 1
  pub candidate : (s : ℕ) → s < length slots → own (get_or slots s Empty) ≡ true → is_candidate hash key (get_or slots s Empty) ≡ true

-- a candidate that has the key is what the map gives
abbrev pub FoundByCandidates : Type 0
FoundByCandidates =
    (slots : List Slot) (hash : ℕ) (key : List ℕ) (own : Slot → Bool) (d : ℕ) → IsKeyTest slots hash key own
    → own (slot_after slots hash d) ≡ true → slot_with own slots ≡ slot_after slots hash d

-- one more candidate without the key
abbrev pub PassedByCandidates : Type 0
PassedByCandidates =
    (slots : List Slot) (hash : ℕ) (key : List ℕ) (own : Slot → Bool) (from d : ℕ) → IsKeyTest slots hash key own
    → ((e : ℕ) → e < from → own (slot_after slots hash e) ≡ false) → IsNextCandidate slots hash key from d → own (slot_after slots hash d) ≡ false
    → (e : ℕ) → e < d + 1 → own (slot_after slots hash e) ≡ false

-- where no candidate is left, the map gives nothing
abbrev pub AbsentByCandidates : Type 0
AbsentByCandidates =
    (slots : List Slot) (hash : ℕ) (key : List ℕ) (own : Slot → Bool) (from : ℕ) → AreReached slots (length slots) → IsKeyTest slots hash key own
    → ((e : ℕ) → e < from → own (slot_after slots hash e) ≡ false) → HasNoCandidate slots hash key from → slot_with own slots ≡ Empty

-- two lists with the same full slots are one map
abbrev pub MapBySlots : Type 0
MapBySlots = (xs ys : List Slot) (own : Slot → Bool) → SameSlots xs ys → own Empty ≡ false → count own ys ≤ 1 → slot_with own xs ≡ slot_with own ys

-- a full slot takes the place of another one with its hash
abbrev pub ReplacedReaches : Type 0
ReplacedReaches =
    (slots : List Slot) (s : ℕ) (slot : Slot) → AreReached slots (length slots) → is_full (get_or slots s Empty) ≡ true
    → is_full slot ≡ true → hash_in slot ≡ hash_in (get_or slots s Empty) → AreReached (set slots s slot) (length (set slots s slot))

abbrev pub ReplacedSlots : Type 0
ReplacedSlots = (slots : List Slot) (s : ℕ) (slot : Slot) → s < length slots → SameSlots (get_or slots s Empty ∷ set slots s slot) (slot ∷ slots)
