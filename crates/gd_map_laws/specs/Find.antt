-- A look-up in a bucket by probing, and growth of the space.
use Rattle.std.specs.Prelude.{◌≡◌, ℕ, ◌+◌, ◌-◌, ◌%◌, ◌<◌, ◌≤◌, ◌↔◌, ◌⊎◌, Bool, true, false, List, [], ◌∷◌, length, take, get_or, Some, None}
use Rattle.std.specs.Str.{bytes_eq}
use Rattle.gd_format.specs.declared.Slot.{Slot}
use Rattle.gd_format.specs.declared.Slot.TheVariants.{Empty, Full}
use Rattle.gd_format.specs.Hash.{hash_of}
use Rattle.gd_format.specs.Field.{bytes_at}
use Rattle.gd_format.specs.Slots.{count, is_full}
use Rattle.gd_format.specs.Sound.{extent}
use Rattle.gd_format.specs.Covers.{cover}
use Rattle.gd_map_laws.specs.Lookup.{lookup, slot_records}
use Rattle.gd_map_laws.specs.Slots.{AreSlotsRight}
use Rattle.gd_map_laws.specs.Space.{grown}

abbrev pub is_slot_of : List ℕ → List ℕ → Slot → Bool
is_slot_of file key Empty = false
is_slot_of file key (Full hash start at k v) = bytes_eq (bytes_at file at k) key

-- the slot d places after the home of a key
abbrev pub probe : List Slot → ℕ → List ℕ → ℕ → Slot
probe slots elems key d = get_or slots ((hash_of key % elems + d) % elems) Empty

-- n probes met no slot of the key, and the next one is empty or all slots were met
abbrev pub AbsentByProbes : Type 0
AbsentByProbes =
    (file : List ℕ) (bits top elems : ℕ) (slots : List Slot) (key : List ℕ) (n : ℕ) → length slots ≡ elems → AreSlotsRight file bits top elems slots
    → ((d : ℕ) → d < n → is_slot_of file key (probe slots elems key d) ≡ false)
    → (elems ≤ n) ⊎ (is_full (probe slots elems key n) ≡ false)
    → lookup key (slot_records file slots) ≡ None

abbrev pub PresentBySlot : Type 0
PresentBySlot =
    (file : List ℕ) (bits top elems : ℕ) (slots : List Slot) (key : List ℕ) (s hash : ℕ) (start : List ℕ) (at k v : ℕ) → AreSlotsRight file bits top elems slots
    → s < length slots → get_or slots s Empty ≡ Full hash start at k v → bytes_at file at k ≡ key
    → lookup key (slot_records file slots) ≡ Some (bytes_at file (at + k) v)

-- a key is that of one slot at most
abbrev pub KeyOnce : Type 0
KeyOnce = (file : List ℕ) (bits top elems : ℕ) (slots : List Slot) (key : List ℕ) → AreSlotsRight file bits top elems slots → count (is_slot_of file key) slots ≤ 1

-- where it is that of none, the look-up gives nothing, and the other way round
abbrev pub AbsentByCount : Type 0
AbsentByCount = (file : List ℕ) (slots : List Slot) (key : List ℕ) → (count (is_slot_of file key) slots ≡ 0) ↔ (lookup key (slot_records file slots) ≡ None)

-- the slot of a key has its hash, its length and its first bytes
pub record AreKeyFields (key : List ℕ) (hash : ℕ) (start : List ℕ) (k : ℕ) : Type 0 where
  pub hash_is : hash ≡ hash_of key
  pub size_is : k ≡ length key
  pub start_is : bytes_eq (take 4 key) (take (length (take 4 key)) start) ≡ true

abbrev pub FieldsOfKey : Type 0
FieldsOfKey =
    (file : List ℕ) (bits top elems : ℕ) (slots : List Slot) (key : List ℕ) (s hash : ℕ) (start : List ℕ) (at k v : ℕ) → AreSlotsRight file bits top elems slots
    → s < length slots → get_or slots s Empty ≡ Full hash start at k v → bytes_at file at k ≡ key → AreKeyFields key hash start k

-- growth as an extent
abbrev pub GrownIsExtent : Type 0
GrownIsExtent = (next next' b : ℕ) → next ≤ next' → cover (extent next (next' - next) ∷ []) b ≡ grown next next' b

-- growth by steps
abbrev pub GrownAdds : Type 0
GrownAdds = (next next' next'' b : ℕ) → next ≤ next' → next' ≤ next'' → grown next next' b + grown next' next'' b ≡ grown next next'' b
