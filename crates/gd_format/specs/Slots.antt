-- The slots of a bucket as a small hash table.
use Rattle.std.specs.Prelude.{◌≡◌, ℕ, ◌+◌, ◌-◌, ◌/◌, ◌%◌, ◌^◌, ◌<◌, Bool, true, false, not, ◌==◌, List, [], ◌∷◌, get_or, if◌then◌else◌}
use Rattle.gd_format.specs.declared.Slot.{Slot}
use Rattle.gd_format.specs.declared.Slot.TheVariants.{Empty, Full}
use Rattle.gd_format.specs.First.{all_below}

-- how many elements pass the test
abbrev pub count : {X : Type 0} → (X → Bool) → List X → ℕ
count p [] = 0
count p (x ∷ xs) = (if p x then 1 else 0) + count p xs

abbrev pub is_full : Slot → Bool
is_full Empty = false
is_full (Full hash start at k v) = true

abbrev pub hash_in : Slot → ℕ
hash_in Empty = 0
hash_in (Full hash start at k v) = hash

-- is the slot full that comes d places after home, from the last slot on to slot 0?
unfoldable pub is_full_from : List Slot → ℕ → ℕ → ℕ → Bool
is_full_from slots elems home d = is_full (get_or slots ((home + d) % elems) Empty)

-- all slots from its home up to the slot s are full
unfoldable pub is_reached_in : List Slot → ℕ → ℕ → Bool
is_reached_in slots elems s =
    let home = hash_in (get_or slots s Empty) % elems in
    all_below ((s + elems - home) % elems) (is_full_from slots elems home)

-- each full slot is reached from its home
abbrev pub AreReached : List Slot → ℕ → Type 0
AreReached slots elems = (s : ℕ) → s < elems → is_full (get_or slots s Empty) ≡ true → is_reached_in slots elems s ≡ true

-- two lists have the same full slots, each as often, in any order
abbrev pub SameSlots : List Slot → List Slot → Type 0
SameSlots xs ys = (p : Slot → Bool) → p Empty ≡ false → count p xs ≡ count p ys

-- a full slot whose next bit, after the first ones, is another one
abbrev pub is_astray : ℕ → ℕ → Slot → Bool
is_astray bits side Empty = false
is_astray bits side (Full hash start at k v) = not (hash / 2 ^ (31 - (bits + 1)) % 2 == side)
