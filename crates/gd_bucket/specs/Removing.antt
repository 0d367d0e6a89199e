-- What moves when a slot is removed.
use Rattle.std.specs.Prelude.{◌≡◌, ◌≢◌, ℕ, ◌+◌, ◌-◌, ◌%◌, ◌<◌, ◌≤◌, true, List, length, get_or, set}
use Rattle.gd_format.specs.declared.Slot.{Slot}
use Rattle.gd_format.specs.declared.Slot.TheVariants.{Empty}
use Rattle.gd_format.specs.Slots.{is_full, hash_in}

-- how many places b comes after a, in a round of n places
unfoldable pub distance : ℕ → ℕ → ℕ → ℕ
distance n a b = (b + n - a) % n

-- how many places the slot at a place stands after its home
unfoldable pub from_home : List Slot → ℕ → ℕ
from_home slots s = distance (length slots) (hash_in (get_or slots s Empty) % length slots) s

-- a full slot that stands at least as far from its home as from the hole
pub record MayMove (slots : List Slot) (hole s : ℕ) : Type 0 where
  pub place : s < length slots
  pub other : s ≢ hole
  pub full : is_full (get_or slots s Empty) ≡ true
  pub far : distance (length slots) hole s ≤ from_home slots s

-- the slot at s moves to the hole
abbrev pub moved : List Slot → ℕ → ℕ → List Slot
moved slots hole s = set (set slots hole (get_or slots s Empty)) s Empty

-- each slot that full ones join to the hole is nearer to its home than to the hole
abbrev pub NoneMoves : List Slot → ℕ → Type 0
NoneMoves slots hole =
    (t : ℕ) → 0 < t → t < length slots → ((u : ℕ) → 0 < u → u ≤ t → is_full (get_or slots ((hole + u) % length slots) Empty) ≡ true)
    → from_home slots ((hole + t) % length slots) < t
