-- The record of a slot, its key and its value.
use Rattle.std.specs.Prelude.{ℕ, ◌+◌, ◌≤◌, ◌<◌, List}
use Rattle.gd_format.specs.declared.Slot.{Slot}
use Rattle.gd_format.specs.declared.Slot.TheVariants.{Empty, Full}
use Rattle.gd_format.specs.Field.{bytes_at}

-- the record of a slot, where it takes a place, ends in a file of len bytes
abbrev pub LiesIn : ℕ → Slot → Type 0
LiesIn len Empty = Unit {0}
LiesIn len (Full hash start at k v) = 0 < k + v → at + (k + v) ≤ len

-- the key and the value of a slot
abbrev pub key_in : List ℕ → Slot → List ℕ
key_in file (Full hash start at k v) = bytes_at file at k
key_in file Empty = bytes_at file 0 0

abbrev pub value_in : List ℕ → Slot → List ℕ
value_in file (Full hash start at k v) = bytes_at file (at + k) v
value_in file Empty = bytes_at file 0 0
