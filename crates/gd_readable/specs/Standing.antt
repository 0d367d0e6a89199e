-- Where a walk over the records of a file stands.
use Rattle.std.specs.Prelude.{◌≡◌, ◌+◌, ◌-◌, ◌*◌, ◌<◌, ◌≤◌, ◌^◌, ℕ, ℤ, pos, negsuc, Option, Some, None, List, length}
use Rattle.gd_format.specs.declared.Header.{Header}
use Rattle.gd_format.specs.File.{entries_of}
use Rattle.gd_readable.specs.Left.{IsWalk, records_left}

-- in the bucket before an entry of the directory, at a slot
pub record Standing : Type 0 where
  pub f : ℕ
  pub header : Header
  pub entry : ℕ
  pub block : List ℕ
  pub slot : ℕ

-- what of it is in range, over any bytes
pub record FitsWalk (h : Header) (entry : ℕ) (block : List ℕ) (slot : ℕ) : Type 0 where
  pub bits : h.dir_bits ≤ 24
  pub dir : h.dir + 8 * 2 ^ h.dir_bits < 2 ^ 64
  pub room : 112 + 24 * h.elems ≤ h.block
  pub size : length block ≡ h.block
  pub entries : entry ≤ entries_of h
  pub slots : slot ≤ h.elems

-- the walk is one over these bytes
abbrev pub StandsIn : List ℕ → Standing → Type 0
StandsIn file w = IsWalk file w.header w.entry w.block w.slot

-- the records that it has still to give
abbrev pub left_of : List ℕ → Standing → List (List ℕ × List ℕ)
left_of file w = records_left file w.header w.entry w.block w.slot

-- how many slots come at the most, over any bytes: those of the bucket from one on, and those of a bucket an entry
unfoldable pub slots_ahead : Header → (entry slot : ℕ) → ℕ
slots_ahead h entry slot = (entries_of h - entry) * h.elems + (h.elems - slot)

abbrev pub slots_of_walk : Standing → ℕ
slots_of_walk w = slots_ahead w.header w.entry w.slot

-- an address, where the number is one
abbrev pub place_of : ℤ → Option ℕ
place_of (pos n) = Some n
place_of (negsuc n) = None

-- behind the last bucket
abbrev pub IsAtEnd : Header → (entry slot : ℕ) → Type 0
IsAtEnd h entry slot = (entry ≡ entries_of h) × (slot ≡ h.elems)

abbrev pub IsEnded : Standing → Type 0
IsEnded w = IsAtEnd w.header w.entry w.slot
