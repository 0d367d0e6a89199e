-- What the bytes of a block of the stack say.
use Rattle.std.specs.Prelude.{◌≡◌, ℕ, ◌≤◌, ℤ, pos, true, List, length, take}
use Rattle.gd_format.specs.declared.Extent.{Extent}
use Rattle.gd_format.specs.Avail.{raw_avail_at, count_at, next_at, extents_at, is_avail, avail_size}

-- the size field of a block of free space: the capacity of a table
abbrev pub capacity_at : List ℕ → ℤ
capacity_at block = (raw_avail_at block).size

-- the bytes are a block with this capacity in its size field, these extents and this next block
pub record Spells (capacity : ℕ) (extents : List Extent) (next : ℕ) (bytes : List ℕ) : Type 0 where
  pub capacity_is : capacity_at (take 16 bytes) ≡ pos capacity
  pub size : length bytes ≡ avail_size (length extents)
  pub count : count_at (take 16 bytes) ≡ pos (length extents)
  pub follows : next_at (take 16 bytes) ≡ next
  pub holds : extents_at bytes ≡ extents
  pub right : (most : ℕ) → length extents ≤ most → is_avail bytes most ≡ true
