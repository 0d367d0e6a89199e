-- Steps on lists of extents.
use Rattle.std.specs.Prelude.{◌≡◌, ◌⊎◌, ℕ, ◌+◌, ◌≤◌, List, [], ◌∷◌, ◌++◌}
use Rattle.std.specs.List.{AllByRecursion}
use Rattle.gd_format.specs.declared.Extent.{Extent}
use Rattle.gd_format.specs.Covers.{cover, size_sum}
use Rattle.gd_format.specs.Sound.{extent}
use Rattle.gd_format.specs.FreeSide.{IsBelow}
use Rattle.gd_space.specs.Effect.{LiesInOne, grown}

-- n bytes are cut from one of the extents, all of which end at or before a place
pub record Cut (next : ℕ) (old new : List Extent) (at n : ℕ) : Type 0 where
  pub bytes : (b : ℕ) → cover new b + cover (extent at n ∷ []) b ≡ cover old b
  pub sum : size_sum new + n ≡ size_sum old
  pub below : AllByRecursion (IsBelow next) new
  pub inside : LiesInOne (extent at n) old

-- what the table and the bucket have afterwards and what was taken is what they had and what was given
pub record Step (next : ℕ) (table bucket table' bucket' given taken : List Extent) : Type 0 where
  pub bytes : (b : ℕ) → cover table' b + cover bucket' b + cover taken b ≡ cover table b + cover bucket b + cover given b
  pub sum : size_sum table' + size_sum bucket' + size_sum taken ≡ size_sum table + size_sum bucket + size_sum given
  pub table_below : AllByRecursion (IsBelow next) table'
  pub bucket_below : AllByRecursion (IsBelow next) bucket'

-- n bytes are cut from an extent of the table or of the bucket
pub record Served (next : ℕ) (table bucket table' bucket' : List Extent) (at n : ℕ) : Type 0 where
  pub step : Step next table bucket table' bucket' [] (extent at n ∷ [])
  pub inside : LiesInOne (extent at n) (table ++ bucket)

-- n bytes were taken from the table, the bucket or new room, and what is over of that is in one of the two
pub record Took (next next' : ℕ) (table bucket table' bucket' : List Extent) (at n : ℕ) : Type 0 where
  pub grows : next ≤ next'
  pub step : Step next' table bucket table' bucket' (grown next next') (extent at n ∷ [])
  pub place : LiesInOne (extent at n) (table ++ bucket) ⊎ (next ≤ at)
  pub ends : at + n ≤ next'

-- the extents of a list stand in two
pub record Split (next : ℕ) (old one two : List Extent) : Type 0 where
  pub bytes : (b : ℕ) → cover one b + cover two b ≡ cover old b
  pub sum : size_sum one + size_sum two ≡ size_sum old
  pub one_below : AllByRecursion (IsBelow next) one
  pub two_below : AllByRecursion (IsBelow next) two
