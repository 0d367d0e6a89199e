-- What is written into a directory.
use Rattle.std.specs.Prelude.{◌≡◌, ℕ, ◌+◌, ◌*◌, ◌/◌, ◌<◌, ◌≤◌, pos, List, length, max}
use Rattle.gd_format.specs.Field.{i64_at}
use Rattle.gd_format.specs.Sound.{extent}
use Rattle.gd_format.specs.Covers.{has_byte}
use Rattle.gd_map_laws.specs.Space.{one_if}
use Rattle.gd_map_laws.specs.Frame.{KeepsBut}

-- so many entries from a place on have one address now
pub record IsPointed (place count address : ℕ) (old new : List ℕ) : Type 0 where
  pub keeps : KeepsBut (λ b. one_if (has_byte (extent place (8 * count)) b)) old new
  pub size : length new ≡ length old
  pub entries : (j : ℕ) → j < count → i64_at new (place + 8 * j) ≡ pos address

-- so many entries from one place on stand twice each at another place
pub record IsDoubled (from to count : ℕ) (old new : List ℕ) : Type 0 where
  pub keeps : KeepsBut (λ b. one_if (has_byte (extent to (16 * count)) b)) old new
  pub size : length new ≤ max (length old) (to + 16 * count)
  pub reaches : 0 < count → to + 16 * count ≤ length new
  pub entries : (j : ℕ) → j < 2 * count → i64_at new (to + 8 * j) ≡ i64_at old (from + 8 * (j / 2))
