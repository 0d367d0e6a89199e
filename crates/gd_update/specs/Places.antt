-- Where a directory is copied.
use Rattle.std.specs.Prelude.{◌≡◌, ◌⊎◌, ℕ, ◌+◌, ◌*◌, ◌^◌, ◌<◌, ◌≤◌, true, List, length}
use Rattle.gd_format.specs.Bucket.{is_from_zero}
use Rattle.gd_format.specs.Field.{i64_at}

-- the entries lie in the file and are from 0 on, and the new place is apart from them
pub record IsCopyPlace (file : List ℕ) (from to count : ℕ) : Type 0 where
  pub inside : from + 8 * count ≤ length file
  pub right : (k : ℕ) → k < count → is_from_zero (i64_at file (from + 8 * k)) ≡ true
  pub apart : (from + 8 * count ≤ to) ⊎ (to + 16 * count ≤ from)
  pub low : to + 16 * count ≤ 2 ^ 46

-- the buffer has entries of the file
pub record ReadsEntries (file : List ℕ) (place count : ℕ) (buffer : List ℕ) : Type 0 where
  pub entries : (k : ℕ) → k < count → i64_at buffer (8 * k) ≡ i64_at file (place + 8 * k)
