-- What holds of the fields of every open database, beside those of its file.
use Rattle.std.specs.Prelude.{ℕ, ◌≤◌}

pub record FitsStore (cache : ℕ) : Type 0 where
  pub cache_least : 1 ≤ cache
  pub cache_most : cache ≤ 4096
