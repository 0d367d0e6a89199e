-- A block that is being written from its front on.
use Rattle.std.specs.Prelude.{◌≡◌, ℕ, ◌-◌, List, ◌++◌, length, replicate}

-- it has these bytes up to a place, and zeros from there on
pub record Begun (front : List ℕ) (at : ℕ) (block : List ℕ) : Type 0 where
  pub size : length front ≡ at
  pub whole : block ≡ front ++ replicate (length block - at) 0
