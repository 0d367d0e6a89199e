-- Ranges of a file.
use Rattle.std.specs.Prelude.{ℕ, ◌+◌, ◌≤◌, ◌⊎◌}

-- the ranges of n bytes from a and of m bytes from b have no byte in common
abbrev pub AreApart : (a n b m : ℕ) → Type 0
AreApart a n b m = (a + n ≤ b) ⊎ (b + m ≤ a)
