-- The first bytes of a key, as its slot has them.
use Rattle.std.specs.Prelude.{ℕ, ◌-◌, List, ◌++◌, length, take, replicate}

-- the first four bytes, with zeros where the key has fewer
abbrev pub start_of : List ℕ → List ℕ
start_of key = take 4 key ++ replicate (4 - length key) 0
