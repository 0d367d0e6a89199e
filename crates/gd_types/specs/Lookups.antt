-- Which row of a table of names a word names.
use Rattle.std.specs.Prelude.{ℕ, ◌+◌, List, [], ◌∷◌, nat_eq, if◌then◌else◌}
use Rattle.std.specs.List.{starts_with}
use Rattle.gd_types.specs.declared.tables.Found.{Found}
use Rattle.gd_types.specs.declared.tables.Found.TheVariants.{Missing, One, Several}

-- the rows, counted from the first one's number, of whose names the word is a prefix
abbrev pub rows_from : ℕ → List (List ℕ) → List ℕ → List ℕ
rows_from row [] word = []
rows_from row (name ∷ names) word =
    if starts_with nat_eq name word then row ∷ rows_from (row + 1) names word else rows_from (row + 1) names word

-- none, the only one, or several
abbrev pub found_of : List ℕ → Found
found_of [] = Missing
found_of (row ∷ []) = One row
found_of (row ∷ other ∷ rows) = Several

abbrev pub found_in : List (List ℕ) → List ℕ → Found
found_in names word = found_of (rows_from 0 names word)
