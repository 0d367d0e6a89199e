-- What the front of a line of a binary head shows.
use Rattle.std.specs.Prelude.{ℕ, ◌==◌, ◌&&◌, ◌||◌, not, Bool, true, List, length, codes, eqb}
use Rattle.std.specs.List.{starts_with}
use Rattle.gd_dump_reading.specs.Lines.{is_overlong}

-- no line of the head begins so: it begins otherwise, or is too long even where a line feed comes next
abbrev pub is_no_front : List ℕ → Bool
is_no_front line = not (length line == 0) && not (starts_with eqb line (codes "!")) || is_overlong true line
