-- Lines of a dump.
use Rattle.std.specs.Prelude.{◌≢◌, ◌<◌, ℕ, ◌-◌, ◌==◌, ◌&&◌, ◌||◌, nat_lt, Bool, List, [], ◌∷◌, length, slice_index, Option, Some, None, eqb, if◌then◌else◌}
use Rattle.std.specs.List.{ends_with, starts_with}

-- the bytes before the first line feed, and those behind it where there is one
abbrev pub first_line : List ℕ → List ℕ × Option (List ℕ)
first_line [] = ([], None)
first_line (b ∷ bytes) = if b == 10 then ([], Some bytes) else (b ∷ (first_line bytes).0, (first_line bytes).1)

-- a line is too long above 65,536 bytes; the line feed that ends it is not counted, nor a carriage return before that line feed
abbrev pub is_overlong : Bool → List ℕ → Bool
is_overlong ended line = nat_lt 65536 (if ended && ends_with eqb line (13 ∷ []) then length line - 1 else length line)

-- the bytes stand somewhere in the line
abbrev pub contains : List ℕ → List ℕ → Bool
contains part [] = length part == 0
contains part (b ∷ bytes) = starts_with eqb (b ∷ bytes) part || contains part bytes

-- none of the first n bytes is a line feed
abbrev pub NoFeed : List ℕ → ℕ → Type 0
NoFeed bytes n = (k : ℕ) → k < n → slice_index bytes k ≢ 10
