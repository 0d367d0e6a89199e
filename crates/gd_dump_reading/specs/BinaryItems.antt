-- What a binary dump is read as.
use Rattle.std.specs.Prelude.{ℕ, zero, suc, ◌+◌, ◌^◌, ◌==◌, ◌&&◌, ◌||◌, not, nat_lt, Bool, true, false, List, [], ◌∷◌, length, take, drop, codes, Option, Some, None, eqb, if◌then◌else◌}
use Rattle.std.specs.Int.{w32, from_be_bytes}
use Rattle.std.specs.List.{starts_with}
use Rattle.gd_dump_reading.specs.Lines.{contains, first_line, is_overlong}
use Rattle.gd_dump_reading.specs.Told.{Told, given, nothing, pairs_of, refused}
use Rattle.gd_dump_reading.specs.declared.items.DumpKind.TheVariants.{Version, TooLarge, Truncated}
use Rattle.gd_dump_reading.specs.declared.items.Item.TheVariants.{Head, Pair, End}

-- ---- the head

-- a line of the head, which n more lines follow: it begins with '!', and the second says that this is a dump
abbrev pub is_head_line : ℕ → List ℕ → Bool
is_head_line n line = starts_with eqb line (codes "!") && not (is_overlong true line) && (not (n == 2) || contains (codes "GDBM FLAT FILE DUMP") line)

-- a line that the input's end cuts short can't become such a line
abbrev pub is_no_head : List ℕ → Bool
is_no_head line = not (length line == 0) && not (starts_with eqb line (codes "!")) || is_overlong false line

-- a line at this place, and what the bytes behind it tell from the next place on
abbrev pub head_line_told : ℕ → ℕ → List ℕ → Option (List ℕ) → (ℕ → List ℕ → Told) → Told
head_line_told n place line None next = if is_no_head line then refused Version place else refused Truncated (place + length line)
head_line_told n place line (Some rest) next = if is_head_line n line then next (place + length line + 1) rest else refused Version place

-- n lines of the head are to come, and then next
abbrev pub head_told : (ℕ → List ℕ → Told) → ℕ → ℕ → List ℕ → Told
head_told next zero place bytes = given (Head (record { format = None; file = None })) place (next place bytes)
head_told next (suc n) place bytes = head_line_told n place (first_line bytes).0 (first_line bytes).1 (head_told next n)

-- ---- the pairs

-- the number in four bytes, the highest first
abbrev pub number_at : List ℕ → ℕ
number_at bytes = from_be_bytes w32 (take 4 bytes)

-- a pair with a key of k bytes and a value of v bytes, and then what the bytes behind it tell
abbrev pub sized_pair_told : (ℕ → List ℕ → Told) → ℕ → ℕ → ℕ → List ℕ → Told
sized_pair_told next k v place bytes =
    if nat_lt (2 ^ 30) (k + v) then refused TooLarge (place + (4 + k))
    else (if nat_lt (length bytes) (8 + k + v) then refused Truncated (place + length bytes)
    else given (Pair (take k (drop 4 bytes)) (take v (drop (8 + k) bytes))) (place + (8 + k + v)) (next (place + (8 + k + v)) (drop (8 + k + v) bytes)))

abbrev pub keyed_pair_told : (ℕ → List ℕ → Told) → ℕ → ℕ → List ℕ → Told
keyed_pair_told next k place bytes =
    if nat_lt (2 ^ 30) k then refused TooLarge place
    else (if nat_lt (length bytes) (8 + k) then refused Truncated (place + length bytes)
    else sized_pair_told next k (number_at (drop (4 + k) bytes)) place bytes)

abbrev pub pair_told : (ℕ → List ℕ → Told) → ℕ → List ℕ → Told
pair_told next place bytes =
    if nat_lt (length bytes) 4 then refused Truncated (place + length bytes) else keyed_pair_told next (number_at bytes) place bytes

-- at most n pairs, which no input of n bytes has more of; an input that ends before a pair is at its end
unfoldable pub some_pairs_told : ℕ → ℕ → List ℕ → Told
some_pairs_told n place [] = given End place nothing
some_pairs_told zero place (b ∷ bytes) = nothing
some_pairs_told (suc n) place (b ∷ bytes) = pair_told (some_pairs_told n) place (b ∷ bytes)

abbrev pub pairs_told : ℕ → List ℕ → Told
pairs_told place bytes = some_pairs_told (length bytes) place bytes

-- ---- a dump

abbrev pub binary_items : List ℕ → Told
binary_items bytes = head_told pairs_told 4 0 bytes

abbrev pub binary_list : List ℕ → List (List ℕ × List ℕ)
binary_list bytes = pairs_of (binary_items bytes).items
