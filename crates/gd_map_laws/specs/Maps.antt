-- The finite map of a list of pairs, and its look-ups.
use Rattle.std.specs.Prelude.{◌≡◌, ℕ, List, Some, None, if◌then◌else◌}
use Rattle.std.specs.Ordering.{nat_cmp}
use Rattle.std.specs.Cmp.Lexicographic.{slice_cmp}
use Rattle.std.specs.FinMap.{FinMap, from_entries, get, insert, remove}
use Rattle.std.specs.Str.{bytes_eq}
use Rattle.gd_map_laws.specs.Lookup.{lookup}

abbrev pub PairMap : Type 0
PairMap = FinMap (slice_cmp nat_cmp) (List ℕ)

abbrev pub pair_map : List (List ℕ × List ℕ) → PairMap
pair_map pairs = from_entries {R = slice_cmp nat_cmp} pairs

abbrev pub MapsByLookup : Type 0
MapsByLookup = (pairs : List (List ℕ × List ℕ)) (key : List ℕ) → get (pair_map pairs) key ≡ lookup key pairs

-- maps whose look-ups agree are one
abbrev pub SameMaps : Type 0
SameMaps = (old new : List (List ℕ × List ℕ)) → ((k : List ℕ) → lookup k new ≡ lookup k old) → pair_map new ≡ pair_map old

abbrev pub MapWith : Type 0
MapWith =
    (old new : List (List ℕ × List ℕ)) (key value : List ℕ) → ((k : List ℕ) → lookup k new ≡ (if bytes_eq key k then Some value else lookup k old))
    → pair_map new ≡ insert (pair_map old) key value

abbrev pub MapWithout : Type 0
MapWithout =
    (old new : List (List ℕ × List ℕ)) (key : List ℕ) → ((k : List ℕ) → lookup k new ≡ (if bytes_eq key k then None else lookup k old))
    → pair_map new ≡ remove (pair_map old) key
