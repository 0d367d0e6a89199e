-- The text of a binary dump.
use Rattle.std.specs.Prelude.{ℕ, List, [], ◌∷◌, ◌++◌, length, codes}
use Rattle.std.specs.Int.{w32, to_be_bytes}

-- four lines, in 77 bytes
abbrev pub binary_head : List ℕ
binary_head = codes "!\r\n! GDBM FLAT FILE DUMP -- THIS IS NOT A TEXT FILE\r\n! GDBM version 1.23\r\n!\r\n"

-- a datum behind its length, which has its highest byte first
abbrev pub sized : List ℕ → List ℕ
sized bytes = to_be_bytes w32 (length bytes) ++ bytes

abbrev pub binary_pair : List ℕ → List ℕ → List ℕ
binary_pair key value = sized key ++ sized value

abbrev pub binary_pairs : List (List ℕ × List ℕ) → List ℕ
binary_pairs [] = []
binary_pairs (p ∷ ps) = binary_pair p.0 p.1 ++ binary_pairs ps

abbrev pub binary_text : List (List ℕ × List ℕ) → List ℕ
binary_text pairs = binary_head ++ binary_pairs pairs
