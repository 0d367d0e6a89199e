-- Bytes as they are printed.
use Rattle.std.specs.Prelude.{ℕ, ◌+◌, ◌/◌, ◌%◌, ◌==◌, ◌&&◌, ◌||◌, nat_le, Bool, true, false, if◌then◌else◌, List, [], ◌∷◌, ◌++◌}
use Rattle.std.specs.List.{flat_map}

-- `"` and `\` behind a backslash, the others from 0x20 to 0x7e as they are, and else a backslash and three octal digits
abbrev pub printed_byte : ℕ → List ℕ
printed_byte b = if b == 34 || b == 92 then 92 ∷ b ∷ []
    else (if nat_le 32 b && nat_le b 126 then b ∷ []
    else 92 ∷ (48 + b / 64) ∷ (48 + b / 8 % 8) ∷ (48 + b % 8) ∷ [])

abbrev pub printed : List ℕ → List ℕ
printed bytes = flat_map printed_byte bytes

-- texts with a delimiter between each two
abbrev pub joined : List ℕ → List (List ℕ) → List ℕ
joined delim [] = []
joined delim (text ∷ texts) = text ++ flat_map (λ t. delim ++ t) texts

-- the texts that come behind others, or first
abbrev pub spread : Bool → List ℕ → List (List ℕ) → List ℕ
spread true delim texts = joined delim texts
spread false delim texts = flat_map (λ t. delim ++ t) texts

-- what stands before a text: nothing before the first one
abbrev pub lead_of : Bool → List ℕ → List ℕ
lead_of true delim = []
lead_of false delim = delim
