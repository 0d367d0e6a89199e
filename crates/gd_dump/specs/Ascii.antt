-- The text of an ASCII dump.
use Rattle.std.specs.Prelude.{ℕ, zero, suc, ◌-◌, ◌==◌, ◌&&◌, ◌||◌, not, Bool, List, [], ◌∷◌, ◌++◌, length, drop, codes, if◌then◌else◌}
use Rattle.std.specs.Char.{is_ascii_alphanumeric}
use Rattle.std.specs.Fmt.{decimal}
use Rattle.std.specs.List.{list_all, suffix_len}
pub use Rattle.gd_dump_reading.specs.Base64.{base64_text}
use Rattle.gd_base.specs.declared.errors.Format.{Format}
use Rattle.gd_base.specs.declared.errors.Format.TheVariants.{Standard, Numsync}

-- ---- a datum

-- the rest of a text, of which room more characters fit on the line: a full line ends before the next character, and the last line at the end
unfoldable pub broken : ℕ → List ℕ → List ℕ
broken room [] = 10 ∷ []
broken zero (c ∷ cs) = 10 ∷ c ∷ broken 75 cs
broken (suc room) (c ∷ cs) = c ∷ broken room cs

-- a text in lines of 76 characters, the last one shorter or equal; no line for an empty text
abbrev pub lines_of : List ℕ → List ℕ
lines_of [] = []
lines_of (c ∷ cs) = c ∷ broken 75 cs

abbrev pub datum_text : List ℕ → List ℕ
datum_text bytes = codes "#:len=" ++ (decimal (length bytes) ++ 10 ∷ lines_of (base64_text bytes))

-- ---- records

abbrev pub pair_text : List ℕ → List ℕ → List ℕ
pair_text key value = datum_text key ++ datum_text value

abbrev pub pairs_text : List (List ℕ × List ℕ) → List ℕ
pairs_text [] = []
pairs_text (p ∷ ps) = pair_text p.0 p.1 ++ pairs_text ps

-- ---- the head

-- the part of a file's name after its last '/'
abbrev pub file_part : List ℕ → List ℕ
file_part name = drop (length name - suffix_len (λ b. not (b == 47)) name) name

-- an ASCII letter or digit, or one of . _ - + @ %
abbrev pub is_plain : ℕ → Bool
is_plain b = is_ascii_alphanumeric b || b == 46 || b == 95 || b == 45 || b == 43 || b == 64 || b == 37

abbrev pub is_shown : List ℕ → Bool
is_shown part = not (length part == 0) && list_all is_plain part

-- nothing where the part is empty or has another character
abbrev pub file_line : List ℕ → List ℕ
file_line name = if is_shown (file_part name) then codes "#:file=" ++ (file_part name ++ 10 ∷ []) else []

abbrev pub format_name : Format → List ℕ
format_name Standard = codes "standard"
format_name Numsync = codes "numsync"

-- the last two lines of a head
abbrev pub format_text : Format → List ℕ
format_text format = codes "#:format=" ++ (format_name format ++ codes "\n# End of header\n")

abbrev pub head_text : Format → List ℕ → List ℕ
head_text format name = codes "# GDBM dump file created by gdbm_dump\n#:version=1.1\n"
    ++ (file_line name ++ format_text format)

-- ---- the end, and a whole dump

abbrev pub end_text : ℕ → List ℕ
end_text count = codes "#:count=" ++ (decimal count ++ codes "\n# End of data\n")

abbrev pub ascii_text : List (List ℕ × List ℕ) → List ℕ → Format → List ℕ
ascii_text pairs name format = head_text format name ++ (pairs_text pairs ++ end_text (length pairs))
