-- What was encoded is read again.
use Rattle.std.specs.Prelude.{◌≡◌, ℕ, ◌<◌, true, Bool, List, [], ◌∷◌, ◌++◌, ℤ, Result, Ok, Err}
use Rattle.std.specs.Fmt.{signed_decimal}
use Rattle.gd_types.specs.Decoding.{typed_text}
use Rattle.gd_types.specs.Encoding.{typed_bytes}
use Rattle.gd_types.specs.Members.{Defined, accepts}
use Rattle.gd_types.specs.Numerals.{word_number}
use Rattle.gd_types.specs.Printing.{joined, printed}
use Rattle.gd_types.specs.Rows.{Kind, Number, kind_of, scalar_bytes, scalar_holds, scalar_number}
use Rattle.gd_types.specs.declared.errors.TypeError.{TypeError}
use Rattle.gd_types.specs.declared.members.Member.{Member}
use Rattle.gd_types.specs.declared.members.Member.TheVariants.{Row}

-- the bytes of each row with a width read back as the number, whatever stands behind them
abbrev pub ScalarsReadBack : Type 0
ScalarsReadBack = (row : ℕ) (z : ℤ) (rest : List ℕ) → row < 9 → scalar_holds row z ≡ true
    → scalar_number row (scalar_bytes row z ++ rest) ≡ z

-- a definition that was made by accepted members, one after another
pub data IsMade : Defined → Type 0 where
  none : (braces : Bool) → IsMade (record { members = []; braces = braces })
  next : (d : Defined) (member : Member) → IsMade d → accepts d member ≡ true → IsMade (record { members = d.members ++ member ∷ []; braces = d.braces })

-- a word as it is printed again: a number in decimal
abbrev pub number_again : Result ℤ TypeError → List ℕ
number_again (Ok z) = signed_decimal z
number_again (Err e) = []

abbrev pub word_again : Kind → List ℕ → List ℕ
word_again (Number width signed) word = number_again (word_number width signed word)
word_again kind word = printed word

abbrev pub words_again : List Member → List (List ℕ) → List (List ℕ)
words_again [] words = []
words_again (Row row ∷ members) (word ∷ words) = word_again (kind_of row) word ∷ words_again members words
words_again (Row row ∷ members) [] = []
words_again (member ∷ members) words = words_again members words

-- what words were encoded to is printed as the words, numbers by their values
abbrev pub PrintsBack : Type 0
PrintsBack = (d : Defined) (words : List (List ℕ)) (bytes delim : List ℕ) → IsMade d
    → typed_bytes d words ≡ Ok bytes → typed_text d bytes delim ≡ Ok (joined delim (words_again d.members words))
