-- The rows of scalars, and a number as the bytes of a row.
use Rattle.std.specs.Prelude.{ℕ, suc, ◌-◌, ◌*◌, ◌^◌, Bool, true, false, ◌||◌, ◌&&◌, ◌==◌, nat_lt, if◌then◌else◌, List, [], ◌∷◌, get_or, codes, ℤ, pos, negsuc}
use Rattle.byteorder.specs.Endian.{little_bytes, little_number, twos_complement}

-- how a value of a row stands in a datum: as one byte, as a number of so many bytes that is signed or not, as all bytes
-- that are left, or as all that are left with one NUL behind them
pub data Kind : Type 0 where
  Byte : Kind
  Number : ℕ → Bool → Kind
  Rest : Kind
  ZeroEnded : Kind

-- the names of the rows in their order
abbrev pub scalar_names : List (List ℕ)
scalar_names = codes "char"
    ∷ codes "short" ∷ codes "ushort"
    ∷ codes "int" ∷ codes "unsigned"
    ∷ codes "long" ∷ codes "ulong"
    ∷ codes "llong" ∷ codes "ullong"
    ∷ codes "string" ∷ codes "stringz" ∷ []

-- the kinds of the rows in the same order
abbrev pub scalar_kinds : List Kind
scalar_kinds = Byte
    ∷ Number 2 true ∷ Number 2 false
    ∷ Number 4 true ∷ Number 4 false
    ∷ Number 8 true ∷ Number 8 false
    ∷ Number 8 true ∷ Number 8 false
    ∷ Rest ∷ ZeroEnded ∷ []

-- the kind of a row, counted from 0
abbrev pub kind_of : ℕ → Kind
kind_of row = get_or scalar_kinds row ZeroEnded

-- how many bytes a value takes; the texts take what is left and are not counted
abbrev pub kind_width : Kind → ℕ
kind_width Byte = 1
kind_width (Number width signed) = width
kind_width Rest = 0
kind_width ZeroEnded = 0

-- the widths of numbers in bytes
abbrev pub is_width : ℕ → Bool
is_width width = ((width == 1 || width == 2) || width == 4) || width == 8

-- the number lies in the range of so many bytes: from 0 to 2^(8 width) - 1, or from -2^(8 width - 1) to 2^(8 width - 1) - 1
abbrev pub is_held : ℕ → Bool → ℤ → Bool
is_held width signed (pos n) = nat_lt n (2 ^ (if signed then 8 * width - 1 else 8 * width))
is_held width signed (negsuc n) = signed && nat_lt n (2 ^ (8 * width - 1))

-- a number in two's complement as so many bytes, the least first; `negsuc n` is -(n + 1)
abbrev pub number_bytes : ℕ → ℤ → List ℕ
number_bytes width (pos n) = little_bytes width n
number_bytes width (negsuc n) = little_bytes width (2 ^ (8 * width) - suc n)

-- the number in the first so many bytes, the least first
abbrev pub number_in : ℕ → Bool → List ℕ → ℤ
number_in width true bytes = twos_complement width (little_number width bytes)
number_in width false bytes = pos (little_number width bytes)

-- a number as a value of a row that has a width: a char is a number of one byte
abbrev pub kind_bytes : Kind → ℤ → List ℕ
kind_bytes Byte z = number_bytes 1 z
kind_bytes (Number width signed) z = number_bytes width z
kind_bytes kind z = []

abbrev pub kind_holds : Kind → ℤ → Bool
kind_holds Byte z = is_held 1 false z
kind_holds (Number width signed) z = is_held width signed z
kind_holds kind z = false

abbrev pub kind_number : Kind → List ℕ → ℤ
kind_number Byte bytes = number_in 1 false bytes
kind_number (Number width signed) bytes = number_in width signed bytes
kind_number kind bytes = pos 0

abbrev pub scalar_bytes : ℕ → ℤ → List ℕ
scalar_bytes row z = kind_bytes (kind_of row) z

abbrev pub scalar_holds : ℕ → ℤ → Bool
scalar_holds row z = kind_holds (kind_of row) z

abbrev pub scalar_number : ℕ → List ℕ → ℤ
scalar_number row bytes = kind_number (kind_of row) bytes
