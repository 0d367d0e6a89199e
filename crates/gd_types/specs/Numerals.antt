-- What numbers words write.
use Rattle.std.specs.Prelude.{ℕ, ◌-◌, ◌^◌, min, Bool, ◌&&◌, nat_lt, nat_eq, if◌then◌else◌, List, length, drop, codes, ℤ, pos, negsuc, neg_ℤ, Option, Some, None, option_map, Result, Ok, Err}
use Rattle.std.specs.Char.{is_digit}
use Rattle.std.specs.List.{list_all, starts_with}
use Rattle.std.specs.Str.Parse.{digits_value}
use Rattle.gd_types.specs.Rows.{is_held}
use Rattle.gd_types.specs.declared.errors.TypeError.{TypeError}
use Rattle.gd_types.specs.declared.errors.TypeError.TheVariants.{Range, Text}

-- the number that one or more digits of a base write, with letters of either case; leading zeros are allowed
abbrev pub natural : ℕ → List ℕ → Option ℕ
natural base text = if nat_lt 0 (length text) && list_all (λ c. is_digit c base) text then Some (digits_value base text) else None

-- `0x` and hexadecimal digits, or decimal digits, before which a signed type may have `-`
abbrev pub numeral : Bool → List ℕ → Option ℤ
numeral signed word = if starts_with nat_eq word (codes "0x") then option_map pos (natural 16 (drop 2 word))
    else (if signed && starts_with nat_eq word (codes "-") then option_map (λ n. neg_ℤ (pos n)) (natural 10 (drop 1 word))
    else option_map pos (natural 10 word))

-- a word that is no number is refused as text, and a number that the type doesn't hold by its range
abbrev pub held_number : ℕ → Bool → Option ℤ → Result ℤ TypeError
held_number width signed None = Err Text
held_number width signed (Some z) = if is_held width signed z then Ok z else Err Range

abbrev pub word_number : ℕ → Bool → List ℕ → Result ℤ TypeError
word_number width signed word = held_number width signed (numeral signed word)

-- a number, cut to 2^64 and -2^64, which no type holds
abbrev pub cut : ℤ → ℤ
cut (pos n) = pos (min n (2 ^ 64))
cut (negsuc n) = negsuc (min n (2 ^ 64 - 1))
