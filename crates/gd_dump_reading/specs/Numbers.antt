-- Numbers in decimal digits.
use Rattle.std.specs.Prelude.{ℕ, ◌+◌, ◌-◌, ◌*◌, ◌&&◌, nat_le, Bool, List, [], ◌∷◌, length}
use Rattle.std.specs.Char.{is_ascii_digit}
use Rattle.std.specs.List.{list_all}

abbrev pub value_from : ℕ → List ℕ → ℕ
value_from n [] = n
value_from n (b ∷ bytes) = value_from (10 * n + (b - 48)) bytes

abbrev pub value_of : List ℕ → ℕ
value_of digits = value_from 0 digits

-- one to that many decimal digits
abbrev pub is_number : ℕ → List ℕ → Bool
is_number most text = nat_le 1 (length text) && nat_le (length text) most && list_all is_ascii_digit text
