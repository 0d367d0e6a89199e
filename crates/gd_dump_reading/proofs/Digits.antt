-- One more digit.
use Rattle.std.proofs.Common.{◌≡◌, ◌∙◌, ap, refl, ℕ, ◌+◌, ◌-◌, ◌*◌, ◌<◌, List, [], ◌∷◌, ◌++◌, length, take, get_or}
use Rattle.std.proofs.lemmas.List.{take_more}
use Rattle.gd_dump_reading.specs.Numbers.{value_from, value_of}

value-push : (n b : ℕ) (xs : List ℕ) → value_from n (xs ++ b ∷ []) ≡ 10 * value_from n xs + (b - 48)
value-push n b [] = refl
value-push n b (x ∷ xs) = value-push (10 * n + (x - 48)) b xs

pub value-more : (digits : List ℕ) (i : ℕ) → i < length digits → value_of (take (i + 1) digits) ≡ 10 * value_of (take i digits) + (get_or digits i 0 - 48)
value-more digits i inside = ap value_of (take_more digits i 0 inside) ∙ value-push 0 (get_or digits i 0) (take i digits)
