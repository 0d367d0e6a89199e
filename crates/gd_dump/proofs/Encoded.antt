-- Characters of base64, and decimal digits.
use Rattle.std.proofs.Common.{◌≡◌, ◌∙◌, refl, ℕ, zero, suc, ◌+◌, ◌-◌, ◌*◌, ◌/◌, ◌%◌, ◌^◌, ◌<◌, ◌≤◌, Bool, true, false, ◌&&◌, List, [], ◌∷◌, ◌++◌, length, get_or, arith, Ok, replicate}
use Rattle.std.specs.Char.{is_ascii_digit}
use Rattle.std.specs.Fmt.{decimal}
use Rattle.std.specs.List.{list_all}
use Rattle.std.proofs.lemmas.Bool.{le-leb}
use Rattle.std.proofs.lemmas.Fmt.{decimal_by_steps, decimal_nonempty}
use Rattle.std.proofs.lemmas.List.Folds.{list_all-append}
use Rattle.base64.specs.Engines.{standard}
use Rattle.base64.specs.GeneralPurpose.{engine_symbols}
use Rattle.base64.specs.Rfc4648.{encode_symbols, padding_len}
use Rattle.gd_dump.specs.Ascii.{base64_text}
use Rattle.gd_dump_reading.specs.Numbers.{is_number, value_from, value_of}
use Rattle.gd_dump.proofs.Chunks.{and-left, and-right, clean, is_clean}

pub both : (a b : Bool) → a ≡ true → b ≡ true → (a && b) ≡ true
both true b e f = f
both false b e f = absurd (cc)

-- ---- base64

clean-get : (t : List ℕ) (i : ℕ) → clean t ≡ true → is_clean (get_or t i 0) ≡ true
clean-get [] i e = refl
clean-get (x ∷ xs) zero e = and-left _ (clean xs) e
clean-get (x ∷ xs) (suc i) e = clean-get xs i (and-right (is_clean x) _ e)

clean-symbols : (t m : List ℕ) → clean t ≡ true → clean (encode_symbols t m) ≡ true
unfolding encode_symbols
clean-symbols t [] e = refl
clean-symbols t (a ∷ []) e = both _ _ (clean-get t (a / 4) e) (both _ _ (clean-get t (a % 4 * 16) e) refl)
clean-symbols t (a ∷ b ∷ []) e = both _ _ (clean-get t (a / 4) e) (both _ _ (clean-get t (a % 4 * 16 + b / 16) e) (both _ _ (clean-get t (b % 16 * 4) e) refl))
clean-symbols t (a ∷ b ∷ c ∷ rest) e =
    both _ _ (clean-get t (a / 4) e) (both _ _ (clean-get t (a % 4 * 16 + b / 16) e) (both _ _ (clean-get t (b % 16 * 4 + c / 64) e) (both _ _ (clean-get t (c % 64) e) (clean-symbols t rest e))))

clean-equals : (n : ℕ) → clean (replicate n 61) ≡ true
clean-equals zero = refl
clean-equals (suc n) = clean-equals n

pub clean-text : (bytes : List ℕ) → clean (base64_text bytes) ≡ true
clean-text bytes =
    let symbols = encode_symbols (engine_symbols standard) bytes in
    let padding = padding_len (length bytes) in
    list_all-append is_clean symbols (replicate padding 61) ∙ both (clean symbols) (clean (replicate padding 61)) (clean-symbols (engine_symbols standard) bytes refl) (clean-equals padding)

-- ---- digits

abbrev IsDigits : ℕ → List ℕ → Type 0
IsDigits n ds = (list_all is_ascii_digit ds ≡ true) × (value_of ds ≡ n)

value-push : (n b : ℕ) (xs : List ℕ) → value_from n (xs ++ b ∷ []) ≡ 10 * value_from n xs + (b - 48)
value-push n b [] = refl
value-push n b (x ∷ xs) = value-push (10 * n + (x - 48)) b xs

digit : (n : ℕ) → n < 10 → is_ascii_digit (48 + n) ≡ true
digit n small = both _ _ (le-leb 48 (48 + n) (omega arith)) (le-leb (48 + n) 57 (omega (arith, small)))

pub digits : (n : ℕ) → n < 2 ^ 64 → IsDigits n (decimal n)
digits n small = decimal_by_steps IsDigits
    (λ m less. (both _ _ (digit m less) refl, omega arith))
    (λ m ds large is. (
      list_all-append is_ascii_digit ds _ ∙ both _ _ is.0 (both _ _ (digit (m % 10) (omega arith)) refl),
      value-push 0 (48 + m % 10) ds ∙ omega (arith, is.1),
    ))
    n small

pub number-decimal : (most n : ℕ) → n < 2 ^ 64 → length (decimal n) ≤ most → is_number most (decimal n) ≡ true
number-decimal most n small fits =
    both _ _ (both _ _ (le-leb 1 _ (decimal_nonempty n small)) (le-leb _ most fits)) (digits n small).0
