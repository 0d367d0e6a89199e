-- Numbers that are cut to what no type holds.
use Rattle.std.proofs.Common.{◌≡◌, ◌∙◌, ap, sym, refl, ℕ, suc, zero, ◌+◌, ◌-◌, ◌*◌, ◌^◌, ◌<◌, ◌≤◌, min, Bool, true, false, inl, inr, List, length, take, get_or, ℤ, pos, negsuc, neg_ℤ, Option, Some, None, option_map, Result, Ok, Err, ◌&&◌, nat_lt, if◌then◌else◌, lit≤, arith}
use Rattle.std.proofs.Math.Nat.{mul-le-mul_right, mul-le-mul_left}
use Rattle.std.proofs.lemmas.Bool.{cases_lt}
use Rattle.std.proofs.lemmas.Int.Digits.{digits_value_more}
use Rattle.std.specs.Char.{digit_value}
use Rattle.std.specs.Str.Parse.{digits_value}
use Rattle.std.proofs.lemmas.Bool.Decides.{nat_tests}
use Rattle.gd_types.specs.Numerals.{cut, held_number}
use Rattle.gd_types.specs.Rows.{is_held, is_width}
use Rattle.gd_types.specs.declared.errors.TypeError.{TypeError}
use Rattle.gd_types.specs.declared.errors.TypeError.TheVariants.{Range, Text}
use Rattle.gd_types.proofs.Making.{and-right}
use Rattle.gd_types.proofs.Widths.{by_width}

pub product-low : (v b : ℕ) → v ≤ 2 ^ 64 → b ≤ 36 → v * b ≤ 2 ^ 64 * 36
product-low v b low high =
    let first : v * b ≤ 2 ^ 64 * b = mul-le-mul_right b low in
    omega (arith, first)

pub product-of : (v a b : ℕ) → a ≡ b → v ≤ 2 ^ 64 → b ≤ 36 → v * a < 2 ^ 128
product-of v a b same low high =
    let product = product-low v b low high in
    rw same (omega (arith, product))

-- a digit more, of a number that was cut
pub cut-step : (b v d c : ℕ) → 1 ≤ b → min (min v c * b + d) c ≡ min (v * b + d) c
cut-step b v d c low = elim (cases_lt v c) [
  | inl below ↦ let same : min v c ≡ v = omega arith in ap (λ (n : ℕ). min (n * b + d) c) same
  | inr above ↦
      let same : min v c ≡ c = omega arith in
      let first : c * 1 ≤ c * b = mul-le-mul_left c low in
      let second : c * b ≤ v * b = mul-le-mul_right b above in
      ap (λ (n : ℕ). min (n * b + d) c) same ∙ omega (arith, first, second)
]

pub value-step : (base : ℕ) (digits : List ℕ) (i v now : ℕ) → 1 ≤ base → i < length digits → v ≡ min (digits_value base (take i digits)) (2 ^ 64)
    → now ≡ min (v * base + digit_value (get_or digits i 0)) (2 ^ 64) → now ≡ min (digits_value base (take (i + 1) digits)) (2 ^ 64)
value-step base digits i v now low inside so_far step =
    step ∙ ap (λ (n : ℕ). min (n * base + digit_value (get_or digits i 0)) (2 ^ 64)) so_far
    ∙ cut-step base (digits_value base (take i digits)) (digit_value (get_or digits i 0)) (2 ^ 64) low
    ∙ ap (λ (n : ℕ). min n (2 ^ 64)) (sym (digits_value_more base digits i inside))

-- no limit is above the cut
limit-low : (w : ℕ) → is_width w ≡ true → (signed : Bool) → 2 ^ (if signed then 8 * w - 1 else 8 * w) ≤ 2 ^ 64
limit-low = by_width (λ w. (signed : Bool) → 2 ^ (if signed then 8 * w - 1 else 8 * w) ≤ 2 ^ 64) one two four eight where
  one : (signed : Bool) → 2 ^ (if signed then 8 * 1 - 1 else 8 * 1) ≤ 2 ^ 64
  one true = lit≤ tt
  one false = lit≤ tt

  two : (signed : Bool) → 2 ^ (if signed then 8 * 2 - 1 else 8 * 2) ≤ 2 ^ 64
  two true = lit≤ tt
  two false = lit≤ tt

  four : (signed : Bool) → 2 ^ (if signed then 8 * 4 - 1 else 8 * 4) ≤ 2 ^ 64
  four true = lit≤ tt
  four false = lit≤ tt

  eight : (signed : Bool) → 2 ^ (if signed then 8 * 8 - 1 else 8 * 8) ≤ 2 ^ 64
  eight true = lit≤ tt
  eight false = lit≤ tt

half-low : (w : ℕ) → is_width w ≡ true → 2 ^ (8 * w - 1) ≤ 2 ^ 64 - 1
half-low = by_width (λ w. 2 ^ (8 * w - 1) ≤ 2 ^ 64 - 1) (lit≤ tt) (lit≤ tt) (lit≤ tt) (lit≤ tt)

min-test : (n c l : ℕ) → l ≤ c → nat_lt (min n c) l ≡ nat_lt n l
min-test n c l low = grind (arith, nat_tests)

min-same : (n c l : ℕ) → l ≤ c → nat_lt (min n c) l ≡ true → min n c ≡ n
min-same n c l low h = grind (arith, nat_tests)

cut-held : (w : ℕ) (signed : Bool) (z : ℤ) → is_width w ≡ true → is_held w signed (cut z) ≡ is_held w signed z
cut-held w signed (pos n) width = min-test n (2 ^ 64) (2 ^ (if signed then 8 * w - 1 else 8 * w)) (limit-low w width signed)
cut-held w signed (negsuc n) width = ap (λ (b : Bool). signed && b) (min-test n (2 ^ 64 - 1) (2 ^ (8 * w - 1)) (half-low w width))

held-cut : (w : ℕ) (signed : Bool) (z : ℤ) → is_width w ≡ true → is_held w signed (cut z) ≡ true → cut z ≡ z
held-cut w signed (pos n) width h = ap pos (min-same n (2 ^ 64) (2 ^ (if signed then 8 * w - 1 else 8 * w)) (limit-low w width signed) h)
held-cut w signed (negsuc n) width h =
    ap negsuc (min-same n (2 ^ 64 - 1) (2 ^ (8 * w - 1)) (half-low w width) (and-right signed (nat_lt (min n (2 ^ 64 - 1)) (2 ^ (8 * w - 1))) h))

pub number-none : (w : ℕ) (signed : Bool) (read : Option ℤ) → None ≡ option_map cut read → Err Text ≡ held_number w signed read
number-none w signed None h = refl
number-none w signed (Some z) h = cc

same-some : (z y : ℤ) → Some z ≡ Some y → z ≡ y
same-some z y h = cc

pub number-held : (w : ℕ) (signed : Bool) (read : Option ℤ) (z : ℤ) → is_width w ≡ true → Some z ≡ option_map cut read → is_held w signed z ≡ true → Ok z ≡ held_number w signed read
number-held w signed None z width h held = cc
number-held w signed (Some y) z width h held =
    let same = same-some z (cut y) h in
    let cut_held : is_held w signed (cut y) ≡ true = ap (is_held w signed) (sym same) ∙ held in
    let y_held : is_held w signed y ≡ true = sym (cut-held w signed y width) ∙ cut_held in
    ap Ok (same ∙ held-cut w signed y width cut_held) ∙ ap (λ (b : Bool). if b then Ok y else Err Range) (sym y_held)

pub number-beyond : (w : ℕ) (signed : Bool) (read : Option ℤ) (z : ℤ) → is_width w ≡ true → Some z ≡ option_map cut read → is_held w signed z ≡ false → Err Range ≡ held_number w signed read
number-beyond w signed None z width h held = cc
number-beyond w signed (Some y) z width h held =
    let same = same-some z (cut y) h in
    let y_held : is_held w signed y ≡ false = sym (cut-held w signed y width) ∙ ap (is_held w signed) (sym same) ∙ held in
    ap (λ (b : Bool). if b then Ok y else Err Range) (sym y_held)

-- the same of a number that was cast
pub cast-held : (w : ℕ) (signed : Bool) (read : Option ℤ) (z y : ℤ) → y ≡ z → is_width w ≡ true → Some z ≡ option_map cut read → is_held w signed y ≡ true → Ok y ≡ held_number w signed read
cast-held w signed read z y same width h held = ap Ok same ∙ number-held w signed read z width h (ap (is_held w signed) (sym same) ∙ held)

pub cast-beyond : (w : ℕ) (signed : Bool) (read : Option ℤ) (z y : ℤ) → y ≡ z → is_width w ≡ true → Some z ≡ option_map cut read → is_held w signed y ≡ false → Err Range ≡ held_number w signed read
cast-beyond w signed read z y same width h held = number-beyond w signed read z width h (ap (is_held w signed) (sym same) ∙ held)

held-if : (b : Bool) (z y : ℤ) → ◌≡◌ {A = Result ℤ TypeError} (Ok z) (if b then Ok y else Err Range) → (b ≡ true) × (z ≡ y)
held-if true z y h = (refl, cc)
held-if false z y h = cc

-- a number that was read is in range
pub held-ok : (w : ℕ) (signed : Bool) (read : Option ℤ) (z y : ℤ) → y ≡ z → Ok z ≡ held_number w signed read → is_held w signed y ≡ true
held-ok w signed None z y same h = cc
held-ok w signed (Some x) z y same h =
    let both = held-if (is_held w signed x) z x h in
    ap (is_held w signed) (same ∙ both.1) ∙ both.0

-- a number that was read without its sign
pub cut-positive : (read : Option ℕ) → option_map pos (option_map (λ n. min n (2 ^ 64)) read) ≡ option_map cut (option_map pos read)
cut-positive None = refl
cut-positive (Some n) = refl

cut-neg : (n : ℕ) → neg_ℤ (pos (min n (2 ^ 64))) ≡ cut (neg_ℤ (pos n))
cut-neg zero = refl
cut-neg (suc n) = let e : min (suc n) (2 ^ 64) ≡ suc (min n (2 ^ 64 - 1)) = omega arith in ap (λ (m : ℕ). neg_ℤ (pos m)) e

pub cut-negative : (read : Option ℕ) → option_map (λ n. neg_ℤ (pos n)) (option_map (λ n. min n (2 ^ 64)) read) ≡ option_map cut (option_map (λ n. neg_ℤ (pos n)) read)
cut-negative None = refl
cut-negative (Some n) = ap Some (cut-neg n)
