-- The bytes of a number are read back.
use Rattle.std.proofs.Common.{◌≡◌, ◌∙◌, ap, refl, ℕ, zero, suc, ◌+◌, ◌-◌, ◌*◌, ◌^◌, ◌<◌, Bool, true, false, nat_lt, if◌then◌else◌, List, ◌++◌, ℤ, pos, negsuc, ◌-ℤ◌, arith}
use Rattle.std.proofs.lemmas.Bool.Decides.{nat_tests}
use Rattle.std.proofs.lemmas.Int.{ints}
use Rattle.byteorder.specs.Endian.{little_bytes, little_number, twos_complement}
use Rattle.byteorder.specs.Numbers.{little_number-reads_back}
use Rattle.gd_types.specs.RoundTrip.{ScalarsReadBack}
use Rattle.gd_types.specs.Rows.{is_held, is_width, number_bytes, number_in}
use Rattle.gd_types.proofs.Widths.{by_width}

-- a number's two's complement, as a number without a sign
abbrev complement : ℕ → ℤ → ℕ
complement w (pos n) = n
complement w (negsuc n) = 2 ^ (8 * w) - suc n

abbrev valued : ℕ → Bool → ℕ → ℤ
valued w true n = twos_complement w n
valued w false n = pos n

record Back (w : ℕ) (signed : Bool) (z : ℤ) : Type 0 where
  low : complement w z < 256 ^ w
  value : valued w signed (complement w z) ≡ z

abbrev Backs : ℕ → Type 0
Backs w = (signed : Bool) (z : ℤ) → is_held w signed z ≡ true → Back w signed z

pos-back : (w n : ℕ) → nat_lt n (2 ^ (8 * w - 1)) ≡ true → twos_complement w n ≡ pos n
pos-back w n h = ap (λ (b : Bool). if b then pos n else (pos n -ℤ pos (2 ^ (8 * w)))) h

neg-value : (c a n x : ℕ) → a ≡ c + c → n < c → x ≡ a - suc n → (if nat_lt x c then pos x else (pos x -ℤ pos a)) ≡ negsuc n
neg-value c a n x twice low is =
    let test : nat_lt x c ≡ false = grind (arith, nat_tests) in
    let value : pos x -ℤ pos a ≡ negsuc n = omega (arith, ints) in
    ap (λ (b : Bool). if b then pos x else (pos x -ℤ pos a)) test ∙ value

below : (n c : ℕ) → nat_lt n c ≡ true → n < c
below n c h = grind (arith, nat_tests)

back-1 : Backs 1
back-1 true (pos n) h = let low = below n 128 h in record { low = omega arith; value = pos-back 1 n h }
back-1 false (pos n) h = record { low = below n 256 h; value = refl }
back-1 true (negsuc n) h = record { low = omega arith; value = neg-value 128 256 n (256 - suc n) refl (below n 128 h) refl }
back-1 false (negsuc n) h = cc

back-2 : Backs 2
back-2 true (pos n) h = let low = below n 32768 h in record { low = omega arith; value = pos-back 2 n h }
back-2 false (pos n) h = record { low = below n 65536 h; value = refl }
back-2 true (negsuc n) h = record { low = omega arith; value = neg-value 32768 65536 n (65536 - suc n) refl (below n 32768 h) refl }
back-2 false (negsuc n) h = cc

back-4 : Backs 4
back-4 true (pos n) h = let low = below n 2147483648 h in record { low = omega arith; value = pos-back 4 n h }
back-4 false (pos n) h = record { low = below n 4294967296 h; value = refl }
back-4 true (negsuc n) h = record { low = omega arith; value = neg-value 2147483648 4294967296 n (4294967296 - suc n) refl (below n 2147483648 h) refl }
back-4 false (negsuc n) h = cc

back-8 : Backs 8
back-8 true (pos n) h = let low = below n 9223372036854775808 h in record { low = omega arith; value = pos-back 8 n h }
back-8 false (pos n) h = record { low = below n 18446744073709551616 h; value = refl }
back-8 true (negsuc n) h = record { low = omega arith; value = neg-value 9223372036854775808 18446744073709551616 n (18446744073709551616 - suc n) refl (below n 9223372036854775808 h) refl }
back-8 false (negsuc n) h = cc

backs : (w : ℕ) → is_width w ≡ true → Backs w
backs = by_width Backs back-1 back-2 back-4 back-8

number_bytes-complement : (w : ℕ) (z : ℤ) → number_bytes w z ≡ little_bytes w (complement w z)
number_bytes-complement w (pos n) = refl
number_bytes-complement w (negsuc n) = refl

number_in-valued : (w : ℕ) (signed : Bool) (bytes : List ℕ) → number_in w signed bytes ≡ valued w signed (little_number w bytes)
number_in-valued w true bytes = refl
number_in-valued w false bytes = refl

pub numbers-back : (w : ℕ) (signed : Bool) (z : ℤ) (rest : List ℕ) → is_width w ≡ true → is_held w signed z ≡ true → number_in w signed (number_bytes w z ++ rest) ≡ z
numbers-back w signed z rest width held =
    let back = backs w width signed z held in
    number_in-valued w signed (number_bytes w z ++ rest)
    ∙ ap (λ (bytes : List ℕ). valued w signed (little_number w (bytes ++ rest))) (number_bytes-complement w z)
    ∙ ap (valued w signed) (little_number-reads_back w (complement w z) rest back.low)
    ∙ back.value

pub scalars-back : ScalarsReadBack
scalars-back zero z rest low h = numbers-back 1 false z rest refl h
scalars-back (suc zero) z rest low h = numbers-back 2 true z rest refl h
scalars-back (suc (suc zero)) z rest low h = numbers-back 2 false z rest refl h
scalars-back (suc (suc (suc zero))) z rest low h = numbers-back 4 true z rest refl h
scalars-back (suc (suc (suc (suc zero)))) z rest low h = numbers-back 4 false z rest refl h
scalars-back (suc (suc (suc (suc (suc zero))))) z rest low h = numbers-back 8 true z rest refl h
scalars-back (suc (suc (suc (suc (suc (suc zero)))))) z rest low h = numbers-back 8 false z rest refl h
scalars-back (suc (suc (suc (suc (suc (suc (suc zero))))))) z rest low h = numbers-back 8 true z rest refl h
scalars-back (suc (suc (suc (suc (suc (suc (suc (suc zero)))))))) z rest low h = numbers-back 8 false z rest refl h
scalars-back (suc (suc (suc (suc (suc (suc (suc (suc (suc n))))))))) z rest low h = absurd (omega arith)
