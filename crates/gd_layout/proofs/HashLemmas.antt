-- The hash in numbers from 0 on.
use Rattle.std.proofs.Common.{◌≡◌, ℕ, suc, ◌+◌, ◌-◌, ◌*◌, ◌%◌, ◌^◌, ◌<◌, ◌≤◌, refl, sym, ap, ◌∙◌, arith}
use Rattle.std.specs.Prelude.{ℤ, pos, negsuc, ◌+ℤ◌, ◌*ℤ◌, neg_ℤ, unsigned_abs}
use Rattle.std.specs.Int.{w8, cast_signed}
use Rattle.std.proofs.lemmas.Int.{ints, int_rem_euclid_is}
use Rattle.std.proofs.lemmas.Bool.{le-ltb}
use Rattle.std.proofs.Math.Nat.{pow-le-pow_right, add-mul, mod-eq_of_lt}
use Rattle.gd_format.specs.Hash.{modulo_31}

signed-low : (b : ℕ) → b < 128 → cast_signed w8 b ≡ pos b
signed-low b h = omega (arith, ints)

signed-high : (b c : ℕ) → 128 ≤ b → b + suc c ≡ 256 → cast_signed w8 b ≡ negsuc c
signed-high b c h k = let e : 255 - b ≡ c = omega arith in rw (le-ltb b 128 h) (ap negsuc (omega arith))

pub modulo-low : (v b u : ℕ) → b < 128 → modulo_31 (pos v +ℤ cast_signed w8 b *ℤ pos u) ≡ (v + b * u) % 2 ^ 31
modulo-low v b u h = rw (signed-low b h) refl

-- a negative byte stands 256 units lower
below-zero : (v p c u : ℕ) → v + p ≡ c → p ≤ 2 ^ 31 → pos v +ℤ neg_ℤ (pos p) +ℤ pos (2 ^ 31) ≡ pos (v + 2 ^ 31 - p)
below-zero v p c u e q = omega (arith, ints)

modulo_from : (z : ℤ) (m : ℕ) → z +ℤ pos (1 * 2 ^ 31) ≡ pos m → modulo_31 z ≡ m % 2 ^ 31
modulo_from z m e = ap unsigned_abs (int_rem_euclid_is z (pos (2 ^ 31)) (2 ^ 31) 1 m (omega arith) refl e)

high-worth : (b c u : ℕ) → b + suc c ≡ 256 → suc c * u + b * u ≡ 256 * u
high-worth b c u e = sym (add-mul (suc c) b u) ∙ ap (λ (x : ℕ). x * u) (omega arith)

pub modulo-high : (v b u : ℕ) → 128 ≤ b → b < 256 → 256 * u ≤ 2 ^ 31 → modulo_31 (pos v +ℤ cast_signed w8 b *ℤ pos u) ≡ (v + b * u + 2 ^ 31 - 256 * u) % 2 ^ 31
modulo-high v b u h k q =
    let c : ℕ = 255 - b in
    let e : b + suc (255 - b) ≡ 256 = omega arith in
    let worth = high-worth b (255 - b) u e in
    rw (signed-high b (255 - b) h e) (modulo_from _ (v + b * u + 2 ^ 31 - 256 * u) (omega (arith, ints, worth)))

unit_le : (k : ℕ) → k < 24 → 2 ^ k ≤ 2 ^ 23
unit_le k h = pow-le-pow_right {n = 2} (omega arith) {i = k} {j = 23} (omega arith)

-- the unit of a shift as the code computes it
pub unit_is : (k : ℕ) → k < 24 → (1 * 2 ^ k % 2 ^ 64 ≡ 2 ^ k) × (2 ^ k ≤ 2 ^ 23)
unit_is k h =
    let le : 2 ^ k ≤ 2 ^ 23 = unit_le k h in
    let whole : 2 ^ k % 2 ^ 64 ≡ 2 ^ k = mod-eq_of_lt (omega arith) in
    (ap (λ (x : ℕ). x % 2 ^ 64) (omega arith) ∙ whole, le)
