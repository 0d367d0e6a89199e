-- Numbers of 1, 2, 4 and 8 bytes.
use Rattle.std.proofs.Common.{◌≡◌, ap, sym, subst, ℕ, Bool, true, false, ◌⊎◌, inl, inr, ℤ, pos, negsuc, arith}
use Rattle.std.specs.Int.{w128}
use Rattle.std.proofs.lemmas.Bool.Decides.{nat_tests}
use Rattle.byteorder.specs.Endian.{little_bytes, low_bytes}
use Rattle.gd_types.specs.Rows.{is_held, is_width, number_bytes}

pub cases_width : (w : ℕ) → is_width w ≡ true → ((w ≡ 1) ⊎ (w ≡ 2)) ⊎ ((w ≡ 4) ⊎ (w ≡ 8))
cases_width w h = grind (arith, nat_tests)

pub by_width : (P : ℕ → Type 0) → P 1 → P 2 → P 4 → P 8 → (w : ℕ) → is_width w ≡ true → P w
by_width P a b c d w h = elim (cases_width w h) [
  | inl low ↦ elim low [ inl e ↦ subst P (sym e) a | inr e ↦ subst P (sym e) b ]
  | inr high ↦ elim high [ inl e ↦ subst P (sym e) c | inr e ↦ subst P (sym e) d ]
]

-- the low bytes of a number in range are its two's complement
abbrev Complements : ℕ → Type 0
Complements w = (signed : Bool) (z : ℤ) → is_held w signed z ≡ true → little_bytes w (low_bytes w128 w z) ≡ number_bytes w z

complement-1 : Complements 1
complement-1 true (pos n) h = ap (little_bytes 1) (grind (arith, nat_tests))
complement-1 false (pos n) h = ap (little_bytes 1) (grind (arith, nat_tests))
complement-1 true (negsuc n) h = ap (little_bytes 1) (grind (arith, nat_tests))
complement-1 false (negsuc n) h = cc

complement-2 : Complements 2
complement-2 true (pos n) h = ap (little_bytes 2) (grind (arith, nat_tests))
complement-2 false (pos n) h = ap (little_bytes 2) (grind (arith, nat_tests))
complement-2 true (negsuc n) h = ap (little_bytes 2) (grind (arith, nat_tests))
complement-2 false (negsuc n) h = cc

complement-4 : Complements 4
complement-4 true (pos n) h = ap (little_bytes 4) (grind (arith, nat_tests))
complement-4 false (pos n) h = ap (little_bytes 4) (grind (arith, nat_tests))
complement-4 true (negsuc n) h = ap (little_bytes 4) (grind (arith, nat_tests))
complement-4 false (negsuc n) h = cc

complement-8 : Complements 8
complement-8 true (pos n) h = ap (little_bytes 8) (grind (arith, nat_tests))
complement-8 false (pos n) h = ap (little_bytes 8) (grind (arith, nat_tests))
complement-8 true (negsuc n) h = ap (little_bytes 8) (grind (arith, nat_tests))
complement-8 false (negsuc n) h = cc

pub complements : (w : ℕ) → is_width w ≡ true → Complements w
complements = by_width Complements complement-1 complement-2 complement-4 complement-8
