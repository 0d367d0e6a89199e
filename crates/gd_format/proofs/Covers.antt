-- Covers and sums of lists of extents that are joined, cut or made shorter.
use Rattle.std.proofs.Common.{◌≡◌, ℕ, zero, suc, ◌+◌, ◌-◌, ◌<◌, ◌≤◌, cond, List, [], ◌∷◌, ◌++◌, length, get_or, refl, arith}
use Rattle.std.specs.List.{AllByRecursion, remove}
use Rattle.std.proofs.lemmas.Bool.Decides.{nat_tests}
use Rattle.gd_format.specs.declared.Extent.{Extent}
use Rattle.gd_format.specs.Covers.{cover, has_byte, size_sum}
use Rattle.gd_format.specs.Sound.{extent}

pub cover-append : (xs ys : List Extent) (b : ℕ) → cover (xs ++ ys) b ≡ cover xs b + cover ys b
cover-append [] ys b = omega arith
cover-append (x ∷ xs) ys b = let h = cover-append xs ys b in omega (arith, h)

pub size_sum-append : (xs ys : List Extent) → size_sum (xs ++ ys) ≡ size_sum xs + size_sum ys
size_sum-append [] ys = omega arith
size_sum-append (x ∷ xs) ys = let h = size_sum-append xs ys in omega (arith, h)

pub all-append : (P : Extent → Type 0) (xs ys : List Extent) → AllByRecursion P xs → AllByRecursion P ys → AllByRecursion P (xs ++ ys)
all-append P [] ys h k = k
all-append P (x ∷ xs) ys h k = (h.0, all-append P xs ys h.1 k)

pub all-left : (P : Extent → Type 0) (xs ys : List Extent) → AllByRecursion P (xs ++ ys) → AllByRecursion P xs
all-left P [] ys h = tt
all-left P (x ∷ xs) ys h = (h.0, all-left P xs ys h.1)

pub all-right : (P : Extent → Type 0) (xs ys : List Extent) → AllByRecursion P (xs ++ ys) → AllByRecursion P ys
all-right P [] ys h = h
all-right P (x ∷ xs) ys h = all-right P xs ys h.1

-- two extents side by side are one
pub cover-split : (at n m b : ℕ) → cover (extent at (n + m) ∷ []) b ≡ cover (extent at n ∷ []) b + cover (extent (at + n) m ∷ []) b
cover-split at n m b = grind (arith, nat_tests)

module _ (d : Extent) where
  pub cover-remove : (xs : List Extent) (i b : ℕ) → i < length xs → cover (remove xs i) b + cover (get_or xs i d ∷ []) b ≡ cover xs b
  cover-remove [] i b h = absurd (omega arith)
  cover-remove (x ∷ xs) zero b h = omega arith
  cover-remove (x ∷ xs) (suc i) b h = let ih = cover-remove xs i b (omega arith) in omega (arith, ih)

  pub size_sum-remove : (xs : List Extent) (i : ℕ) → i < length xs → size_sum (remove xs i) + (get_or xs i d).size ≡ size_sum xs
  size_sum-remove [] i h = absurd (omega arith)
  size_sum-remove (x ∷ xs) zero h = omega arith
  size_sum-remove (x ∷ xs) (suc i) h = let ih = size_sum-remove xs i (omega arith) in omega (arith, ih)
