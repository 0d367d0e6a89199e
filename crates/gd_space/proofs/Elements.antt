-- The largest of extents, the elements of their lists, and extents that lie in one of them.
use Rattle.std.proofs.Common.{◌≡◌, ℕ, zero, suc, ◌+◌, ◌<◌, ◌≤◌, max, List, [], ◌∷◌, ◌++◌, length, take, get_or, inl, inr, arith, add-one}
use Rattle.std.specs.List.{AllByRecursion, remove}
use Rattle.gd_format.specs.declared.Extent.{Extent}
use Rattle.gd_space.specs.Sizes.{largest}
use Rattle.gd_space.specs.Effect.{LiesIn, LiesInOne}

pub largest-append : (xs ys : List Extent) → largest (xs ++ ys) ≡ max (largest xs) (largest ys)
largest-append [] ys = grind arith
largest-append (x ∷ xs) ys = let ih = largest-append xs ys in grind (arith, ih)

largest_suc : (d : Extent) (xs : List Extent) (i : ℕ) → i < length xs → largest (take (suc i) xs) ≡ max (largest (take i xs)) (get_or xs i d).size
largest_suc d [] i h = absurd (omega arith)
largest_suc d (x ∷ xs) zero h = grind arith
largest_suc d (x ∷ xs) (suc i) h = let ih = largest_suc d xs i (omega arith) in grind (arith, ih)

pub largest_more : (d : Extent) (xs : List Extent) (i : ℕ) → i < length xs → largest (take (i + 1) xs) ≡ max (largest (take i xs)) (get_or xs i d).size
largest_more d xs i h = rw add-one (largest_suc d xs i h)

module _ (d : Extent) where
  pub all-at : (P : Extent → Type 0) (xs : List Extent) (i : ℕ) → i < length xs → AllByRecursion P xs → P (get_or xs i d)
  all-at P [] i h k = absurd (omega arith)
  all-at P (x ∷ xs) zero h k = k.0
  all-at P (x ∷ xs) (suc i) h k = all-at P xs i (omega arith) k.1

  pub lies-in : (e : Extent) (xs : List Extent) (i : ℕ) → i < length xs → LiesIn e (get_or xs i d) → LiesInOne e xs
  lies-in e [] i h k = absurd (omega arith)
  lies-in e (x ∷ xs) zero h k = inl k
  lies-in e (x ∷ xs) (suc i) h k = inr (lies-in e xs i (omega arith) k)

pub all-remove : (P : Extent → Type 0) (xs : List Extent) (i : ℕ) → AllByRecursion P xs → AllByRecursion P (remove xs i)
all-remove P [] zero k = tt
all-remove P [] (suc i) k = tt
all-remove P (x ∷ xs) zero k = k.1
all-remove P (x ∷ xs) (suc i) k = (k.0, all-remove P xs i k.1)

pub lies-left : (e : Extent) (xs ys : List Extent) → LiesInOne e xs → LiesInOne e (xs ++ ys)
lies-left e [] ys k = absurd k
lies-left e (x ∷ xs) ys (inl k) = inl k
lies-left e (x ∷ xs) ys (inr k) = inr (lies-left e xs ys k)

pub lies-right : (e : Extent) (xs ys : List Extent) → LiesInOne e ys → LiesInOne e (xs ++ ys)
lies-right e [] ys k = k
lies-right e (x ∷ xs) ys k = inr (lies-right e xs ys k)

-- an element is at most the largest
pub at-largest : (d : Extent) (xs : List Extent) (i : ℕ) → i < length xs → (get_or xs i d).size ≤ largest xs
at-largest d [] i h = absurd (omega arith)
at-largest d (x ∷ xs) zero h = grind arith
at-largest d (x ∷ xs) (suc i) h = let ih = at-largest d xs i (omega arith) in grind (arith, ih)
