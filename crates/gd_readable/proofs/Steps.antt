-- Steps of the walk over the directory.
use Rattle.std.proofs.Common.{◌≡◌, ℕ, zero, suc, ◌+◌, ◌-◌, ◌<◌, List, Option, Some, None, refl, sym, ap, ◌∙◌, arith}
use Rattle.gd_format.specs.declared.Header.{Header}
use Rattle.gd_base.specs.declared.errors.DbError.{DbError}
use Rattle.gd_format.specs.First.{or_else}
use Rattle.gd_format.specs.File.{entries_fault, entry_fault, run_at}

module _ (file : List ℕ) (h : Header) where
  walk_at : (n m i j : ℕ) → n ≡ m → i ≡ j → entries_fault file h n 0 i ≡ entries_fault file h m 0 j
  walk_at n m i j a b = ap (λ (k : ℕ). entries_fault file h k 0 i) a ∙ ap (λ (k : ℕ). entries_fault file h m 0 k) b

  none_left : (n covered i : ℕ) → n ≡ 0 → entries_fault file h n covered i ≡ None
  none_left zero covered i e = refl
  none_left (suc n) covered i e = absurd (omega arith)

  skipped : (n covered i : ℕ) → entries_fault file h n covered i ≡ entries_fault file h (n - covered) 0 (i + covered)
  skipped zero covered i = sym (none_left (zero - covered) 0 (i + covered) (omega arith))
  skipped (suc n) zero i =
      let a : suc n ≡ suc n - 0 = omega arith in
      let b : i ≡ i + 0 = omega arith in
      walk_at (suc n) (suc n - 0) i (i + 0) a b
  skipped (suc n) (suc covered) i =
      let a : n - covered ≡ suc n - suc covered = omega arith in
      let b : i + 1 + covered ≡ i + suc covered = omega arith in
      skipped n covered (i + 1) ∙ walk_at (n - covered) (suc n - suc covered) (i + 1 + covered) (i + suc covered) a b

  first_step : (n i : ℕ) → entries_fault file h (suc n) 0 i ≡ or_else (entry_fault file h i) (entries_fault file h n (run_at file h i - 1) (i + 1))
  first_step n i = refl

  stops : (n i : ℕ) (e : DbError) → 0 < n → entry_fault file h i ≡ Some e → entries_fault file h n 0 i ≡ Some e
  stops zero i e lt h = absurd (omega arith)
  stops (suc n) i e lt h = rw h refl

  goes_on : (n i r : ℕ) → 0 < n → entry_fault file h i ≡ None → r ≡ run_at file h i → 0 < r → entries_fault file h n 0 i ≡ entries_fault file h (n - r) 0 (i + r)
  goes_on zero i r lt none e positive = absurd (omega arith)
  goes_on (suc n) i r lt none e positive =
      let a : n - (run_at file h i - 1) ≡ suc n - r = omega arith in
      let b : i + 1 + (run_at file h i - 1) ≡ i + r = omega arith in
      rw none (skipped n (run_at file h i - 1) (i + 1) ∙ walk_at (n - (run_at file h i - 1)) (suc n - r) (i + 1 + (run_at file h i - 1)) (i + r) a b)

  -- the walk of all n entries after a run from i on
  pub walk_more : (n i r : ℕ) (d : Option DbError) → entries_fault file h (n - i) 0 i ≡ d → i < n → entry_fault file h i ≡ None → r ≡ run_at file h i → 0 < r → entries_fault file h (n - (i + r)) 0 (i + r) ≡ d
  walk_more n i r d rest lt none e positive =
      let a : n - (i + r) ≡ n - i - r = omega arith in
      walk_at (n - (i + r)) (n - i - r) (i + r) (i + r) a refl ∙ sym (goes_on (n - i) i r (omega arith) none e positive) ∙ rest

  pub walk_stops : (n i : ℕ) (d : Option DbError) (e : DbError) → entries_fault file h (n - i) 0 i ≡ d → i < n → entry_fault file h i ≡ Some e → Some e ≡ d
  walk_stops n i d e rest lt fault = sym (stops (n - i) i e (omega arith) fault) ∙ rest
