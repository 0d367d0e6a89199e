-- Lists of numbers that pass a test, and what holds of each element of joined lists.
use Rattle.std.proofs.Common.{◌≡◌, ℕ, zero, suc, ◌+◌, ◌<◌, Bool, true, false, cond, List, [], ◌∷◌, ◌++◌, map, Option, None, refl, sym, ap, ◌∙◌, inl, inr, add-one, arith}
use Rattle.std.proofs.lemmas.Bool.{cases_eq}
use Rattle.std.proofs.lemmas.List.{map-id, append-nil, map-append}
use Rattle.std.proofs.lemmas.List.FromFn.{filter_of_map_range_with_len_more}
use Rattle.std.specs.List.{range_with_len, flat_map, filter, AllByRecursion}
use Rattle.gd_format.specs.First.{all_below, list_below, first_some}
use Rattle.gd_format.proofs.Firsts.{or_else-none, or_else_both}

pub bool_cases : (b : Bool) {P : Type 0} → (b ≡ true → P) → (b ≡ false → P) → P
bool_cases true p q = p refl
bool_cases false p q = q refl

pub filter_more : (p : ℕ → Bool) (n : ℕ) → filter p (range_with_len 0 (n + 1)) ≡ filter p (range_with_len 0 n) ++ cond (p n) (n ∷ []) []
filter_more p n =
    let e = filter_of_map_range_with_len_more p (λ (x : ℕ). x) 0 n n (omega arith) in
    rw (map-id (range_with_len 0 (n + 1)), map-id (range_with_len 0 n)) at e

module _ (p : ℕ → Bool) where
  pub filter_yes : (n : ℕ) → p n ≡ true → filter p (range_with_len 0 (suc n)) ≡ filter p (range_with_len 0 n) ++ n ∷ []
  filter_yes n h =
      let e : filter p (range_with_len 0 (n + 1)) ≡ filter p (range_with_len 0 n) ++ n ∷ [] = rw h at (filter_more p n) in
      rw add-one at e

  pub filter_no : (n : ℕ) → p n ≡ false → filter p (range_with_len 0 (suc n)) ≡ filter p (range_with_len 0 n)
  filter_no n h =
      let e : filter p (range_with_len 0 (n + 1)) ≡ filter p (range_with_len 0 n) ++ [] = rw h at (filter_more p n) in
      let g : filter p (range_with_len 0 (suc n)) ≡ filter p (range_with_len 0 n) ++ [] = rw add-one at e in
      g ∙ append-nil (filter p (range_with_len 0 n))

-- two functions that agree where the test passes
pub map_passing : {A : Type 0} (p : ℕ → Bool) (f g : ℕ → A) (n : ℕ) → ((k : ℕ) → k < n → p k ≡ true → f k ≡ g k) → map f (filter p (range_with_len 0 n)) ≡ map g (filter p (range_with_len 0 n))
map_passing p f g zero same = refl
map_passing p f g (suc n) same =
    let ih = map_passing p f g n (λ k lt. same k (omega arith)) in
    bool_cases (p n)
    (λ h.
    let e = filter_yes p n h in
    let here = same n (omega arith) h in
    ap (map f) e ∙ map-append f (filter p (range_with_len 0 n)) (n ∷ []) ∙ rw (ih, here) (sym (map-append g (filter p (range_with_len 0 n)) (n ∷ []))) ∙ sym (ap (map g) e))
    (λ h. let e = filter_no p n h in ap (map f) e ∙ ih ∙ sym (ap (map g) e))

-- ---- what holds of each element

module _ {X : Type 0} (P : X → Type 0) where
  pub all-append : (xs ys : List X) → AllByRecursion P xs → AllByRecursion P ys → AllByRecursion P (xs ++ ys)
  all-append [] ys h k = k
  all-append (x ∷ xs) ys h k = (h.0, all-append xs ys h.1 k)

  pub all_left : (xs ys : List X) → AllByRecursion P (xs ++ ys) → AllByRecursion P xs
  all_left [] ys h = tt
  all_left (x ∷ xs) ys h = (h.0, all_left xs ys h.1)

  pub all_right : (xs ys : List X) → AllByRecursion P (xs ++ ys) → AllByRecursion P ys
  all_right [] ys h = h
  all_right (x ∷ xs) ys h = all_right xs ys h.1

  pub all_flat_map : {Y : Type 0} (f : Y → List X) (ys : List Y) → AllByRecursion (λ y. AllByRecursion P (f y)) ys → AllByRecursion P (flat_map f ys)
  all_flat_map f [] h = tt
  all_flat_map f (y ∷ ys) h = all-append (f y) (flat_map f ys) h.0 (all_flat_map f ys h.1)

  pub all_map : {Y : Type 0} (f : Y → X) (ys : List Y) → AllByRecursion (λ y. P (f y)) ys → AllByRecursion P (map f ys)
  all_map f [] h = tt
  all_map f (y ∷ ys) h = (h.0, all_map f ys h.1)

  pub all_filter : (p : X → Bool) (xs : List X) → AllByRecursion (λ x. p x ≡ true → P x) xs → AllByRecursion P (filter p xs)
  all_filter p [] h = tt
  all_filter p (x ∷ xs) h = bool_cases (p x) (λ t. rw t (h.0 t, all_filter p xs h.1)) (λ f. rw f (all_filter p xs h.1))

  pub all_list_below : (f : ℕ → X) (n : ℕ) → ((k : ℕ) → k < n → P (f k)) → AllByRecursion P (list_below n f)
  all_list_below f zero h = tt
  all_list_below f (suc n) h = all-append (list_below n f) (f n ∷ []) (all_list_below f n (λ k lt. h k (omega arith))) (h n (omega arith), tt)

pub all_passing : (P : ℕ → Type 0) (p : ℕ → Bool) (n : ℕ) → ((k : ℕ) → k < n → p k ≡ true → P k) → AllByRecursion P (filter p (range_with_len 0 n))
all_passing P p zero h = tt
all_passing P p (suc n) h =
    let ih = all_passing P p n (λ k lt. h k (omega arith)) in
    bool_cases (p n)
    (λ t. let e = filter_yes p n t in rw e (all-append P (filter p (range_with_len 0 n)) (n ∷ []) ih (h n (omega arith) t, tt)))
    (λ f. let e = filter_no p n f in rw e ih)

pub of_passing : (P : ℕ → Type 0) (p : ℕ → Bool) (n : ℕ) → AllByRecursion P (filter p (range_with_len 0 n)) → (k : ℕ) → k < n → p k ≡ true → P k
of_passing P p zero h k lt t = absurd (omega arith)
of_passing P p (suc n) h k lt t =
    elim (cases_eq k n) [
      | inl same ↦
          let pn : p n ≡ true = rw same at t in
          let all : AllByRecursion P (filter p (range_with_len 0 n) ++ n ∷ []) = rw (filter_yes p n pn) at h in
          rw same (all_right P (filter p (range_with_len 0 n)) (n ∷ []) all).0
      | inr other ↦
          bool_cases (p n)
          (λ y. let all : AllByRecursion P (filter p (range_with_len 0 n) ++ n ∷ []) = rw (filter_yes p n y) at h in of_passing P p n (all_left P (filter p (range_with_len 0 n)) (n ∷ []) all) k (omega arith) t)
          (λ z. let all : AllByRecursion P (filter p (range_with_len 0 n)) = rw (filter_no p n z) at h in of_passing P p n all k (omega arith) t)
    ]

-- ---- no error of a list

pub first_some-none : {X E : Type 0} (f : X → Option E) (xs : List X) → first_some (map f xs) ≡ None → AllByRecursion (λ x. f x ≡ None) xs
first_some-none f [] h = tt
first_some-none f (x ∷ xs) h = let both = or_else-none (f x) (first_some (map f xs)) h in (both.0, first_some-none f xs both.1)

pub first_some_none : {X E : Type 0} (f : X → Option E) (xs : List X) → AllByRecursion (λ x. f x ≡ None) xs → first_some (map f xs) ≡ None
first_some_none f [] h = refl
first_some_none f (x ∷ xs) h = or_else_both (f x) (first_some (map f xs)) h.0 (first_some_none f xs h.1)

-- a number below n that fails
pub failing : (p : ℕ → Bool) (n : ℕ) → all_below n p ≡ false → (k : ℕ) × (k < n) × (p k ≡ false)
failing p zero h = absurd cc
failing p (suc n) h =
    bool_cases (p n)
    (λ t. bool_cases (all_below n p) (λ a. let bad : true ≡ false = rw (a, t) at h in absurd cc) (λ b. let r = failing p n b in (r.0, omega (arith, r.1), r.2)))
    (λ f. (n, omega arith, f))
