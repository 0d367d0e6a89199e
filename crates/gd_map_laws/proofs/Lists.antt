-- Look-up and counts over joined lists.
use Rattle.std.proofs.Common.{◌≡◌, ℕ, zero, suc, ◌+◌, ◌<◌, ◌≤◌, Bool, true, false, cond, List, [], ◌∷◌, ◌++◌, Option, Some, None, ◌⊎◌, refl, ap, ◌∙◌, inl, inr, add-one, arith}
use Rattle.std.proofs.lemmas.Bool.{cases_eq, cases_lt}
use Rattle.std.proofs.lemmas.List.{append-nil}
use Rattle.std.specs.List.{range_with_len, flat_map, filter}
use Rattle.std.specs.Str.{bytes_eq}
use Rattle.gd_format.specs.First.{or_else}
use Rattle.gd_format.specs.Slots.{count}
use Rattle.std.proofs.lemmas.Grind.{flat_map-append}
use Rattle.gd_file_laws.proofs.Lists.{bool_cases, filter_more}
use Rattle.gd_map_laws.specs.Lookup.{lookup, has_key}

or_else-cond : {E : Type 0} (b : Bool) (a : E) (x y : Option E) → cond b (Some a) (or_else x y) ≡ or_else (cond b (Some a) x) y
or_else-cond true a x y = refl
or_else-cond false a x y = refl

pub lookup-append : (key : List ℕ) (xs ys : List (List ℕ × List ℕ)) → lookup key (xs ++ ys) ≡ or_else (lookup key xs) (lookup key ys)
lookup-append key [] ys = refl
lookup-append key (x ∷ xs) ys = ap (cond (bytes_eq x.0 key) (Some x.1)) (lookup-append key xs ys) ∙ or_else-cond (bytes_eq x.0 key) x.1 (lookup key xs) (lookup key ys)

pub count-append : {X : Type 0} (p : X → Bool) (xs ys : List X) → count p (xs ++ ys) ≡ count p xs + count p ys
count-append p [] ys = omega arith
count-append p (x ∷ xs) ys = let ih = count-append p xs ys in omega (arith, ih)

-- a look-up finds nothing where no pair has the key
pub lookup-none : (key : List ℕ) (xs : List (List ℕ × List ℕ)) → count (has_key key) xs ≡ 0 → lookup key xs ≡ None
lookup-none key [] h = refl
lookup-none key (x ∷ xs) h =
    bool_cases (bytes_eq x.0 key)
    (λ yes. let bad : 1 + count (has_key key) xs ≡ 0 = rw yes at h in absurd (omega arith))
    (λ no. let rest : 0 + count (has_key key) xs ≡ 0 = rw no at h in rw no (lookup-none key xs (omega arith)))

-- what f gives for the numbers below n that pass p, joined
unfoldable pub joined : {A : Type 0} → (ℕ → Bool) → (ℕ → List A) → ℕ → List A
joined p f n = flat_map f (filter p (range_with_len 0 n))

module _ {A : Type 0} (p : ℕ → Bool) (f : ℕ → List A) where
  pub joined_yes : (n : ℕ) → p n ≡ true → joined p f (suc n) ≡ joined p f n ++ f n
  unfolding joined
  joined_yes n h =
      let e : filter p (range_with_len 0 (n + 1)) ≡ filter p (range_with_len 0 n) ++ n ∷ [] = rw h at (filter_more p n) in
      let g : filter p (range_with_len 0 (suc n)) ≡ filter p (range_with_len 0 n) ++ n ∷ [] = rw add-one at e in
      ap (flat_map f) g ∙ flat_map-append f (filter p (range_with_len 0 n)) (n ∷ []) ∙ ap (λ (l : List A). flat_map f (filter p (range_with_len 0 n)) ++ l) (append-nil (f n))

  pub joined_no : (n : ℕ) → p n ≡ false → joined p f (suc n) ≡ joined p f n
  unfolding joined
  joined_no n h =
      let e : filter p (range_with_len 0 (n + 1)) ≡ filter p (range_with_len 0 n) ++ [] = rw h at (filter_more p n) in
      let g : filter p (range_with_len 0 (suc n)) ≡ filter p (range_with_len 0 n) ++ [] = rw add-one at e in
      ap (flat_map f) (g ∙ append-nil (filter p (range_with_len 0 n)))

or_self : {E : Type 0} (y : Option E) → or_else y y ≡ y
or_self (Some v) = refl
or_self None = refl

or_none : {E : Type 0} (y : Option E) → or_else y None ≡ y
or_none (Some v) = refl
or_none None = refl

-- joined lists, of which each has the pair that is looked up or has none
module _ (key : List ℕ) (p : ℕ → Bool) (f : ℕ → List (List ℕ × List ℕ)) (found : Option (List ℕ)) where
  lookup_either : (n : ℕ) → ((i : ℕ) → i < n → (lookup key (f i) ≡ found) ⊎ (lookup key (f i) ≡ None)) → (lookup key (joined p f n) ≡ found) ⊎ (lookup key (joined p f n) ≡ None)
  unfolding joined
  lookup_either zero each = inr refl
  lookup_either (suc n) each =
      bool_cases (p n)
      (λ h.
      let e = ap (lookup key) (joined_yes p f n h) ∙ lookup-append key (joined p f n) (f n) in
      elim (lookup_either n (λ i lt. each i (omega arith))) [
        | inl a ↦ elim (each n (omega arith)) [
          | inl b ↦ inl (e ∙ rw (a, b) (or_self found))
          | inr b ↦ inl (e ∙ rw (a, b) (or_none found))
        ]
        | inr a ↦ elim (each n (omega arith)) [
          | inl b ↦ inl (e ∙ rw (a, b) refl)
          | inr b ↦ inr (e ∙ rw (a, b) refl)
        ]
      ])
      (λ h.
      let e = ap (lookup key) (joined_no p f n h) in
      elim (lookup_either n (λ i lt. each i (omega arith))) [ inl a ↦ inl (e ∙ a) | inr a ↦ inr (e ∙ a) ])

  pub lookup_joined : (n : ℕ) → ((i : ℕ) → i < n → (lookup key (f i) ≡ found) ⊎ (lookup key (f i) ≡ None)) → (k : ℕ) → k < n → p k ≡ true → lookup key (f k) ≡ found → lookup key (joined p f n) ≡ found
  unfolding joined
  lookup_joined zero each k lt pk at = absurd (omega arith)
  lookup_joined (suc n) each k lt pk at =
      let before = λ (i : ℕ) (l : i < n). each i (omega arith) in
      elim (cases_eq k n) [
        | inl same ↦
            let pn : p n ≡ true = rw same at pk in
            let fn : lookup key (f n) ≡ found = rw same at at in
            let e = ap (lookup key) (joined_yes p f n pn) ∙ lookup-append key (joined p f n) (f n) in
            elim (lookup_either n before) [
              | inl a ↦ e ∙ rw (a, fn) (or_self found)
              | inr a ↦ e ∙ rw (a, fn) refl
            ]
        | inr other ↦
            let ih = lookup_joined n before k (omega arith) pk at in
            bool_cases (p n)
            (λ h.
            let e = ap (lookup key) (joined_yes p f n h) ∙ lookup-append key (joined p f n) (f n) in
            elim (each n (omega arith)) [
              | inl b ↦ e ∙ rw (ih, b) (or_self found)
              | inr b ↦ e ∙ rw (ih, b) (or_none found)
            ])
            (λ h. ap (lookup key) (joined_no p f n h) ∙ ih)
      ]

-- a count over joined lists, of which one at most has such elements
module _ {A : Type 0} (q : A → Bool) (p : ℕ → Bool) (f : ℕ → List A) where
  pub count_none : (n : ℕ) → ((i : ℕ) → i < n → p i ≡ true → count q (f i) ≡ 0) → count q (joined p f n) ≡ 0
  unfolding joined
  count_none zero each = refl
  count_none (suc n) each =
      let ih = count_none n (λ i lt. each i (omega arith)) in
      bool_cases (p n)
      (λ h. let e = ap (count q) (joined_yes p f n h) ∙ count-append q (joined p f n) (f n) in let z = each n (omega arith) h in omega (arith, e, ih, z))
      (λ h. let e = ap (count q) (joined_no p f n h) in omega (arith, e, ih))

  pub count_joined : (n : ℕ) → ((i : ℕ) → i < n → p i ≡ true → count q (f i) ≤ 1) → ((i j : ℕ) → i < j → j < n → p i ≡ true → p j ≡ true → 0 < count q (f j) → count q (f i) ≡ 0) → count q (joined p f n) ≤ 1
  unfolding joined
  count_joined zero each other = omega arith
  count_joined (suc n) each other =
      let ih = count_joined n (λ i lt. each i (omega arith)) (λ i j l m. other i j l (omega arith)) in
      bool_cases (p n)
      (λ h.
      let e = ap (count q) (joined_yes p f n h) ∙ count-append q (joined p f n) (f n) in
      let c = each n (omega arith) h in
      elim (cases_lt 0 (count q (f n))) [
        | inl some ↦ let z = count_none n (λ i lt pi. other i n lt (omega arith) pi h some) in omega (arith, e, z, c)
        | inr none ↦ omega (arith, e, ih, none)
      ])
      (λ h. let e = ap (count q) (joined_no p f n h) in omega (arith, e, ih))

pub flat_map-same : {X A : Type 0} (f g : X → List A) (xs : List X) → ((x : X) → f x ≡ g x) → flat_map f xs ≡ flat_map g xs
flat_map-same f g [] h = refl
flat_map-same f g (x ∷ xs) h = rw (h x, flat_map-same f g xs h) refl
