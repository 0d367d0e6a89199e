-- The rows of a table that were not looked at yet.
use Rattle.std.proofs.Common.{◌≡◌, ◌∙◌, ap, ap₂, sym, refl, ℕ, ◌+◌, ◌<◌, Bool, Bor, true, false, cond, List, [], ◌∷◌, length, get_or, drop, map, nat_eq, suc, zero, arith}
use Rattle.std.specs.List.{starts_with}
use Rattle.std.proofs.lemmas.List.{drop_more, length-map}
use Rattle.gd_types.specs.Lookups.{found_in, found_of, rows_from}
use Rattle.gd_types.specs.declared.tables.Found.{Found}
use Rattle.gd_types.specs.declared.tables.Found.TheVariants.{Missing, One, Several}

-- what is found where some rows come behind what was found
abbrev pub found_after : Found → List ℕ → Found
found_after Missing rows = found_of rows
found_after (One row) [] = One row
found_after (One row) (other ∷ rows) = Several
found_after Several rows = Several

after-first : (row : ℕ) (rows : List ℕ) → found_of (row ∷ rows) ≡ found_after (One row) rows
after-first row [] = refl
after-first row (other ∷ rows) = refl

after-another : (found : Found) (row : ℕ) (rows : List ℕ) → (found ≡ Missing → ⊥) → found_after found (row ∷ rows) ≡ Several
after-another Missing row rows h = absurd (h refl)
after-another (One first) row rows h = refl
after-another Several row rows h = refl

abbrev pub shown : List (Bor (List ℕ)) → List (List ℕ)
shown names = map (λ name. name.now) names

get_or-shown : (names : List (Bor (List ℕ))) (i : ℕ) (d : Bor (List ℕ)) → i < length names → get_or (shown names) i [] ≡ (get_or names i d).now
get_or-shown [] i d h = absurd (omega arith)
get_or-shown (name ∷ names) zero d h = refl
get_or-shown (name ∷ names) (suc i) d h = get_or-shown names i d (omega arith)

-- the rows that are left, from those behind the next one
rows-next : (names : List (Bor (List ℕ))) (row : ℕ) (d : Bor (List ℕ)) (word name : List ℕ) (b : Bool) → row < length names → name ≡ (get_or names row d).now → b ≡ starts_with nat_eq name word
    → rows_from row (drop row (shown names)) word ≡ cond b (row ∷ rows_from (row + 1) (drop (row + 1) (shown names)) word) (rows_from (row + 1) (drop (row + 1) (shown names)) word)
rows-next names row d word name b inside is test =
    let rest = rows_from (row + 1) (drop (row + 1) (shown names)) word in
    let first : get_or (shown names) row [] ≡ name = get_or-shown names row d inside ∙ sym is in
    ap (λ xs. rows_from row xs word) (drop_more (shown names) row [] (omega (arith, length-map names (λ (n : Bor (List ℕ)). n.now))))
    ∙ ap (λ (n : List ℕ). cond (starts_with nat_eq n word) (row ∷ rest) rest) first
    ∙ ap (λ (t : Bool). cond t (row ∷ rest) rest) (sym test)

module _ (names : List (Bor (List ℕ))) (row : ℕ) (d : Bor (List ℕ)) (word name : List ℕ) (b : Bool) (found : Found) (inside : row < length names)
    (is : name ≡ (get_or names row d).now) (test : b ≡ starts_with nat_eq name word)
    (so_far : found_in (shown names) word ≡ found_after found (rows_from row (drop row (shown names)) word)) where
  -- another row
  pub found-another : b ≡ true → (found ≡ Missing → ⊥) → Several ≡ found_in (shown names) word
  found-another h other =
      let rest = rows_from (row + 1) (drop (row + 1) (shown names)) word in
      let next = rows-next names row d word name b inside is test ∙ ap (λ (t : Bool). cond t (row ∷ rest) rest) h in
      sym (so_far ∙ ap (found_after found) next ∙ after-another found row rest other)

  -- the first row
  pub found-first : (now : Found) → b ≡ true → found ≡ Missing → now ≡ One row → found_in (shown names) word ≡ found_after now (rows_from (row + 1) (drop (row + 1) (shown names)) word)
  found-first now h none one =
      let rest = rows_from (row + 1) (drop (row + 1) (shown names)) word in
      let next = rows-next names row d word name b inside is test ∙ ap (λ (t : Bool). cond t (row ∷ rest) rest) h in
      so_far ∙ ap₂ found_after none next ∙ after-first row rest ∙ ap (λ (f : Found). found_after f rest) (sym one)

  -- no row
  pub found-none : (now : Found) → b ≡ false → now ≡ found → found_in (shown names) word ≡ found_after now (rows_from (row + 1) (drop (row + 1) (shown names)) word)
  found-none now h same =
      let rest = rows_from (row + 1) (drop (row + 1) (shown names)) word in
      let next = rows-next names row d word name b inside is test ∙ ap (λ (t : Bool). cond t (row ∷ rest) rest) h in
      so_far ∙ ap₂ found_after (sym same) next
