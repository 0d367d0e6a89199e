-- The first line of bytes that come in two parts.
use Rattle.std.proofs.Common.{◌≡◌, ◌∙◌, ap, sym, refl, ℕ, suc, ◌+◌, ◌-◌, eqb, ◌<◌, ◌≤◌, Bool, true, false, ◌&&◌, List, [], ◌∷◌, ◌++◌, length, take, drop, get_or, Option, Some, inl, inr, arith, append-nil, cond}
use Rattle.std.proofs.lemmas.List.{append_assoc, length-append, length-take-le, take-append-drop, get_or-take, drop_more}
use Rattle.std.proofs.lemmas.Bool.{cond-false, ne_eqb, cases_lt, le-ltb, ltb-true, lt-ltb}
use Rattle.std.specs.List.{ends_with}
use Rattle.gd_dump_reading.specs.Lines.{NoFeed, first_line, is_overlong}

pub line-open : (xs rest : List ℕ) → NoFeed xs (length xs) → first_line (xs ++ rest) ≡ (xs ++ (first_line rest).0, (first_line rest).1)
line-open [] rest none = refl
line-open (x ∷ xs) rest none =
    cond-false _ _ _ (ne_eqb x 10 (none 0 (omega arith)))
    ∙ ap (λ (p : List ℕ × Option (List ℕ)). (x ∷ p.0, p.1)) (line-open xs rest (λ k lt. none (suc k) (omega (arith, lt))))

pub line-ended : (xs rest : List ℕ) → NoFeed xs (length xs) → first_line (xs ++ 10 ∷ rest) ≡ (xs, Some rest)
line-ended xs rest none = line-open xs (10 ∷ rest) none ∙ ap (λ (ys : List ℕ). (ys, Some rest)) (append-nil xs)

-- the same where the line feed stands at a place
pub line-at : (xs rest : List ℕ) (i : ℕ) → i < length xs → NoFeed xs i → get_or xs i 0 ≡ 10 → first_line (xs ++ rest) ≡ (take i xs, Some (drop (i + 1) xs ++ rest))
line-at xs rest i inside none feed =
    let len : length (take i xs) ≡ i = length-take-le i xs (omega arith) in
    let before : NoFeed (take i xs) (length (take i xs)) = λ k lt e. none k (omega (arith, len, lt)) (sym (get_or-take i xs k 0 (omega (arith, len, lt))) ∙ e) in
    let cut : xs ++ rest ≡ take i xs ++ 10 ∷ (drop (i + 1) xs ++ rest) =
    ap (λ t. t ++ rest) (sym (take-append-drop i xs) ∙ ap (λ t. take i xs ++ t) (drop_more xs i 0 inside ∙ ap (λ b. b ∷ drop (i + 1) xs) feed))
    ∙ append_assoc (take i xs) (10 ∷ drop (i + 1) xs) rest in
    ap first_line cut ∙ line-ended (take i xs) (drop (i + 1) xs ++ rest) before

-- what is too long even where a line feed comes stays so
counted : Bool → ℕ → ℕ
counted b n = cond b (n - 1) n

counted-least : (b : Bool) (n : ℕ) → n ≤ counted b n + 1
unfolding counted
counted-least true n = omega arith
counted-least false n = omega arith

counted-most : (b : Bool) (n : ℕ) → counted b n ≤ n
unfolding counted
counted-most true n = omega arith
counted-most false n = omega arith

pub overlong-more : (ended : Bool) (xs ys : List ℕ) → is_overlong true xs ≡ true → is_overlong ended (xs ++ ys) ≡ true
unfolding counted
overlong-more true xs [] long = ap (is_overlong true) (append-nil xs) ∙ long
overlong-more false xs [] long =
    let most = counted-most (ends_with eqb xs (13 ∷ [])) (length xs) in
    ap (is_overlong false) (append-nil xs) ∙ lt-ltb 65536 _ (omega (arith, most, ltb-true 65536 _ long))
overlong-more ended xs (y ∷ ys) long =
    let least = counted-least (ended && ends_with eqb (xs ++ y ∷ ys) (13 ∷ [])) (length (xs ++ y ∷ ys)) in
    let most = counted-most (ends_with eqb xs (13 ∷ [])) (length xs) in
    let len = length-append xs (y ∷ ys) in
    lt-ltb 65536 _ (omega (arith, least, most, len, ltb-true 65536 _ long))

pub short-line : (ended : Bool) (line : List ℕ) → length line ≤ 65536 → is_overlong ended line ≡ false
unfolding counted
short-line ended line small = le-ltb 65536 _ (omega (arith, small, counted-most (ended && ends_with eqb line (13 ∷ [])) (length line)))

-- what is not too long where a line feed comes
pub overlong-short : (line : List ℕ) → is_overlong true line ≡ false → length line ≤ 65537
unfolding counted
overlong-short line short =
    let least = counted-least (ends_with eqb line (13 ∷ [])) (length line) in
    elim (cases_lt 65536 (counted (ends_with eqb line (13 ∷ [])) (length line))) [
      | inl more ↦ let long = lt-ltb 65536 _ more in absurd (cc)
      | inr fits ↦ omega (arith, least, fits)
    ]
