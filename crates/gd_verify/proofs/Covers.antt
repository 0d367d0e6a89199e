-- Extents are apart where each byte is in one of them at most, in whatever order they stand.
use Rattle.std.proofs.Common.{◌≡◌, ℕ, ◌+◌, ◌<◌, ◌≤◌, Bool, true, false, ◌&&◌, cond, ltb, leb, List, [], ◌∷◌, refl, sym, ap, ◌∙◌, inl, inr, arith}
use Rattle.std.specs.List.{All, sum_by}
use Rattle.std.specs.List.Sorted.{IsPermutation}
use Rattle.std.proofs.lemmas.Bool.{cases_lt}
use Rattle.std.proofs.lemmas.Bool.Decides.{nat_tests}
use Rattle.std.proofs.lemmas.List.Sums.{sum_by-cons}
use Rattle.std.proofs.lemmas.List.Sorted.{sum_by-IsPermutation, IsPermutation-sym, All-permutation}
use Rattle.std.proofs.lemmas.List.Elements.{All-head, All-tail}
use Rattle.gd_format.specs.declared.Held.{Held}
use Rattle.gd_format.specs.Sound.{meets}
use Rattle.gd_verify.specs.Apart.{IsPlain, AllMiss, AreApart}

abbrev has_byte : Held → ℕ → Bool
has_byte k b = leb k.extent.at b && ltb b (k.extent.at + k.extent.size)

abbrev one_if : ℕ → Held → ℕ
one_if b k = cond (has_byte k b) 1 0

abbrev cover : List Held → ℕ → ℕ
cover [] b = 0
cover (k ∷ ks) b = one_if b k + cover ks b

abbrev AreLarge : List Held → Type 0
AreLarge [] = Unit {0}
AreLarge (k ∷ ks) = (0 < k.extent.size) × AreLarge ks

one_of : (a n b m x : ℕ) → (ltb b (a + n) && ltb a (b + m)) ≡ false → (leb a x && ltb x (a + n)) ≡ true → (leb b x && ltb x (b + m)) ≡ false
one_of a n b m x h k = grind (arith, nat_tests)

none_other : (k : Held) (ks : List Held) (b : ℕ) → AllMiss k ks → has_byte k b ≡ true → cover ks b ≡ 0
none_other k [] b h has = refl
none_other k (l ∷ ls) b h has =
    let here = one_of k.extent.at k.extent.size l.extent.at l.extent.size b h.0 has in
    let rest = none_other k ls b h.1 has in
    rw (here, rest) refl

bool_cases : (b : Bool) {P : Type 0} → (b ≡ true → P) → (b ≡ false → P) → P
bool_cases true p q = p refl
bool_cases false p q = q refl

at_most_one : (ks : List Held) (b : ℕ) → AreApart ks → cover ks b ≤ 1
at_most_one [] b h = omega arith
at_most_one (k ∷ ks) b h =
    bool_cases (has_byte k b)
    (λ here. let none = none_other k ks b h.0 here in rw (here, none) (omega arith))
    (λ there. let rest = at_most_one ks b h.1 in rw there (omega (arith, rest)))

common : (a n b m : ℕ) → 0 < n → 0 < m → (ltb b (a + n) && ltb a (b + m)) ≡ true → (x : ℕ) × ((leb a x && ltb x (a + n)) ≡ true) × ((leb b x && ltb x (b + m)) ≡ true)
common a n b m p q h =
    elim (cases_lt a b) [
      | inl below ↦ (b, grind (arith, nat_tests), grind (arith, nat_tests))
      | inr above ↦ (a, grind (arith, nat_tests), grind (arith, nat_tests))
    ]

twice : (k l : Held) → 0 < k.extent.size → 0 < l.extent.size → ((b : ℕ) → one_if b k + one_if b l ≤ 1) → meets l.extent k.extent ≡ false
twice k l p q once =
    bool_cases (meets l.extent k.extent)
    (λ m. let x = common k.extent.at k.extent.size l.extent.at l.extent.size p q m in let two : 2 ≤ 1 = rw (x.1, x.2) at (once x.0) in absurd (omega arith))
    (λ n. n)

apart_first : (k : Held) (ks : List Held) → 0 < k.extent.size → AreLarge ks → ((b : ℕ) → one_if b k + cover ks b ≤ 1) → AllMiss k ks
apart_first k [] p large once = tt
apart_first k (l ∷ ls) p large once =
    (twice k l p large.0 (λ b. let h = once b in omega (arith, h)), apart_first k ls p large.1 (λ b. let h = once b in omega (arith, h)))

all_apart : (ks : List Held) → AreLarge ks → ((b : ℕ) → cover ks b ≤ 1) → AreApart ks
all_apart [] large once = tt
all_apart (k ∷ ks) large once = (apart_first k ks large.0 large.1 once, all_apart ks large.1 (λ b. let h = once b in omega (arith, h)))

cover-sum : (ks : List Held) (b : ℕ) → cover ks b ≡ sum_by (one_if b) ks
cover-sum [] b = refl
cover-sum (k ∷ ks) b = ap (λ (n : ℕ). one_if b k + n) (cover-sum ks b) ∙ sym (sum_by-cons (one_if b) k ks)

-- in another order
apart_moved : (xs ys : List Held) → IsPermutation xs ys → AreLarge xs → AreApart ys → AreApart xs
apart_moved xs ys p large apart =
    all_apart xs large
    (λ b.
    let e = cover-sum xs b ∙ sym (sum_by-IsPermutation (one_if b) xs ys p) ∙ sym (cover-sum ys b) in
    let h = at_most_one ys b apart in
    omega (arith, e, h))

large_of : (xs : List Held) → All IsPlain xs → AreLarge xs
large_of [] h = tt
large_of (x ∷ xs) h = let one = All-head IsPlain x xs h in (one.some, large_of xs (All-tail IsPlain x xs h))

pub apart_from : (xs ys : List Held) → IsPermutation xs ys → All IsPlain xs → AreApart ys → AreApart xs
apart_from xs ys p plain apart = apart_moved xs ys p (large_of xs plain) apart

pub apart_to : (xs ys : List Held) → IsPermutation xs ys → All IsPlain xs → AreApart xs → AreApart ys
apart_to xs ys p plain apart = apart_moved ys xs (IsPermutation-sym xs ys p) (large_of ys (All-permutation IsPlain xs ys p plain)) apart
