-- Extents that are apart cover each byte once at most, and the other way round.
use Rattle.std.proofs.Common.{◌≡◌, ℕ, ◌+◌, ◌-◌, ◌<◌, ◌≤◌, ◌↔◌, Bool, true, false, not, ◌&&◌, cond, ltb, leb, List, [], ◌∷◌, ◌++◌, None, refl, inl, inr, arith}
use Rattle.std.specs.Prelude.{◌==◌}
use Rattle.std.specs.List.{AllByRecursion}
use Rattle.std.proofs.lemmas.Bool.{cases_lt, leb-true, le-leb}
use Rattle.std.proofs.lemmas.Bool.Decides.{nat_tests, Decides-eqb}
use Rattle.gd_format.specs.declared.Extent.{Extent}
use Rattle.gd_format.specs.declared.Held.{Held}
use Rattle.gd_format.specs.Sound.{meets, meets_none, meet_fault}
use Rattle.gd_format.proofs.Firsts.{and-true, both_true, or_else-none, or_else_both, unless-none, unless_true}
use Rattle.gd_file_laws.specs.Cover.{IsOnce, extents_in, EndBy, AreLarge, is_empty_inside, NoneInside}
use Rattle.gd_format.specs.Covers.{has_byte, cover}

pub bool_cases : (b : Bool) {P : Type 0} → (b ≡ true → P) → (b ≡ false → P) → P
bool_cases true p q = p refl
bool_cases false p q = q refl

not_true : (b : Bool) → not b ≡ true → b ≡ false
not_true true h = absurd cc
not_true false h = refl

-- each meets none of those before it
abbrev AllMiss : Extent → List Extent → Type 0
AllMiss e es = AllByRecursion (λ f. meets f e ≡ false) es

abbrev AreApart : List Extent → Type 0
AreApart [] = Unit {0}
AreApart (e ∷ es) = AllMiss e es × AreApart es

-- ---- meets by bytes

one_of : (a n b m x : ℕ) → (ltb b (a + n) && ltb a (b + m)) ≡ false → (leb a x && ltb x (a + n)) ≡ true → (leb b x && ltb x (b + m)) ≡ false
one_of a n b m x h k = grind (arith, nat_tests)

-- a byte of an extent is in none that misses it
none_other : (e : Extent) (es : List Extent) (b : ℕ) → AllMiss e es → has_byte e b ≡ true → cover es b ≡ 0
none_other e [] b h k = refl
none_other e (f ∷ es) b h k =
    let here = one_of e.at e.size f.at f.size b h.0 k in
    let rest = none_other e es b h.1 k in
    rw (here, rest) refl

at_most_one : (es : List Extent) (b : ℕ) → AreApart es → cover es b ≤ 1
at_most_one [] b h = omega arith
at_most_one (e ∷ es) b h =
    bool_cases (has_byte e b)
    (λ here. let none = none_other e es b h.0 here in rw (here, none) (omega arith))
    (λ there. let rest = at_most_one es b h.1 in rw there (omega (arith, rest)))

-- the first common byte of two that meet
common : (a n b m : ℕ) → 0 < n → 0 < m → (ltb b (a + n) && ltb a (b + m)) ≡ true → (x : ℕ) × ((leb a x && ltb x (a + n)) ≡ true) × ((leb b x && ltb x (b + m)) ≡ true)
common a n b m p q h =
    elim (cases_lt a b) [
      | inl below ↦ (b, grind (arith, nat_tests), grind (arith, nat_tests))
      | inr above ↦ (a, grind (arith, nat_tests), grind (arith, nat_tests))
    ]

-- two that meet and have no common byte: one of them has none
outside : (a n b m : ℕ) → (ltb b (a + n) && ltb a (b + m)) ≡ false → (n == 0 && ltb b a && ltb a (b + m)) ≡ false
outside a n b m h = bool_cases (n == 0 && ltb b a && ltb a (b + m)) (λ t. let z = and-true _ _ t in let y = and-true _ _ z.0 in let n0 : n ≡ 0 = (Decides-eqb n 0).0 y.0 in absurd (grind (arith, nat_tests))) (λ f. f)

apart_pair : (a n b m : ℕ) → ((x : ℕ) → cond (leb a x && ltb x (a + n)) 1 0 + cond (leb b x && ltb x (b + m)) 1 0 ≤ 1) → (n == 0 && ltb b a && ltb a (b + m)) ≡ false → (m == 0 && ltb a b && ltb b (a + n)) ≡ false → (ltb b (a + n) && ltb a (b + m)) ≡ false
apart_pair a n b m once p q =
    bool_cases (ltb b (a + n) && ltb a (b + m))
    (λ t.
    elim (cases_lt 0 n) [
      | inl some ↦ elim (cases_lt 0 m) [
        | inl more ↦ let x = common a n b m some more t in let two : 2 ≤ 1 = rw (x.1, x.2) at (once x.0) in absurd (omega arith)
        | inr none ↦ let m0 : m ≡ 0 = omega arith in let e : (m == 0) ≡ true = (Decides-eqb m 0).1 m0 in let r : (ltb a b && ltb b (a + n)) ≡ false = rw e at q in absurd (grind (arith, nat_tests))
      ]
      | inr none ↦ let n0 : n ≡ 0 = omega arith in let e : (n == 0) ≡ true = (Decides-eqb n 0).1 n0 in let r : (ltb b a && ltb a (b + m)) ≡ false = rw e at p in absurd (grind (arith, nat_tests))
    ])
    (λ f. f)

-- ---- lists

abbrev AllOutside : Extent → List Extent → Type 0
AllOutside e es = AllByRecursion (λ f. (is_empty_inside e f ≡ false) × (is_empty_inside f e ≡ false)) es

meets_swap : (a n b m : ℕ) → (ltb b (a + n) && ltb a (b + m)) ≡ false → (ltb a (b + m) && ltb b (a + n)) ≡ false
meets_swap a n b m h = grind (arith, nat_tests)

none_in : (e : Extent) (es : List Extent) → AllMiss e es → AllOutside e es
none_in e [] h = tt
none_in e (f ∷ es) h = ((outside e.at e.size f.at f.size h.0, outside f.at f.size e.at e.size (meets_swap e.at e.size f.at f.size h.0)), none_in e es h.1)

none_inside : (es : List Extent) → AreApart es → NoneInside es
none_inside [] h = tt
none_inside (e ∷ es) h = (none_in e es h.0, none_inside es h.1)

apart_first : (e : Extent) (es : List Extent) → AllOutside e es → ((b : ℕ) → cond (has_byte e b) 1 0 + cover es b ≤ 1) → AllMiss e es
apart_first e [] out once = tt
apart_first e (f ∷ es) out once =
    (apart_pair e.at e.size f.at f.size (λ b. let h = once b in omega (arith, h)) out.0.0 out.0.1, apart_first e es out.1 (λ b. let h = once b in omega (arith, h)))

all_apart : (es : List Extent) → NoneInside es → IsOnce es → AreApart es
all_apart [] out once = tt
all_apart (e ∷ es) out once = (apart_first e es out.0 once, all_apart es out.1 (λ b. let h = once b in omega (arith, h)))

large_out : (n a b m : ℕ) → 0 < n → (n == 0 && ltb b a && ltb a (b + m)) ≡ false
large_out n a b m some = bool_cases (n == 0) (λ t. let z : n ≡ 0 = (Decides-eqb n 0).0 t in absurd (omega arith)) (λ f. rw f refl)

large_first : (e : Extent) (es : List Extent) → 0 < e.size → AreLarge es → AllOutside e es
large_first e [] some large = tt
large_first e (f ∷ es) some large = ((large_out e.size e.at f.at f.size some, large_out f.size f.at e.at e.size large.0), large_first e es some large.1)

large_outside : (es : List Extent) → AreLarge es → NoneInside es
large_outside [] large = tt
large_outside (e ∷ es) large = (large_first e es large.0 large.1, large_outside es large.1)

-- ---- the first refusal

-- none of a list meets one before
abbrev AllClear : List Held → List Held → Type 0
AllClear before ks = AllByRecursion (λ k. meets_none k.extent before ≡ true) ks

none-push : (e : Extent) (before : List Held) (l : Held) → meets_none e before ≡ true → meets e l.extent ≡ false → meets_none e (before ++ l ∷ []) ≡ true
none-push e [] l h m = rw m refl
none-push e (x ∷ xs) l h m = let both = and-true _ _ h in both_true _ _ both.0 (none-push e xs l both.1 m)

none-split : (e : Extent) (before : List Held) (l : Held) → meets_none e (before ++ l ∷ []) ≡ true → (meets_none e before ≡ true) × (meets e l.extent ≡ false)
none-split e [] l h = (refl, not_true (meets e l.extent) (and-true _ _ h).0)
none-split e (x ∷ xs) l h =
    let both = and-true _ _ h in
    let rest = none-split e xs l both.1 in
    (both_true _ _ both.0 rest.0, rest.1)

clear-push : (before : List Held) (l : Held) (ks : List Held) → AllClear before ks → AllMiss l.extent (extents_in ks) → AllClear (before ++ l ∷ []) ks
clear-push before l [] h m = tt
clear-push before l (k ∷ ks) h m = (none-push k.extent before l h.0 m.0, clear-push before l ks h.1 m.1)

clear-split : (before : List Held) (l : Held) (ks : List Held) → AllClear (before ++ l ∷ []) ks → AllClear before ks × AllMiss l.extent (extents_in ks)
clear-split before l [] h = (tt, tt)
clear-split before l (k ∷ ks) h =
    let here = none-split k.extent before l h.0 in
    let rest = clear-split before l ks h.1 in
    ((here.0, rest.0), (here.1, rest.1))

clear-start : (ks : List Held) → AllClear [] ks
clear-start [] = tt
clear-start (k ∷ ks) = (refl, clear-start ks)

module _ (next : ℕ) where
  passes : (before ks : List Held) → EndBy next (extents_in ks) → AllClear before ks → AreApart (extents_in ks) → meet_fault next before ks ≡ None
  passes before [] e c a = refl
  passes before (k ∷ ks) e c a =
      or_else_both _ _ (unless_true _ _ (both_true _ _ (le-leb (k.extent.at + k.extent.size) next e.0) c.0)) (passes (before ++ k ∷ []) ks e.1 (clear-push before k ks c.1 a.0) a.1)

  passed : (before ks : List Held) → meet_fault next before ks ≡ None → EndBy next (extents_in ks) × AllClear before ks × AreApart (extents_in ks)
  passed before [] h = (tt, tt, tt)
  passed before (k ∷ ks) h =
      let both = or_else-none _ _ h in
      let here = and-true _ _ (unless-none _ _ both.0) in
      let rest = passed (before ++ k ∷ []) ks both.1 in
      let clear = clear-split before k ks rest.1 in
      ((leb-true (k.extent.at + k.extent.size) next here.0, rest.0), (here.1, clear.0), (clear.1, rest.2))

pub by_cover : (next : ℕ) (ks : List Held) → (meet_fault next [] ks ≡ None) ↔ (EndBy next (extents_in ks) × IsOnce (extents_in ks) × NoneInside (extents_in ks))
by_cover next ks = (
  λ h. let p = passed next [] ks h in (p.0, λ b. at_most_one (extents_in ks) b p.2, none_inside (extents_in ks) p.2),
  λ p. passes next [] ks p.0 (clear-start ks) (all_apart (extents_in ks) p.2 p.1),
)

pub large_by_cover : (next : ℕ) (ks : List Held) → AreLarge (extents_in ks) → (meet_fault next [] ks ≡ None) ↔ (EndBy next (extents_in ks) × IsOnce (extents_in ks))
large_by_cover next ks large =
    let both = by_cover next ks in
    (λ h. let p = both.0 h in (p.0, p.1), λ p. both.1 (p.0, p.1, large_outside (extents_in ks) large))

pub cover-append : (xs ys : List Extent) (b : ℕ) → cover (xs ++ ys) b ≡ cover xs b + cover ys b
cover-append [] ys b = omega arith
cover-append (x ∷ xs) ys b = let h = cover-append xs ys b in omega (arith, h)

-- ---- ends

has_bounds : (e : Extent) (b : ℕ) → has_byte e b ≡ true → (e.at ≤ b) × (b < e.at + e.size)
has_bounds e b t = (grind (arith, nat_tests), grind (arith, nat_tests))

pub has_in : (at n b : ℕ) → at ≤ b → b < at + n → (leb at b && ltb b (at + n)) ≡ true
has_in at n b low high = grind (arith, nat_tests)

ends_of : (next : ℕ) (es : List Extent) → EndBy next es → (b : ℕ) → 0 < cover es b → b < next
ends_of next [] ends b some = absurd (omega arith)
ends_of next (e ∷ es) ends b some =
    bool_cases (has_byte e b)
    (λ t. let r = has_bounds e b t in let l = ends.0 in omega (arith, r, l))
    (λ f. let rest : 0 < 0 + cover es b = rw f at some in ends_of next es ends.1 b (omega (arith, rest)))

to_ends : (next : ℕ) (es : List Extent) → AreLarge es → ((b : ℕ) → 0 < cover es b → b < next) → EndBy next es
to_ends next [] large below = tt
to_ends next (e ∷ es) large below = (
  let l = large.0 in
      let has = has_in e.at e.size (e.at + e.size - 1) (omega (arith, l)) (omega (arith, l)) in
      let last = below (e.at + e.size - 1) (rw has (omega arith)) in
      omega (arith, last, l),
  to_ends next es large.1 (λ b some. below b (omega (arith, some))),
)

pub end_by_cover : (next : ℕ) (es : List Extent) → AreLarge es → EndBy next es ↔ ((b : ℕ) → 0 < cover es b → b < next)
end_by_cover next es large = (λ e b some. ends_of next es e b some, to_ends next es large)
