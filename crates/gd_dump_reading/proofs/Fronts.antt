-- Fronts of lines.
use Rattle.std.proofs.Common.{◌≡◌, ◌∙◌, ap, sym, refl, inl, inr, ℕ, ◌+◌, ◌<◌, ◌≤◌, Bool, true, false, ◌&&◌, ◌||◌, List, [], ◌∷◌, ◌++◌, length, take, drop, arith, eqb}
use Rattle.std.specs.Prelude.{nat_le, not, codes}
use Rattle.std.specs.Char.{is_ascii_digit}
use Rattle.std.specs.List.{list_all, starts_with}
use Rattle.std.specs.Str.{bytes_eq}
use Rattle.std.proofs.lemmas.Bool.{cases_lt, le-leb}
use Rattle.std.proofs.lemmas.Bool.Decides.{Decides-eqb, leb_tells}
use Rattle.std.proofs.lemmas.List.{append_assoc, length-append, length-drop, take-append-le, drop-append-le, take-append-drop, take_all}
use Rattle.std.proofs.lemmas.List.Folds.{list_all-append}
use Rattle.std.proofs.lemmas.Slice.Eq.{bytes_eq-Decides, starts_is}
use Rattle.gd_dump_reading.specs.Live.{agrees, data_live, live_number}

pub starts-from : (s p rest : List ℕ) → s ≡ p ++ rest → starts_with eqb s p ≡ true
starts-from s p rest is = (starts_is Decides-eqb s p _ refl).1 rest is

pub starts-cut : (s p : List ℕ) → starts_with eqb s p ≡ true → s ≡ p ++ drop (length p) s
starts-cut s p is = (starts_is Decides-eqb s p _ refl).0 is

pub starts-more : (s t p : List ℕ) → starts_with eqb s p ≡ true → starts_with eqb (s ++ t) p ≡ true
starts-more s t p is = starts-from (s ++ t) p (drop (length p) s ++ t) (ap (λ (x : List ℕ). x ++ t) (starts-cut s p is) ∙ append_assoc p (drop (length p) s) t)

-- what one text is, and another is not
pub not-equal : (x e : List ℕ) (b : Bool) (f : List ℕ → Bool) → bytes_eq x e ≡ b → f x ≡ true → f e ≡ false → b ≡ false
not-equal x e false f is holds fails = refl
not-equal x e true f is holds fails = let same = ap f ((bytes_eq-Decides x e).0 is) in absurd (cc)

-- ---- tests

leb-le : (a b : ℕ) → nat_le a b ≡ true → a ≤ b
leb-le a b holds = elim (leb_tells a b) [
  | inl le ↦ le.1
  | inr more ↦ absurd (cc)
]

or-false : (a b : Bool) → (a || b) ≡ false → (a ≡ false) × (b ≡ false)
or-false true b e = absurd (cc)
or-false false b e = (refl, e)

and-true : (a b : Bool) → (a && b) ≡ true → (a ≡ true) × (b ≡ true)
and-true true b e = (refl, e)
and-true false b e = absurd (cc)

both : (a b : Bool) → a ≡ true → b ≡ true → (a && b) ≡ true
both true b e f = f
both false b e f = absurd (cc)

or-left : (a b : Bool) → a ≡ true → (a || b) ≡ true
or-left true b e = refl
or-left false b e = absurd (cc)

or-right : (a b : Bool) → b ≡ true → (a || b) ≡ true
or-right true b e = refl
or-right false b e = e

or-cases : (a b : Bool) (P : Type 0) → (a || b) ≡ true → (a ≡ true → P) → (b ≡ true → P) → P
or-cases true b P e first second = first refl
or-cases false b P e first second = second e

off : (a b : Bool) → (a ≡ true → b ≡ true) → b ≡ false → a ≡ false
off true b step fails = let holds = step refl in absurd (cc)
off false b step fails = refl

-- ---- what a longer line may become a shorter one may too

agrees-front : (p x t : List ℕ) → agrees p (x ++ t) ≡ true → agrees p x ≡ true
agrees-front p x t is = or-cases (starts_with eqb (x ++ t) p) (starts_with eqb p (x ++ t)) (agrees p x ≡ true) is
    (λ begins.
    let cut = starts-cut (x ++ t) p begins in
    let d = drop (length p) (x ++ t) in
    elim (cases_lt (length x) (length p)) [
      | inl less ↦
          let front : x ≡ take (length x) p =
          sym (take_all (length x) x (omega arith)) ∙ sym (take-append-le (length x) x t (omega arith)) ∙ ap (take (length x)) cut ∙ take-append-le (length x) p d (omega (arith, less)) in
          or-right _ _ (starts-from p x (drop (length x) p) (sym (take-append-drop (length x) p) ∙ ap (λ (y : List ℕ). y ++ drop (length x) p) (sym front)))
      | inr fits ↦
          let front : p ≡ take (length p) x =
          sym (take_all (length p) p (omega arith)) ∙ sym (take-append-le (length p) p d (omega arith)) ∙ ap (take (length p)) (sym cut) ∙ take-append-le (length p) x t fits in
          or-left _ _ (starts-from x p (drop (length p) x) (sym (take-append-drop (length p) x) ∙ ap (λ (y : List ℕ). y ++ drop (length p) x) (sym front)))
    ])
    (λ begins.
    let cut = starts-cut p (x ++ t) begins in
    or-right _ _ (starts-from p x (t ++ drop (length (x ++ t)) p) (cut ∙ append_assoc x t (drop (length (x ++ t)) p))))

number-front : (p x t : List ℕ) (most : ℕ) → live_number p most (x ++ t) ≡ true → live_number p most x ≡ true
number-front p x t most is =
    let parts = and-true (agrees p (x ++ t)) _ is in
    let len = length-append x t in
    both _ _ (agrees-front p x t parts.0)
    (elim (cases_lt (length p) (length x)) [
      | inl more ↦
          let cut = drop-append-le (length p) x t (omega (arith, more)) in
          or-cases (nat_le (length (x ++ t)) (length p)) (nat_le (length (drop (length p) (x ++ t))) most && list_all is_ascii_digit (drop (length p) (x ++ t)))
          ((nat_le (length x) (length p) || nat_le (length (drop (length p) x)) most && list_all is_ascii_digit (drop (length p) x)) ≡ true) parts.1
          (λ short. let le = leb-le (length (x ++ t)) (length p) short in absurd (omega (arith, le, len, more)))
          (λ digits.
          let two = and-true (nat_le (length (drop (length p) (x ++ t))) most) _ digits in
          let le = leb-le (length (drop (length p) (x ++ t))) most two.0 in
          let all = and-true (list_all is_ascii_digit (drop (length p) x)) (list_all is_ascii_digit t) (sym (list_all-append is_ascii_digit (drop (length p) x) t) ∙ ap (list_all is_ascii_digit) (sym cut) ∙ two.1) in
          or-right (nat_le (length x) (length p)) (nat_le (length (drop (length p) x)) most && list_all is_ascii_digit (drop (length p) x))
          (both (nat_le (length (drop (length p) x)) most) (list_all is_ascii_digit (drop (length p) x)) (le-leb (length (drop (length p) x)) most (omega (arith, le, ap length cut, length-append (drop (length p) x) t))) all.0))
      | inr fits ↦ or-left (nat_le (length x) (length p)) (nat_le (length (drop (length p) x)) most && list_all is_ascii_digit (drop (length p) x)) (le-leb (length x) (length p) fits)
    ])

pub live-front : (waits : Bool) (x t : List ℕ) → data_live waits x ≡ false → data_live waits (x ++ t) ≡ false
live-front waits x t dead = off _ _ (λ live. or-cases (live_number (codes "#:len=") 10 (x ++ t)) _ (data_live waits x ≡ true) live
    (λ len. or-left _ _ (number-front (codes "#:len=") x t 10 len))
    (λ count. let two = and-true (not waits) (live_number (codes "#:count=") 20 (x ++ t)) count in or-right _ _ (both _ _ two.0 (number-front (codes "#:count=") x t 20 two.1)))) dead

-- the digits behind words that a line begins with
digits-off : (p x : List ℕ) (most : ℕ) → starts_with eqb x p ≡ true → live_number p most x ≡ false → (nat_le (length (drop (length p) x)) most && list_all is_ascii_digit (drop (length p) x)) ≡ false
digits-off p x most begins dead = off _ _ (λ digits. both _ _ (or-left _ _ begins) (or-right (nat_le (length x) (length p)) _ digits)) dead

pub len-off : (waits : Bool) (x : List ℕ) → starts_with eqb x (codes "#:len=") ≡ true → data_live waits x ≡ false → (nat_le (length (drop 6 x)) 10 && list_all is_ascii_digit (drop 6 x)) ≡ false
len-off waits x begins dead = digits-off (codes "#:len=") x 10 begins (or-false _ _ dead).0

pub count-off : (x : List ℕ) → starts_with eqb x (codes "#:count=") ≡ true → data_live false x ≡ false → (nat_le (length (drop 8 x)) 20 && list_all is_ascii_digit (drop 8 x)) ≡ false
count-off x begins dead = digits-off (codes "#:count=") x 20 begins (or-false (live_number (codes "#:len=") 10 x) _ dead).1

-- a line that may become words with digits is not much longer than the words
number-short : (p x : List ℕ) (most : ℕ) → live_number p most x ≡ true → length x ≤ length p + most
number-short p x most live = or-cases (nat_le (length x) (length p)) _ (length x ≤ length p + most) (and-true _ _ live).1
    (λ short. let le = leb-le (length x) (length p) short in omega (arith, le))
    (λ digits. let le = leb-le (length (drop (length p) x)) most (and-true (nat_le (length (drop (length p) x)) most) _ digits).0 in omega (arith, le, length-drop (length p) x))

pub live-short : (waits : Bool) (x : List ℕ) → data_live waits x ≡ true → length x ≤ 28
live-short waits x live = or-cases (live_number (codes "#:len=") 10 x) _ (length x ≤ 28) live
    (λ len. let le = number-short (codes "#:len=") x 10 len in omega (arith, le))
    (λ count. let le = number-short (codes "#:count=") x 20 (and-true (not waits) _ count).1 in omega (arith, le))
