-- How far all slots stand from their homes, which falls with each move; and the slots that there are.
use Rattle.std.proofs.Common.{◌≡◌, ◌≢◌, ℕ, zero, suc, ◌+◌, ◌%◌, ◌<◌, Bool, true, false, List, [], ◌∷◌, length, get_or, set, refl, sym, ap, ◌∙◌, inl, inr, arith}
use Rattle.std.proofs.lemmas.Bool.{cases_lt, cases_eq}
use Rattle.std.proofs.lemmas.List.{get_or-set_other}
use Rattle.std.proofs.Math.ListN.{length-set}
use Rattle.gd_format.specs.declared.Slot.{Slot}
use Rattle.gd_format.specs.declared.Slot.TheVariants.{Empty, Full}
use Rattle.gd_format.specs.Slots.{count, is_full, hash_in, SameSlots}
use Rattle.gd_bucket.specs.Removing.{distance, MayMove, moved}
use Rattle.gd_bucket.proofs.Around.{place-distance}
use Rattle.gd_bucket.proofs.Removes.{here, there, else, nearer}
use Rattle.std.proofs.Math.Nat.{mod-eq_of_lt}

abbrev pub sum_below : ℕ → (ℕ → ℕ) → ℕ
sum_below zero f = 0
sum_below (suc n) f = sum_below n f + f n

no_change : (n : ℕ) (f g : ℕ → ℕ) → ((i : ℕ) → i < n → f i ≡ g i) → sum_below n f ≡ sum_below n g
no_change zero f g same = refl
no_change (suc n) f g same = let ih = no_change n f g (λ i l. same i (omega arith)) in let e = same n (omega arith) in omega (arith, ih, e)

one_change : (n a : ℕ) (f g : ℕ → ℕ) → a < n → ((i : ℕ) → i < n → i ≢ a → f i ≡ g i) → sum_below n f + g a ≡ sum_below n g + f a
one_change zero a f g lt same = absurd (omega arith)
one_change (suc n) a f g lt same =
    elim (cases_eq a n) [
      | inl last ↦
          let rest = no_change n f g (λ i l. same i (omega arith) (λ e. omega (arith, e, last))) in
          let p = ap f last in
          let q = ap g last in
          omega (arith, rest, p, q)
      | inr other ↦ let ih = one_change n a f g (omega arith) (λ i l ne. same i (omega arith) ne) in let e = same n (omega arith) (λ e. other (sym e)) in omega (arith, ih, e)
    ]

two_changes : (n a b : ℕ) (f g : ℕ → ℕ) → a < n → b < n → a ≢ b → ((i : ℕ) → i < n → i ≢ a → i ≢ b → f i ≡ g i) → sum_below n f + (g a + g b) ≡ sum_below n g + (f a + f b)
two_changes zero a b f g la lb ne same = absurd (omega arith)
two_changes (suc n) a b f g la lb ne same =
    elim (cases_eq a n) [
      | inl last ↦
          let rest = one_change n b f g (omega arith) (λ i l ib. same i (omega arith) (λ e. omega (arith, e, last)) ib) in
          let p = ap f last in
          let q = ap g last in
          omega (arith, rest, p, q)
      | inr na ↦ elim (cases_eq b n) [
        | inl last ↦
            let rest = one_change n a f g (omega arith) (λ i l ia. same i (omega arith) ia (λ e. omega (arith, e, last))) in
            let p = ap f last in
            let q = ap g last in
            omega (arith, rest, p, q)
        | inr nb ↦
            let ih = two_changes n a b f g (omega arith) (omega arith) ne (λ i l ia ib. same i (omega arith) ia ib) in
            let e = same n (omega arith) (λ e. na (sym e)) (λ e. nb (sym e)) in
            omega (arith, ih, e)
      ]
    ]

is_apart : (n a b : ℕ) → a < n → b < n → b ≢ a → 0 < distance n a b
is_apart n a b la lb ne =
    elim (cases_lt 0 (distance n a b)) [
      | inl some ↦ some
      | inr none ↦
          let zero_far : distance n a b ≡ 0 = omega (arith, none) in
          let e = place-distance n a b la lb in
          let f : (a + distance n a b) % n ≡ a = ap (λ (x : ℕ). (a + x) % n) zero_far ∙ ap (λ (x : ℕ). x % n) (omega arith) ∙ mod-eq_of_lt la in
          absurd (ne (sym e ∙ f))
    ]

-- how far a slot at a place stands from its home
abbrev pub worth : ℕ → Slot → ℕ → ℕ
worth n Empty s = 0
worth n (Full hash start at k v) s = distance n (hash % n) s

worth_full : (n : ℕ) (slot : Slot) (s : ℕ) → is_full slot ≡ true → worth n slot s ≡ distance n (hash_in slot % n) s
worth_full n Empty s e = absurd cc
worth_full n (Full hash start at k v) s e = refl

-- how far all slots stand from their homes
abbrev pub total_worth : ℕ → List Slot → ℕ
total_worth n slots = sum_below n (λ s. worth n (get_or slots s Empty) s)

module _ (slots : List Slot) (hole s : ℕ) (in_list : hole < length slots) (empty : get_or slots hole Empty ≡ Empty) (move : MayMove slots hole s) where
  abbrev after : List Slot
  after = moved slots hole s

  pub falls : total_worth (length slots) (moved slots hole s) < total_worth (length slots) slots
  unfolding distance
  falls =
      let n : ℕ = length slots in
      let all =
      two_changes (length slots) hole s (λ q. worth (length slots) (get_or slots q Empty) q) (λ q. worth (length slots) (get_or after q Empty) q) in_list move.place (λ e. move.other (sym e))
      (λ i l ih is. ap (λ (x : Slot). worth (length slots) x i) (sym (else slots hole s in_list move i is ih))) in
      let old_hole : worth (length slots) (get_or slots hole Empty) hole ≡ 0 = ap (λ (x : Slot). worth (length slots) x hole) empty in
      let new_hole = ap (λ (x : Slot). worth (length slots) x hole) (there slots hole s in_list move) ∙ worth_full (length slots) (get_or slots s Empty) hole move.full in
      let old_place = worth_full (length slots) (get_or slots s Empty) s move.full in
      let new_place : worth (length slots) (get_or after s Empty) s ≡ 0 = ap (λ (x : Slot). worth (length slots) x s) (here slots hole s in_list move) in
      let near = nearer slots hole s in_list move in
      let apart = is_apart (length slots) hole s in_list move.place move.other in
      omega (arith, all, old_hole, new_hole, old_place, new_place, near, apart)

-- ---- the slots that there are

set_slots : (slots : List Slot) (s : ℕ) (slot : Slot) → s < length slots → (p : Slot → Bool) → count p (get_or slots s Empty ∷ set slots s slot) ≡ count p (slot ∷ slots)
set_slots [] s slot lt p = absurd (omega arith)
set_slots (x ∷ xs) zero slot lt p = omega arith
set_slots (x ∷ xs) (suc s) slot lt p = let ih = set_slots xs s slot (omega arith) p in omega (arith, ih)

not_full : (slot : Slot) → is_full slot ≡ false → slot ≡ Empty
not_full Empty e = refl
not_full (Full hash start at k v) e = absurd cc

-- one place that is set
pub set_same : (slots : List Slot) (s : ℕ) (slot : Slot) → s < length slots → SameSlots (get_or slots s Empty ∷ set slots s slot) (slot ∷ slots)
set_same slots s slot lt p e = set_slots slots s slot lt p

-- a slot is taken out
pub emptied_same : (slots : List Slot) (s : ℕ) → s < length slots → SameSlots slots (get_or slots s Empty ∷ set slots s Empty)
emptied_same slots s lt p e = let a = set_slots slots s Empty lt p in let b : count p (Empty ∷ slots) ≡ 0 + count p slots = rw e refl in omega (arith, a, b)

pub moved_same : (slots : List Slot) (hole s : ℕ) (in_list : hole < length slots) (empty : get_or slots hole Empty ≡ Empty) (move : MayMove slots hole s) → SameSlots slots (moved slots hole s)
moved_same slots hole s in_list empty move p e =
    let x = get_or slots s Empty in
    let first : count p (get_or slots hole Empty ∷ set slots hole (get_or slots s Empty)) ≡ count p (get_or slots s Empty ∷ slots) = set_slots slots hole (get_or slots s Empty) in_list p in
    let l = length-set slots hole (get_or slots s Empty) in
    let place = move.place in
    let second = set_slots (set slots hole (get_or slots s Empty)) s Empty (omega (arith, l, place)) p in
    let there_is : get_or (set slots hole (get_or slots s Empty)) s Empty ≡ get_or slots s Empty = get_or-set_other slots hole s (get_or slots s Empty) Empty move.other in
    let third : count p (get_or slots s Empty ∷ moved slots hole s) ≡ count p (Empty ∷ set slots hole (get_or slots s Empty)) = rw there_is at second in
    let fourth : count p (Empty ∷ set slots hole (get_or slots s Empty)) ≡ count p (get_or slots s Empty ∷ slots) = rw empty at first in
    omega (arith, third, fourth)

-- an insertion into an empty place
pub filled_same : (slots : List Slot) (place : ℕ) (slot : Slot) → place < length slots → is_full (get_or slots place Empty) ≡ false → SameSlots (set slots place slot) (slot ∷ slots)
filled_same slots place slot lt empty p none =
    let a = set_slots slots place slot lt p in
    let b = ap p (not_full (get_or slots place Empty) empty) ∙ none in
    let c : 0 + count p (set slots place slot) ≡ count p (slot ∷ slots) = rw b at a in
    omega (arith, c)
