-- An insertion at the first empty place from home.
use Rattle.std.proofs.Common.{◌≡◌, ℕ, suc, ◌+◌, ◌-◌, ◌%◌, ◌<◌, true, List, [], ◌∷◌, length, get_or, set, refl, sym, ap, subst, ◌∙◌, inl, inr, arith}
use Rattle.std.proofs.lemmas.Bool.{cases_lt, cases_eq}
use Rattle.std.proofs.lemmas.List.{get_or-set_same, get_or-set_other}
use Rattle.std.proofs.lemmas.Nat.{mod_below}
use Rattle.gd_format.specs.declared.Slot.{Slot}
use Rattle.gd_format.specs.declared.Slot.TheVariants.{Empty}
use Rattle.gd_format.specs.First.{all_below}
use Rattle.gd_format.proofs.Firsts.{all_below_from, all_below-at}
use Rattle.gd_format.specs.Slots.{count, is_full, hash_in, is_full_from, is_reached_in, AreReached}
use Rattle.gd_bucket.specs.Probing.{slot_after, IsFirstEmpty}
use Rattle.gd_bucket.specs.Removing.{distance}
use Rattle.gd_bucket.proofs.Around.{distance-lt, distance-place, place-distance}

-- ---- a place is left

all_count : (xs : List Slot) → ((s : ℕ) → s < length xs → is_full (get_or xs s Empty) ≡ true) → count is_full xs ≡ length xs
all_count [] h = refl
all_count (x ∷ xs) h =
    let first : is_full x ≡ true = h 0 (omega arith) in
    let rest = all_count xs (λ s lt. h (suc s) (omega arith)) in
    rw first (omega (arith, rest))

-- where not all slots are full, the full ones from home on end before the round does
pub room_left : (slots : List Slot) (hash m : ℕ) → count is_full slots < length slots → ((d : ℕ) → d < m → is_full (slot_after slots hash d) ≡ true) → m < length slots
room_left slots hash m room full =
    elim (cases_lt m (length slots)) [
      | inl inside ↦ inside
      | inr over ↦
          let positive : 0 < length slots = omega arith in
          let all =
          all_count slots
          (λ s lt.
          let near = distance-lt (length slots) (hash % length slots) s positive in
          let here = full (distance (length slots) (hash % length slots) s) (omega (arith, near, over)) in
          let e = place-distance (length slots) (hash % length slots) s (mod_below hash (length slots) positive) lt in
          sym (ap (λ (x : ℕ). is_full (get_or slots x Empty)) e) ∙ here) in
          absurd (omega (arith, all, room))
    ]

-- ---- each slot stays reached

module _ (slots : List Slot) (elems n : ℕ) (slot : Slot) (len : length slots ≡ elems) (lt : n < elems) (full : is_full slot ≡ true) (old : AreReached slots elems) (before : (d : ℕ) → d < n → is_full (get_or slots ((hash_in slot % elems + d) % elems) Empty) ≡ true) where
  positive : 0 < elems
  positive = omega arith

  place_in : (hash_in slot % elems + n) % elems < elems
  place_in = mod_below (hash_in slot % elems + n) elems positive

  grows : (s : ℕ) → is_full (get_or slots s Empty) ≡ true → is_full (get_or (set slots ((hash_in slot % elems + n) % elems) slot) s Empty) ≡ true
  grows s was =
      elim (cases_eq s ((hash_in slot % elems + n) % elems)) [
        | inl same ↦ let in_list = place_in in ap (λ (x : ℕ). is_full (get_or (set slots ((hash_in slot % elems + n) % elems) slot) x Empty)) same ∙ ap is_full (get_or-set_same slots ((hash_in slot % elems + n) % elems) slot Empty (omega (arith, in_list, len))) ∙ full
        | inr other ↦ ap is_full (get_or-set_other slots ((hash_in slot % elems + n) % elems) s slot Empty other) ∙ was
      ]

  pub insert_reaches : AreReached (set slots ((hash_in slot % elems + n) % elems) slot) elems
  unfolding is_reached_in is_full_from distance
  insert_reaches s ls now =
      elim (cases_eq s ((hash_in slot % elems + n) % elems)) [
        | inl same ↦
            let in_list = place_in in
            let is : get_or (set slots ((hash_in slot % elems + n) % elems) slot) s Empty ≡ slot =
            ap (λ (x : ℕ). get_or (set slots ((hash_in slot % elems + n) % elems) slot) x Empty) same ∙ get_or-set_same slots ((hash_in slot % elems + n) % elems) slot Empty (omega (arith, in_list, len)) in
            let away : (s + elems - hash_in slot % elems) % elems ≡ n = ap (λ (x : ℕ). (x + elems - hash_in slot % elems) % elems) same ∙ distance-place elems (hash_in slot % elems) n (mod_below (hash_in slot) elems positive) lt in
            let all : all_below ((s + elems - hash_in slot % elems) % elems) (λ d. is_full (get_or (set slots ((hash_in slot % elems + n) % elems) slot) ((hash_in slot % elems + d) % elems) Empty)) ≡ true =
            all_below_from (λ d. is_full (get_or (set slots ((hash_in slot % elems + n) % elems) slot) ((hash_in slot % elems + d) % elems) Empty)) ((s + elems - hash_in slot % elems) % elems)
            (λ d l. grows ((hash_in slot % elems + d) % elems) (before d (omega (arith, l, away)))) in
            subst (λ (x : Slot). all_below ((s + elems - hash_in x % elems) % elems) (λ d. is_full (get_or (set slots ((hash_in slot % elems + n) % elems) slot) ((hash_in x % elems + d) % elems) Empty)) ≡ true) (sym is) all
        | inr other ↦
            let is : get_or (set slots ((hash_in slot % elems + n) % elems) slot) s Empty ≡ get_or slots s Empty = get_or-set_other slots ((hash_in slot % elems + n) % elems) s slot Empty other in
            let was = old s ls (sym (ap is_full is) ∙ now) in
            let all : all_below ((s + elems - hash_in (get_or slots s Empty) % elems) % elems) (λ d. is_full (get_or (set slots ((hash_in slot % elems + n) % elems) slot) ((hash_in (get_or slots s Empty) % elems + d) % elems) Empty)) ≡ true =
            all_below_from (λ d. is_full (get_or (set slots ((hash_in slot % elems + n) % elems) slot) ((hash_in (get_or slots s Empty) % elems + d) % elems) Empty)) ((s + elems - hash_in (get_or slots s Empty) % elems) % elems)
            (λ d l. grows ((hash_in (get_or slots s Empty) % elems + d) % elems) (all_below-at (λ d. is_full (get_or slots ((hash_in (get_or slots s Empty) % elems + d) % elems) Empty)) ((s + elems - hash_in (get_or slots s Empty) % elems) % elems) was d l)) in
            subst (λ (x : Slot). all_below ((s + elems - hash_in x % elems) % elems) (λ d. is_full (get_or (set slots ((hash_in slot % elems + n) % elems) slot) ((hash_in x % elems + d) % elems) Empty)) ≡ true) (sym is) all
      ]

-- the same at the place that is the first empty one
pub inserted_reaches : (slots : List Slot) (place : ℕ) (slot : Slot) → is_full slot ≡ true → IsFirstEmpty slots (hash_in slot) place → AreReached slots (length slots) → AreReached (set slots place slot) (length slots)
inserted_reaches slots place slot full first old =
    let done = insert_reaches slots (length slots) first.distance slot refl first.in_round full old first.full in
    rw first.place_is done
