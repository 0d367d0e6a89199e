-- A hole that a removed slot leaves: which slots are still reached, and what moves.
use Rattle.std.proofs.Common.{◌≡◌, ◌≢◌, ℕ, ◌+◌, ◌-◌, ◌%◌, ◌<◌, ◌≤◌, true, List, length, get_or, set, ◌⊎◌, sym, ap, ◌∙◌, inl, inr, arith}
use Rattle.std.proofs.lemmas.Bool.{cases_eq}
use Rattle.std.proofs.lemmas.List.{get_or-set_same, get_or-set_other}
use Rattle.std.proofs.Math.ListN.{length-set}
use Rattle.std.proofs.lemmas.Nat.{mod_below}
use Rattle.gd_format.specs.declared.Slot.{Slot}
use Rattle.gd_format.specs.declared.Slot.TheVariants.{Empty}
use Rattle.gd_format.proofs.Firsts.{all_below_from, all_below-at}
use Rattle.gd_format.specs.Slots.{is_full, hash_in, is_full_from, is_reached_in, AreReached}
use Rattle.gd_bucket.specs.Removing.{distance, from_home, MayMove, NoneMoves, moved}
use Rattle.gd_bucket.proofs.Around.{place-add, distance-lt, place-distance, place-same, distance-add}

-- the place that comes d places after the home of the slot at s
abbrev pub passed : ℕ → List Slot → ℕ → ℕ → ℕ
passed n slots s d = (hash_in (get_or slots s Empty) % n + d) % n

-- all slots from its home up to a full one are full, but for the hole
abbrev pub AreJoined : ℕ → List Slot → ℕ → Type 0
AreJoined n slots hole =
    (s d : ℕ) → s < n → is_full (get_or slots s Empty) ≡ true → d < distance n (hash_in (get_or slots s Empty) % n) s
    → (is_full (get_or slots (passed n slots s d) Empty) ≡ true) ⊎ (passed n slots s d ≡ hole)

empty_full : (slot : Slot) → slot ≡ Empty → is_full slot ≡ true → ⊥
empty_full slot e f = let g = ap is_full e in cc (g, f)

module _ (n : ℕ) (slots : List Slot) (len : length slots ≡ n) where
  -- a slot is taken out
  pub opens : (place : ℕ) → place < n → AreReached slots n → AreJoined n (set slots place Empty) place
  unfolding is_reached_in is_full_from distance
  opens place lp reached s d ls full ld =
      elim (cases_eq s place) [
        | inl same ↦ absurd (empty_full _ (ap (λ (x : ℕ). get_or (set slots place Empty) x Empty) same ∙ get_or-set_same slots place Empty Empty (omega arith)) full)
        | inr other ↦
            let is : get_or (set slots place Empty) s Empty ≡ get_or slots s Empty = get_or-set_other slots place s Empty Empty other in
            let was = all_below-at (λ d. is_full (get_or slots (passed n slots s d) Empty)) _ (reached s ls (rw is at full)) d (rw is at ld) in
            let moved : passed n (set slots place Empty) s d ≡ passed n slots s d = ap (λ (x : Slot). (hash_in x % n + d) % n) is in
            elim (cases_eq (passed n slots s d) place) [
              | inl hit ↦ inr (moved ∙ hit)
              | inr miss ↦ inl (ap (λ (x : ℕ). is_full (get_or (set slots place Empty) x Empty)) moved ∙ ap is_full (get_or-set_other slots place (passed n slots s d) Empty Empty miss) ∙ was)
            ]
      ]

-- no slot has to move
module _ (slots : List Slot) (hole : ℕ) (in_list : hole < length slots) (joined : AreJoined (length slots) slots hole) (none : NoneMoves slots hole) where
  module _ (s d : ℕ) (ls : s < length slots) (full : is_full (get_or slots s Empty) ≡ true) (ld : d < distance (length slots) (hash_in (get_or slots s Empty) % length slots) s) (hit : passed (length slots) slots s d ≡ hole) where
    positive : 0 < length slots
    positive = omega arith

    home_in : hash_in (get_or slots s Empty) % length slots < length slots
    home_in = mod_below (hash_in (get_or slots s Empty)) (length slots) positive

    abbrev home : ℕ
    home = hash_in (get_or slots s Empty) % length slots

    abbrev away : ℕ
    away = distance (length slots) home s

    away_lt : away < length slots
    away_lt = distance-lt (length slots) home s positive

    -- u places after the hole
    after : (u : ℕ) → (hole + u) % length slots ≡ passed (length slots) slots s (d + u)
    after u = ap (λ (x : ℕ). (x + u) % length slots) (sym hit) ∙ place-add (length slots) home d u

    at_slot : (hole + (away - d)) % length slots ≡ s
    at_slot = let e : d + (away - d) ≡ away = omega arith in after (away - d) ∙ ap (λ (x : ℕ). (home + x) % length slots) e ∙ place-distance (length slots) home s home_in ls

    filled : (u : ℕ) → 0 < u → u ≤ away - d → is_full (get_or slots ((hole + u) % length slots) Empty) ≡ true
    filled u low high =
        elim (cases_eq u (away - d)) [
          | inl same ↦ ap (λ (x : ℕ). is_full (get_or slots x Empty)) (ap (λ (x : ℕ). (hole + x) % length slots) same ∙ at_slot) ∙ full
          | inr other ↦
              let inside : d + u < away = omega arith in
              elim (joined s (d + u) ls full inside) [
                | inl f ↦ ap (λ (x : ℕ). is_full (get_or slots x Empty)) (after u) ∙ f
                | inr again ↦
                    let l = away_lt in
                    let same = place-same (length slots) home (d + u) d home_in (omega arith) (omega arith) (again ∙ sym hit) in
                    absurd (omega (arith, same, low))
              ]
        ]

    pub not_over : ⊥
    unfolding from_home
    not_over =
        let l = away_lt in
        let near = none (away - d) (omega arith) (omega arith) filled in
        let here : from_home slots ((hole + (away - d)) % length slots) ≡ away = ap (from_home slots) at_slot in
        omega (arith, near, here)

  pub closes : AreReached slots (length slots)
  unfolding is_reached_in is_full_from distance
  closes s ls full =
      all_below_from (λ d. is_full (get_or slots (passed (length slots) slots s d) Empty)) _
      (λ d ld. elim (joined s d ls full ld) [ inl f ↦ f | inr hit ↦ absurd (not_over s d ls full ld hit) ])

-- a slot moves to the hole
module _ (slots : List Slot) (hole s : ℕ) (in_list : hole < length slots) (move : MayMove slots hole s) where
  pub length-moved : length (moved slots hole s) ≡ length slots
  length-moved = length-set (set slots hole (get_or slots s Empty)) s Empty ∙ length-set slots hole (get_or slots s Empty)

  pub here : get_or (moved slots hole s) s Empty ≡ Empty
  here = let l = length-set slots hole (get_or slots s Empty) in let p = move.place in get_or-set_same (set slots hole (get_or slots s Empty)) s Empty Empty (omega (arith, l, p))

  pub there : get_or (moved slots hole s) hole Empty ≡ get_or slots s Empty
  there = get_or-set_other (set slots hole (get_or slots s Empty)) s hole Empty Empty (λ e. move.other (sym e)) ∙ get_or-set_same slots hole (get_or slots s Empty) Empty in_list

  pub else : (q : ℕ) → q ≢ s → q ≢ hole → get_or (moved slots hole s) q Empty ≡ get_or slots q Empty
  else q ns nh = get_or-set_other (set slots hole (get_or slots s Empty)) s q Empty Empty ns ∙ get_or-set_other slots hole q (get_or slots s Empty) Empty nh

  full_after : (p : ℕ) → p ≢ s → (is_full (get_or slots p Empty) ≡ true) ⊎ (p ≡ hole) → is_full (get_or (moved slots hole s) p Empty) ≡ true
  full_after p ns was =
      elim (cases_eq p hole) [
        | inl same ↦ ap (λ (x : ℕ). is_full (get_or (moved slots hole s) x Empty)) same ∙ ap is_full there ∙ move.full
        | inr other ↦ elim was [ inl f ↦ ap is_full (else p ns other) ∙ f | inr e ↦ absurd (other e) ]
      ]

  some : 0 < length slots
  some = omega arith

  abbrev own : ℕ
  own = hash_in (get_or slots s Empty) % length slots

  own_in : own < length slots
  own_in = mod_below (hash_in (get_or slots s Empty)) (length slots) some

  -- how much nearer to its home the slot comes
  pub nearer : distance (length slots) own hole + distance (length slots) hole s ≡ distance (length slots) own s
  unfolding from_home
  nearer = distance-add (length slots) own hole s own_in in_list move.place move.far

  pub moves : AreJoined (length slots) slots hole → AreJoined (length slots) (moved slots hole s) s
  moves joined q d lq full ld =
      elim (cases_eq q s) [
        | inl same ↦ absurd (empty_full _ (ap (λ (x : ℕ). get_or (moved slots hole s) x Empty) same ∙ here) full)
        | inr ns ↦ elim (cases_eq q hole) [
          | inl at_hole ↦
              let is : get_or (moved slots hole s) q Empty ≡ get_or slots s Empty = ap (λ (x : ℕ). get_or (moved slots hole s) x Empty) at_hole ∙ there in
              let near : d < distance (length slots) own q = rw is at ld in
              let e = ap (distance (length slots) own) at_hole in
              let n = nearer in
              let far = distance-lt (length slots) own s some in
              let inside : d < distance (length slots) own s = omega (arith, near, e, n) in
              let p : passed (length slots) (moved slots hole s) q d ≡ passed (length slots) slots s d = ap (λ (x : Slot). (hash_in x % length slots + d) % length slots) is in
              let miss : passed (length slots) slots s d ≢ s =
              λ hit. let same = place-same (length slots) own d (distance (length slots) own s) own_in (omega (arith, inside, far)) far (hit ∙ sym (place-distance (length slots) own s own_in move.place)) in omega (arith, same, inside) in
              inl (ap (λ (x : ℕ). is_full (get_or (moved slots hole s) x Empty)) p ∙ full_after (passed (length slots) slots s d) miss (joined s d move.place move.full inside))
          | inr nh ↦
              let is = else q ns nh in
              let p : passed (length slots) (moved slots hole s) q d ≡ passed (length slots) slots q d = ap (λ (x : Slot). (hash_in x % length slots + d) % length slots) is in
              let was = joined q d lq (rw is at full) (rw is at ld) in
              elim (cases_eq (passed (length slots) slots q d) s) [
                | inl hit ↦ inr (p ∙ hit)
                | inr miss ↦ inl (ap (λ (x : ℕ). is_full (get_or (moved slots hole s) x Empty)) p ∙ full_after (passed (length slots) slots q d) miss was)
              ]
        ]
      ]
