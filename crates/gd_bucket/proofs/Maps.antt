-- The slots of a bucket as a map by key.
use Rattle.std.proofs.Common.{◌≡◌, ℕ, zero, suc, ◌+◌, ◌-◌, ◌%◌, ◌<◌, ◌≤◌, Bool, true, false, ◌&&◌, eqb, List, [], ◌∷◌, length, get_or, set, refl, sym, ap, ◌∙◌, inl, inr, arith}
use Rattle.std.specs.Str.{bytes_eq}
use Rattle.std.proofs.lemmas.Bool.{cases_lt, cases_eq}
use Rattle.std.proofs.lemmas.Bool.Decides.{Decides-eqb}
use Rattle.std.proofs.lemmas.List.{get_or_past, get_or-set_same, get_or-set_other}
use Rattle.std.proofs.lemmas.Nat.{mod_below}
use Rattle.std.proofs.lemmas.Slice.Eq.{bytes_eq-Decides}
use Rattle.std.proofs.Math.ListN.{length-set}
use Rattle.gd_format.specs.declared.Slot.{Slot}
use Rattle.gd_format.specs.declared.Slot.TheVariants.{Empty, Full}
use Rattle.gd_format.proofs.Firsts.{all_below_from, all_below-at, and-true, both_true}
use Rattle.gd_format.specs.Slots.{count, is_full, hash_in, is_full_from, is_reached_in, AreReached, SameSlots}
use Rattle.gd_bucket.specs.Probing.{slot_after, is_candidate, IsNextCandidate, HasNoCandidate}
use Rattle.gd_bucket.specs.Removing.{distance}
use Rattle.gd_bucket.specs.Map.{slot_with, IsKeyTest}
use Rattle.gd_bucket.proofs.Around.{distance-lt, place-distance}
use Rattle.gd_bucket.proofs.Finds.{candidate_full}
use Rattle.gd_bucket.proofs.Holes.{full_in}

bool_cases : (b : Bool) {P : Type 0} → (b ≡ true → P) → (b ≡ false → P) → P
bool_cases true p q = p refl
bool_cases false p q = q refl

candidate_hash : (hash : ℕ) (key : List ℕ) (slot : Slot) → is_candidate hash key slot ≡ true → hash_in slot ≡ hash
candidate_hash hash key Empty e = absurd cc
candidate_hash hash key (Full h start at k v) e = (Decides-eqb h hash).0 (and-true _ _ (and-true _ _ e).0).0

-- ---- the first slot that passes

count_at_least : (p : Slot → Bool) (xs : List Slot) (s : ℕ) → s < length xs → p (get_or xs s Empty) ≡ true → 1 ≤ count p xs
count_at_least p [] s lt h = absurd (omega arith)
count_at_least p (x ∷ xs) zero lt h = rw h (omega arith)
count_at_least p (x ∷ xs) (suc s) lt h = let ih = count_at_least p xs s (omega arith) h in omega (arith, ih)

with_found : (own : Slot → Bool) (xs : List Slot) (s : ℕ) → count own xs ≤ 1 → s < length xs → own (get_or xs s Empty) ≡ true → slot_with own xs ≡ get_or xs s Empty
with_found own [] s once lt h = absurd (omega arith)
with_found own (x ∷ xs) zero once lt h = rw h refl
with_found own (x ∷ xs) (suc s) once lt h =
    bool_cases (own x)
    (λ t. let more = count_at_least own xs s (omega arith) h in let two : 1 + count own xs ≤ 1 = rw t at once in absurd (omega (arith, more, two)))
    (λ f. let rest : 0 + count own xs ≤ 1 = rw f at once in rw f (with_found own xs s (omega (arith, rest)) (omega arith) h))

with_none : (own : Slot → Bool) (xs : List Slot) → ((s : ℕ) → s < length xs → own (get_or xs s Empty) ≡ false) → slot_with own xs ≡ Empty
with_none own [] h = refl
with_none own (x ∷ xs) h =
    let first : own x ≡ false = h 0 (omega arith) in
    rw first (with_none own xs (λ s lt. h (suc s) (omega arith)))

count_some : (p : Slot → Bool) (xs : List Slot) → 0 < count p xs → (s : ℕ) × (s < length xs) × (p (get_or xs s Empty) ≡ true)
count_some p [] h = absurd (omega arith)
count_some p (x ∷ xs) h =
    bool_cases (p x)
    (λ t. (0, omega arith, t))
    (λ f. let rest : 0 < 0 + count p xs = rw f at h in let r = count_some p xs (omega (arith, rest)) in (suc r.0, let l = r.1 in omega arith, r.2))

-- ---- a look-up by candidates

module _ (slots : List Slot) (hash : ℕ) (key : List ℕ) (own : Slot → Bool) (test : IsKeyTest slots hash key own) where
  own_in : (s : ℕ) → own (get_or slots s Empty) ≡ true → s < length slots
  own_in s h =
      elim (cases_lt s (length slots)) [
        | inl inside ↦ inside
        | inr past ↦ let e = ap own (get_or_past slots s Empty past) in let f = test.full in absurd (cc (e, f, h))
      ]

  pub found : (d : ℕ) → own (slot_after slots hash d) ≡ true → slot_with own slots ≡ slot_after slots hash d
  found d h = with_found own slots ((hash % length slots + d) % length slots) test.once (own_in _ h) h

  pub passed : (from d : ℕ) → ((e : ℕ) → e < from → own (slot_after slots hash e) ≡ false) → IsNextCandidate slots hash key from d → own (slot_after slots hash d) ≡ false → (e : ℕ) → e < d + 1 → own (slot_after slots hash e) ≡ false
  passed from d before next here e lt =
      elim (cases_lt e from) [
        | inl early ↦ before e early
        | inr late ↦ elim (cases_eq e d) [
          | inl same ↦ ap (λ (x : ℕ). own (slot_after slots hash x)) same ∙ here
          | inr other ↦
              bool_cases (own (slot_after slots hash e))
              (λ t. let c = test.candidate ((hash % length slots + e) % length slots) (own_in _ t) t in let n = next.none e late (omega arith) in absurd (cc (c, n)))
              (λ f. f)
        ]
      ]

  module _ (from : ℕ) (reached : AreReached slots (length slots)) (before : (e : ℕ) → e < from → own (slot_after slots hash e) ≡ false) (none : HasNoCandidate slots hash key from) where
    not_own : (s : ℕ) → s < length slots → own (get_or slots s Empty) ≡ true → ⊥
    unfolding is_reached_in is_full_from distance
    not_own s lt h =
        let c = test.candidate s lt h in
        let positive : 0 < length slots = omega arith in
        let home = candidate_hash hash key (get_or slots s Empty) c in
        let full = candidate_full hash key (get_or slots s Empty) c in
        let there = place-distance (length slots) (hash % length slots) s (mod_below hash (length slots) positive) lt in
        let reach = reached s lt full in
        let steps = rw home at reach in
        elim (cases_lt (distance (length slots) (hash % length slots) s) from) [
          | inl early ↦
              let f = before (distance (length slots) (hash % length slots) s) early in
              absurd (cc (f, there, h))
          | inr late ↦
              let near = distance-lt (length slots) (hash % length slots) s positive in
              let here = ap (λ (x : ℕ). is_candidate hash key (get_or slots x Empty)) there ∙ c in
              let w = none (distance (length slots) (hash % length slots) s) late near here in
              let f = all_below-at (λ d. is_full (get_or slots ((hash % length slots + d) % length slots) Empty)) (distance (length slots) (hash % length slots) s) steps w.0 w.2 in
              let g = w.3 in
              absurd (cc (f, g))
        ]

    pub absent : slot_with own slots ≡ Empty
    absent = with_none own slots (λ s lt. bool_cases (own (get_or slots s Empty)) (λ t. absurd (not_own s lt t)) (λ f. f))

-- ---- the same full slots

same_slot : Slot → Slot → Bool
same_slot Empty Empty = true
same_slot Empty (Full h s a k v) = false
same_slot (Full h s a k v) Empty = false
same_slot (Full h s a k v) (Full h' s' a' k' v') = eqb h h' && bytes_eq s s' && eqb a a' && eqb k k' && eqb v v'

same_slot-refl : (x : Slot) → same_slot x x ≡ true
unfolding same_slot
same_slot-refl Empty = refl
same_slot-refl (Full h s a k v) =
    both_true _ _ (both_true _ _ (both_true _ _ (both_true _ _ ((Decides-eqb h h).1 refl) ((bytes_eq-Decides s s).1 refl)) ((Decides-eqb a a).1 refl)) ((Decides-eqb k k).1 refl)) ((Decides-eqb v v).1 refl)

same_slot-true : (x y : Slot) → same_slot x y ≡ true → x ≡ y
unfolding same_slot
same_slot-true Empty Empty e = refl
same_slot-true Empty (Full h s a k v) e = absurd cc
same_slot-true (Full h s a k v) Empty e = absurd cc
same_slot-true (Full h s a k v) (Full h' s' a' k' v') e =
    let p = and-true _ _ e in
    let q = and-true _ _ p.0 in
    let r = and-true _ _ q.0 in
    let t = and-true _ _ r.0 in
    let hh = (Decides-eqb h h').0 t.0 in
    let ss = (bytes_eq-Decides s s').0 t.1 in
    let aa = (Decides-eqb a a').0 r.1 in
    let kk = (Decides-eqb k k').0 q.1 in
    let vv = (Decides-eqb v v').0 p.1 in
    rw (hh, ss, aa, kk, vv) refl

pub same_map : (xs ys : List Slot) (own : Slot → Bool) → SameSlots xs ys → own Empty ≡ false → count own ys ≤ 1 → slot_with own xs ≡ slot_with own ys
same_map xs ys own same empty once =
    let all = same own empty in
    elim (cases_lt 0 (count own ys)) [
      | inr none ↦
          let no_x = with_none own xs (λ s lt. bool_cases (own (get_or xs s Empty)) (λ t. let one = count_at_least own xs s lt t in absurd (omega (arith, one, all, none))) (λ f. f)) in
          let no_y = with_none own ys (λ s lt. bool_cases (own (get_or ys s Empty)) (λ t. let one = count_at_least own ys s lt t in absurd (omega (arith, one, none))) (λ f. f)) in
          no_x ∙ sym no_y
      | inl some ↦
          let y = count_some own ys some in
          let x : Slot = get_or ys y.0 Empty in
          let in_y = with_found own ys y.0 once y.1 y.2 in
          let test : Slot → Bool = λ s. own s && same_slot s (get_or ys y.0 Empty) in
          let here : (own (get_or ys y.0 Empty) && same_slot (get_or ys y.0 Empty) (get_or ys y.0 Empty)) ≡ true = both_true _ _ y.2 (same_slot-refl (get_or ys y.0 Empty)) in
          let one = count_at_least (λ s. own s && same_slot s (get_or ys y.0 Empty)) ys y.0 y.1 here in
          let e : (own Empty && same_slot Empty (get_or ys y.0 Empty)) ≡ false = rw empty refl in
          let moved = same (λ s. own s && same_slot s (get_or ys y.0 Empty)) e in
          let z = count_some (λ s. own s && same_slot s (get_or ys y.0 Empty)) xs (omega (arith, one, moved)) in
          let both = and-true (own (get_or xs z.0 Empty)) (same_slot (get_or xs z.0 Empty) (get_or ys y.0 Empty)) z.2 in
          with_found own xs z.0 (omega (arith, all, once)) z.1 both.0 ∙ same_slot-true (get_or xs z.0 Empty) (get_or ys y.0 Empty) both.1 ∙ sym in_y
    ]

-- ---- a slot takes the place of one with its hash

module _ (slots : List Slot) (s : ℕ) (slot : Slot) (reached : AreReached slots (length slots)) (was : is_full (get_or slots s Empty) ≡ true) (full : is_full slot ≡ true) (hash : hash_in slot ≡ hash_in (get_or slots s Empty)) where
  still_full : (q : ℕ) → is_full (get_or slots q Empty) ≡ true → is_full (get_or (set slots s slot) q Empty) ≡ true
  still_full q f =
      elim (cases_eq q s) [
        | inl same ↦ ap (λ (x : ℕ). is_full (get_or (set slots s slot) x Empty)) same ∙ ap is_full (get_or-set_same slots s slot Empty (full_in slots s was)) ∙ full
        | inr other ↦ ap is_full (get_or-set_other slots s q slot Empty other) ∙ f
      ]

  was_full : (q : ℕ) → is_full (get_or (set slots s slot) q Empty) ≡ true → is_full (get_or slots q Empty) ≡ true
  was_full q f =
      elim (cases_eq q s) [
        | inl same ↦ ap (λ (x : ℕ). is_full (get_or slots x Empty)) same ∙ was
        | inr other ↦ sym (ap is_full (get_or-set_other slots s q slot Empty other)) ∙ f
      ]

  same_hash : (q : ℕ) → hash_in (get_or (set slots s slot) q Empty) ≡ hash_in (get_or slots q Empty)
  same_hash q =
      elim (cases_eq q s) [
        | inl same ↦
            ap (λ (x : ℕ). hash_in (get_or (set slots s slot) x Empty)) same ∙ ap hash_in (get_or-set_same slots s slot Empty (full_in slots s was)) ∙ hash
            ∙ sym (ap (λ (x : ℕ). hash_in (get_or slots x Empty)) same)
        | inr other ↦ ap hash_in (get_or-set_other slots s q slot Empty other)
      ]

  pub replaced_reaches : AreReached (set slots s slot) (length (set slots s slot))
  unfolding is_reached_in is_full_from
  replaced_reaches q lq f =
      let l = length-set slots s slot in
      let old = reached q (omega (arith, lq, l)) (was_full q f) in
      rw (l, same_hash q)
      (all_below_from (λ d. is_full (get_or (set slots s slot) ((hash_in (get_or slots q Empty) % length slots + d) % length slots) Empty)) _
      (λ d ld. still_full _ (all_below-at (λ d. is_full (get_or slots ((hash_in (get_or slots q Empty) % length slots + d) % length slots) Empty)) ((q + length slots - hash_in (get_or slots q Empty) % length slots) % length slots) old d ld)))
