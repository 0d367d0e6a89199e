-- What a search that ends without a candidate tells.
use Rattle.std.proofs.Common.{◌≡◌, ℕ, ◌+◌, ◌<◌, ◌≤◌, true, false, List, length, refl, sym, ap, subst, inl, inr, arith}
use Rattle.std.proofs.lemmas.Bool.{cases_lt, cases_eq}
use Rattle.gd_format.specs.declared.Slot.{Slot}
use Rattle.gd_format.specs.declared.Slot.TheVariants.{Empty, Full}
use Rattle.gd_format.specs.Slots.{is_full}
use Rattle.gd_bucket.specs.Probing.{slot_after, is_candidate, HasNoCandidate}

pub candidate_full : (hash : ℕ) (key : List ℕ) (slot : Slot) → is_candidate hash key slot ≡ true → is_full slot ≡ true
candidate_full hash key Empty e = absurd cc
candidate_full hash key (Full h start at k v) e = refl

module _ (slots : List Slot) (hash : ℕ) (key : List ℕ) (from d : ℕ) (none : (e : ℕ) → from ≤ e → e < d → is_candidate hash key (slot_after slots hash e) ≡ false) where
  -- an empty slot ends it
  pub stops : from ≤ d → is_full (slot_after slots hash d) ≡ false → HasNoCandidate slots hash key from
  stops low empty c from_c high here =
      elim (cases_lt c d) [
        | inl before ↦ let f = none c from_c before in absurd (cc (f, here))
        | inr late ↦ elim (cases_eq c d) [
          | inl same ↦ let g = candidate_full hash key (slot_after slots hash c) here in let h = ap (λ (x : ℕ). is_full (slot_after slots hash x)) same in absurd (cc (g, h, empty))
          | inr other ↦ (d, low, omega arith, empty)
        ]
      ]

  -- the round ends it
  pub ends : (from ≤ length slots → length slots ≤ d) → HasNoCandidate slots hash key from
  ends over c from_c high here =
      let all : length slots ≤ d = over (omega arith) in
      let f = none c from_c (omega arith) in
      absurd (cc (f, here))

pub one_more : (P : ℕ → Type 0) (from d : ℕ) → ((e : ℕ) → from ≤ e → e < d → P e) → P d → (e : ℕ) → from ≤ e → e < d + 1 → P e
one_more P from d before here e low lt =
    elim (cases_eq e d) [ inl same ↦ subst P (sym same) here | inr other ↦ before e low (omega arith) ]
