-- The zeros of a block beside the fields of a bucket.
use Rattle.std.proofs.Common.{◌≡◌, ℕ, ◌+◌, ◌*◌, ◌<◌, ◌≤◌, List, length, get_or, take, drop, replicate, sym, ap, ◌∙◌, inl, inr, arith}
use Rattle.std.proofs.Math.ListN.{get_or-eq_default}
use Rattle.std.proofs.lemmas.Bool.{cases_eq, cases_lt}
use Rattle.std.proofs.lemmas.List.{get_or-replicate, length-replicate}
use Rattle.gd_format.specs.declared.Extent.{Extent}
use Rattle.gd_format.specs.declared.Slot.{Slot}
use Rattle.gd_format.specs.declared.Slot.TheVariants.{Empty}
use Rattle.gd_format.specs.Field.{u32_at}
use Rattle.gd_format.specs.Bucket.{Bucket}
use Rattle.gd_layout.specs.Writing.{ArePut, HasZeros}
use Rattle.gd_layout.proofs.Pieces.{byte-front, byte-back, u32_at-front}

zero_byte : (n i : ℕ) → get_or (replicate {A = ℕ} n 0) i 0 ≡ 0
zero_byte n i =
    elim (cases_lt i n) [
      | inl lt ↦ get_or-replicate {A = ℕ} n i 0 0 lt
      | inr ge ↦ let len : length (replicate {A = ℕ} n 0) ≡ n = length-replicate n 0 in get_or-eq_default (replicate {A = ℕ} n 0) 0 (omega (arith, ge, len))
    ]

-- the same, for a block that is all zeros
pub all_zero : (block : List ℕ) (n i : ℕ) → block ≡ replicate n 0 → get_or block i 0 ≡ 0
all_zero block n i e = ap (λ (xs : List ℕ). get_or xs i 0) e ∙ zero_byte n i

-- one more slot: an empty one leaves what lies behind its hash
pub empty_more : (b0 xs ys : List ℕ) (n : ℕ) (slots : List Slot) (slot : Slot) → n < length slots → slot ≡ get_or slots n Empty → take (112 + 24 * n) ys ≡ take (112 + 24 * n) xs → drop (112 + 24 * n) xs ≡ drop (112 + 24 * n) b0
    → (slot ≡ Empty → drop (112 + 24 * n + 4) ys ≡ drop (112 + 24 * n + 4) xs)
    → ((s i : ℕ) → s < n → get_or slots s Empty ≡ Empty → 4 ≤ i → i < 24 → get_or xs (112 + 24 * s + i) 0 ≡ get_or b0 (112 + 24 * s + i) 0)
    → (s i : ℕ) → s < n + 1 → get_or slots s Empty ≡ Empty → 4 ≤ i → i < 24 → get_or ys (112 + 24 * s + i) 0 ≡ get_or b0 (112 + 24 * s + i) 0
empty_more b0 xs ys n slots slot inside is front back new old s i lt empty least most =
    elim (cases_eq s n) [
      | inl same ↦
          let here : slot ≡ Empty = is ∙ ap (λ (k : ℕ). get_or slots k Empty) (sym same) ∙ empty in
          byte-back (112 + 24 * s + i) (112 + 24 * n + 4) ys xs (omega (arith, same)) (new here) ∙ byte-back (112 + 24 * s + i) (112 + 24 * n) xs b0 (omega (arith, same)) back
      | inr other ↦ byte-front (112 + 24 * s + i) (112 + 24 * n) ys xs (omega arith) front ∙ old s i (omega arith) empty least most
    ]

-- a block of zeros, then the number of free extents, the extents, the bits, the number of full slots, and the slots
module _ (b0 b1 b2 b3 b4 b5 : List ℕ) (size : ℕ) (b : Bucket) (few : length b.free ≤ 6) (zeros : b0 ≡ replicate size 0) (back1 : drop 4 b1 ≡ drop 4 b0) (f2 : take 8 b2 ≡ take 8 b1) (back2 : drop (8 + 16 * length b.free) b2 ≡ drop (8 + 16 * length b.free) b1) (f3 : take 104 b3 ≡ take 104 b2) (back3 : drop 108 b3 ≡ drop 108 b2) (f4 : take 108 b4 ≡ take 108 b3) (back4 : drop 112 b4 ≡ drop 112 b3) (f5 : take 112 b5 ≡ take 112 b4) (back5 : drop (112 + 24 * length b.slots) b5 ≡ drop (112 + 24 * length b.slots) b4) (put : ArePut b2 8 b.free) (empty : (s i : ℕ) → s < length b.slots → get_or b.slots s Empty ≡ Empty → 4 ≤ i → i < 24 → get_or b5 (112 + 24 * s + i) 0 ≡ get_or b4 (112 + 24 * s + i) 0) where
  from_1 : (i : ℕ) → 4 ≤ i → get_or b1 i 0 ≡ 0
  from_1 i le = byte-back i 4 b1 b0 le back1 ∙ all_zero b0 size i zeros

  from_2 : (i : ℕ) → 8 + 16 * length b.free ≤ i → get_or b2 i 0 ≡ 0
  from_2 i le = byte-back i (8 + 16 * length b.free) b2 b1 le back2 ∙ from_1 i (omega arith)

  to_2 : (i : ℕ) → i < 104 → get_or b5 i 0 ≡ get_or b2 i 0
  to_2 i lt = byte-front i 112 b5 b4 (omega arith) f5 ∙ byte-front i 108 b4 b3 (omega arith) f4 ∙ byte-front i 104 b3 b2 lt f3

  from_4 : (i : ℕ) → 112 ≤ i → get_or b4 i 0 ≡ 0
  from_4 i le = byte-back i 112 b4 b3 le back4 ∙ byte-back i 108 b3 b2 (omega arith) back3 ∙ from_2 i (omega arith)

  no_extent : Extent
  no_extent = record { at = 0; size = 0 }

  padded : (e : ℕ) → e < length b.free → u32_at b5 (12 + 16 * e) ≡ 0
  padded e lt =
      let same : 12 + 16 * e ≡ 8 + 16 * e + 4 = omega arith in
      u32_at-front (12 + 16 * e) 112 b5 b4 (omega arith) f5 ∙ u32_at-front (12 + 16 * e) 108 b4 b3 (omega arith) f4 ∙ u32_at-front (12 + 16 * e) 104 b3 b2 (omega arith) f3
      ∙ ap (u32_at b2) same ∙ (put e no_extent lt).padding

  pub has_zeros : HasZeros b5 b
  has_zeros = record {
    behind_count = λ i le lt. to_2 i (omega arith) ∙ byte-front i 8 b2 b1 lt f2 ∙ from_1 i le;
    padding = padded;
    behind_free = λ i le lt. to_2 i lt ∙ from_2 i le;
    empty = λ s i lt is least most. empty s i lt is least most ∙ from_4 (112 + 24 * s + i) (omega arith);
    behind_slots = λ i le. byte-back i (112 + 24 * length b.slots) b5 b4 le back5 ∙ from_4 i (omega arith);
  }
