-- The half of a bucket in which a hash belongs.
use Rattle.std.proofs.Common.{◌≡◌, ℕ, ◌<◌, ◌≤◌, Bool, false, List, ◌++◌, inl, inr, ◌⊎◌, arith}
use Rattle.std.proofs.lemmas.Nat.{mod_below}
use Rattle.gd_format.specs.declared.Slot.{Slot}
use Rattle.gd_format.specs.declared.Slot.TheVariants.{Empty}
use Rattle.gd_format.specs.declared.Header.{Header}
use Rattle.gd_format.specs.Bucket.{Bucket}
use Rattle.gd_format.specs.Slots.{count, SameSlots}
use Rattle.gd_map_laws.proofs.Lists.{count-append}
use Rattle.gd_update.specs.Held.{IsBucketOf}
use Rattle.gd_update.specs.Halves.{next_bit}
use Rattle.gd_update.specs.Steps.{IsNext}

-- neither half has more of the slots
pub first_fewer : (p : Slot → Bool) (slots one two : List Slot) → p Empty ≡ false → SameSlots slots (one ++ two) → count p one ≤ count p slots
first_fewer p slots one two none same = let e = same p none in let a = count-append p one two in omega (arith, e, a)

pub second_fewer : (p : Slot → Bool) (slots one two : List Slot) → p Empty ≡ false → SameSlots slots (one ++ two) → count p two ≤ count p slots
second_fewer p slots one two none same = let e = same p none in let a = count-append p one two in omega (arith, e, a)

low_or_high : (n : ℕ) → n < 2 → (n ≡ 0) ⊎ (n ≡ 1)
low_or_high n lt = grind arith

-- the bucket of the hash is the half that was taken
pub half_is :
    (file : List ℕ) (h : Header) (hash at other bits place : ℕ) (first second bucket : Bucket) → (next_bit bits hash ≡ 0 → (place ≡ at) × (bucket ≡ first))
    → (next_bit bits hash ≡ 1 → (place ≡ other) × (bucket ≡ second)) → IsNext file h hash at other bits first second → IsBucketOf file h hash place bucket
half_is file h hash at other bits place first second bucket low high next =
    elim (low_or_high (next_bit bits hash) (mod_below _ 2 (omega arith))) [
      | inl zero_ ↦ let e = low zero_ in rw (e.0, e.1) (next.low zero_)
      | inr one_ ↦ let e = high one_ in rw (e.0, e.1) (next.high one_)
    ]
