-- The slots of a bucket in which one slot changes.
use Rattle.std.specs.Prelude.{set}
use Rattle.std.specs.Str.{bytes_eq}
use Rattle.std.proofs.lemmas.List.{take-append-le}
use Rattle.std.proofs.lemmas.Slice.Eq.{bytes_eq-Decides}
use Rattle.gd_update.specs.Starts.{start_of}
use Rattle.std.proofs.Common.{◌≡◌, ℕ, ◌<◌, ◌^◌, true, List, [], ◌∷◌, length, take, replicate, ◌-◌, get_or, refl, ap, ◌∙◌, arith}
use Rattle.gd_format.specs.declared.Slot.{Slot}
use Rattle.gd_format.specs.declared.Slot.TheVariants.{Empty}
use Rattle.gd_format.specs.Slots.{SameSlots}
use Rattle.gd_bucket.proofs.Falls.{set_same, emptied_same}
use Rattle.std.proofs.lemmas.Nat.{mod_below, pow_pos}
use Rattle.gd_format.specs.Hash.{hash_of}
use Rattle.gd_update.specs.Writes.{SlotsMade}

-- a slot takes the place of another
pub replaced : (slots : List Slot) (s : ℕ) (slot : Slot) → s < length slots → SlotsMade slots (set slots s slot) (get_or slots s Empty) slot
replaced slots s slot lt = record {
  rest = set slots s Empty;
  before_is = emptied_same slots s lt;
  after_is = λ p none. let a = set_same slots s slot lt p none in let b = emptied_same slots s lt p none in omega (arith, a, b);
}

-- a slot comes where none goes
pub added : (before after : List Slot) (slot : Slot) → SameSlots after (slot ∷ before) → SlotsMade before after Empty slot
added before after slot same = record { rest = before; before_is = λ p none. rw none (omega arith); after_is = same }

-- a slot goes where none comes
pub lost : (before after : List Slot) (slot : Slot) → SameSlots before (slot ∷ after) → SlotsMade before after slot Empty
lost before after slot same = record { rest = after; before_is = same; after_is = λ p none. rw none (omega arith) }

pub hash_below : (key : List ℕ) → hash_of key < 2 ^ 31
unfolding hash_of
hash_below key = mod_below _ (2 ^ 31) (pow_pos 31)

-- a key's slot has its first bytes
pub starts : (key : List ℕ) → bytes_eq (take 4 key) (take (length (take 4 key)) (start_of key)) ≡ true
starts key =
    let same : take (length (take 4 key)) (start_of key) ≡ take 4 key = take-append-le (length (take 4 key)) (take 4 key) (replicate (4 - length key) 0) (omega arith) ∙ take-all (take 4 key) in
    rw same ((bytes_eq-Decides (take 4 key) (take 4 key)).1 refl)
  where
    take-all : (xs : List ℕ) → take (length xs) xs ≡ xs
    take-all [] = refl
    take-all (x ∷ xs) = ap (λ (ys : List ℕ). x ∷ ys) (take-all xs)
