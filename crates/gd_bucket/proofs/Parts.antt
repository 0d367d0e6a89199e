-- A bucket while its slots are being divided.
use Rattle.std.proofs.Common.{◌≡◌, ℕ, zero, suc, ◌+◌, ◌-◌, ◌/◌, ◌%◌, ◌^◌, ◌<◌, ◌≤◌, Bool, true, false, not, cond, eqb, List, [], ◌∷◌, ◌++◌, length, get_or, set, replicate, refl, sym, ap, subst, ◌∙◌, arith}
use Rattle.std.proofs.lemmas.Bool.Decides.{nat_tests}
use Rattle.std.proofs.lemmas.List.{length-replicate}
use Rattle.std.proofs.Math.ListN.{length-set}
use Rattle.gd_format.specs.declared.Extent.{Extent}
use Rattle.gd_format.specs.declared.Slot.{Slot}
use Rattle.gd_format.specs.declared.Slot.TheVariants.{Empty, Full}
use Rattle.gd_format.specs.Bucket.{Bucket}
use Rattle.gd_format.specs.Slots.{count, is_full, AreReached, SameSlots, is_astray}
use Rattle.gd_bucket.specs.Splitting.{AreHalves, IsEmptyHalf, IsHalf}

-- the slots that were seen stand in the two buckets
pub record IsParted (old first second : Bucket) (seen : List Slot) (one two : List Extent) : Type 0 where
  pub low : IsHalf old first 0
  pub high : IsHalf old second 1
  pub free : first.free ≡ one
  pub loose : second.free ≡ two
  pub slots : SameSlots seen (first.slots ++ second.slots)

bit_sides : (x : ℕ) → not (eqb (x % 2) 0) ≡ true → not (eqb (x % 2) 1) ≡ false
bit_sides x e = grind (arith, nat_tests)

not_full : (slot : Slot) → is_full slot ≡ false → slot ≡ Empty
not_full Empty e = refl
not_full (Full hash start at k v) e = absurd cc

count-append : {X : Type 0} (p : X → Bool) (xs ys : List X) → count p (xs ++ ys) ≡ count p xs + count p ys
count-append p [] ys = omega arith
count-append p (x ∷ xs) ys = let ih = count-append p xs ys in omega (arith, ih)

one_or_none : (b : Bool) (m n : ℕ) → m ≤ n → cond b 1 0 + m ≤ suc n
one_or_none true m n le = omega arith
one_or_none false m n le = omega arith

count-le : (p : Slot → Bool) (xs : List Slot) → count p xs ≤ length xs
count-le p [] = omega arith
count-le p (x ∷ xs) = one_or_none (p x) (count p xs) (length xs) (count-le p xs)

count-empty : (p : Slot → Bool) (n : ℕ) → p Empty ≡ false → count p (replicate n Empty) ≡ 0
count-empty p zero e = refl
count-empty p (suc n) e = rw e (let ih = count-empty p n e in omega (arith, ih))

empty_get : (n s : ℕ) → get_or (replicate n Empty) s Empty ≡ Empty
empty_get zero s = refl
empty_get (suc n) zero = refl
empty_get (suc n) (suc s) = empty_get n s

empty_reached : (n m : ℕ) → AreReached (replicate n Empty) m
empty_reached n m s lt full = let e = ap is_full (empty_get n s) in absurd (cc (e, full))

empty_half : (old half : Bucket) (side : ℕ) → half.bits ≡ old.bits + 1 → half.slots ≡ replicate (length old.slots) Empty → IsHalf old half side
empty_half old half side bits is =
    let l = length-replicate {A = Slot} (length old.slots) Empty in
    record {
      bits = bits;
      elems = ap length is ∙ l;
      parted = ap (count (is_astray old.bits side)) is ∙ count-empty (is_astray old.bits side) (length old.slots) refl;
      reached = subst (λ (xs : List Slot). AreReached xs (length xs)) (sym is) (empty_reached (length old.slots) (length (replicate (length old.slots) Empty)));
    }

pub begins : (old first second : Bucket) (one two : List Extent) → IsEmptyHalf old first → IsEmptyHalf old second → first.free ≡ one → second.free ≡ two → IsParted old first second [] one two
begins old first second one two f g free loose =
    record {
      low = empty_half old first 0 f.bits f.slots;
      high = empty_half old second 1 g.bits g.slots;
      free = free;
      loose = loose;
      slots =
          λ p e.
          let a = count-append p first.slots second.slots in
          let x = ap (count p) f.slots ∙ count-empty p (length old.slots) e in
          let y = ap (count p) g.slots ∙ count-empty p (length old.slots) e in
          omega (arith, a, x, y);
    }

-- a slot goes to a half
half_grows : (old half half' : Bucket) (side place : ℕ) (slot : Slot) → IsHalf old half side → is_astray old.bits side slot ≡ false → half' ≡ record half { slots = set half.slots place slot } → SameSlots half'.slots (slot ∷ half.slots) → AreReached half'.slots (length half'.slots) → IsHalf old half' side
half_grows old half half' side place slot h straight is same reached =
    let e = h.elems in
    let b = h.bits in
    let l = length-set half.slots place slot in
    record {
      bits = ap (λ (x : Bucket). x.bits) is ∙ b;
      elems = ap (λ (x : Bucket). length x.slots) is ∙ l ∙ e;
      parted = let n = same (is_astray old.bits side) refl in let m : count (is_astray old.bits side) (slot ∷ half.slots) ≡ 0 = rw straight (let k = h.parted in omega (arith, k)) in n ∙ m;
      reached = reached;
    }

module _ (old first second : Bucket) (seen : List Slot) (slot : Slot) (one two : List Extent) (parted : IsParted old first second seen one two) where
  -- an empty slot
  pub passes : is_full slot ≡ false → IsParted old first second (seen ++ slot ∷ []) one two
  passes empty =
      record {
        low = parted.low;
        high = parted.high;
        free = parted.free;
        loose = parted.loose;
        slots =
            λ p e.
            let a = count-append p seen (slot ∷ []) in
            let q = ap p (not_full slot empty) ∙ e in
            let b : count p (seen ++ slot ∷ []) ≡ count p seen + (0 + 0) = rw q at a in
            let s = parted.slots p e in
            omega (arith, b, s);
      }

  pub to_first : (first' : Bucket) (place : ℕ) → is_astray old.bits 0 slot ≡ false → first' ≡ record first { slots = set first.slots place slot } → SameSlots first'.slots (slot ∷ first.slots) → AreReached first'.slots (length first'.slots) → IsParted old first' second (seen ++ slot ∷ []) one two
  to_first first' place straight is same reached =
      record {
        low = half_grows old first first' 0 place slot parted.low straight is same reached;
        high = parted.high;
        free = ap (λ (x : Bucket). x.free) is ∙ parted.free;
        loose = parted.loose;
        slots =
            λ p e.
            let a = count-append p seen (slot ∷ []) in
            let b = count-append p first.slots second.slots in
            let c = count-append p first'.slots second.slots in
            let s = parted.slots p e in
            let m = same p e in
            omega (arith, a, b, c, s, m);
      }

  pub to_second : (second' : Bucket) (place : ℕ) → is_astray old.bits 1 slot ≡ false → second' ≡ record second { slots = set second.slots place slot } → SameSlots second'.slots (slot ∷ second.slots) → AreReached second'.slots (length second'.slots) → IsParted old first second' (seen ++ slot ∷ []) one two
  to_second second' place straight is same reached =
      record {
        low = parted.low;
        high = half_grows old second second' 1 place slot parted.high straight is same reached;
        free = parted.free;
        loose = ap (λ (x : Bucket). x.free) is ∙ parted.loose;
        slots =
            λ p e.
            let a = count-append p seen (slot ∷ []) in
            let b = count-append p first.slots second.slots in
            let c = count-append p first.slots second'.slots in
            let s = parted.slots p e in
            let m = same p e in
            omega (arith, a, b, c, s, m);
      }

  -- each half has room
  room : length seen < length old.slots → count is_full first.slots + count is_full second.slots < length old.slots
  room more =
      let s = parted.slots is_full refl in
      let b = count-append is_full first.slots second.slots in
      let l = count-le is_full seen in
      omega (arith, s, b, l, more)

  pub room_first : length seen < length old.slots → count is_full first.slots < length first.slots
  room_first more = let r = room more in let e = parted.low.elems in omega (arith, r, e)

  pub room_second : length seen < length old.slots → count is_full second.slots < length second.slots
  room_second more = let r = room more in let e = parted.high.elems in omega (arith, r, e)

pub other_side : (bits : ℕ) (slot : Slot) → is_astray bits 0 slot ≡ true → is_astray bits 1 slot ≡ false
other_side bits Empty e = refl
other_side bits (Full hash start at k v) e = bit_sides (hash / 2 ^ (31 - (bits + 1))) e

pub splits : (old first second : Bucket) (one two : List Extent) → IsParted old first second old.slots one two → AreHalves old first second
splits old first second one two parted = record { low = parted.low; high = parted.high; slots = parted.slots }
