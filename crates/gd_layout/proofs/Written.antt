-- What is read where a slot, a free extent or a bucket was written.
use Rattle.std.proofs.Common.{◌≡◌, ℕ, zero, suc, ◌+◌, ◌*◌, ◌^◌, ◌<◌, ◌≤◌, Bool, true, false, not, cond, List, [], ◌∷◌, ◌++◌, length, take, refl, sym, ap, ◌∙◌, arith, add-one}
use Rattle.std.proofs.lemmas.Bool.{le-leb}
use Rattle.std.proofs.lemmas.Bool.Decides.{Decides-eqb}
use Rattle.std.specs.Prelude.{pos, negsuc}
use Rattle.std.specs.Int.{w32, cast_signed}
use Rattle.gd_format.specs.declared.Extent.{Extent}
use Rattle.gd_format.specs.declared.Slot.{Slot}
use Rattle.gd_format.specs.declared.Slot.TheVariants.{Empty, Full}
use Rattle.gd_format.specs.First.{list_below, all_below, count_below}
use Rattle.gd_format.specs.Field.{bytes_at, u32_at, u64_at, i32_at, i64_at}
use Rattle.gd_format.specs.Bucket.{raw_slot_at, raw_free_at, is_empty_hash, slot_of, extent_of, is_slot_signed_right, slots_at, free_at, are_slots_right, bucket_at, is_bucket}
use Rattle.gd_format.specs.File.{is_full_at, is_count_right}
use Rattle.gd_format.specs.Slots.{count, is_full}
use Rattle.gd_format.proofs.Firsts.{both_true}
use Rattle.gd_layout.specs.Writing.{ArePut, raw_slot_from, raw_extent_from}
use Rattle.gd_layout.proofs.PutExtents.{list_put}
use Rattle.gd_layout.proofs.Pieces.{bytes_at-front, u32_at-front, u64_at-front, i32_at-front, i64_at-front, take-front, i32_is, i64_is}

-- ---- one slot, one extent

module _ (b1 b2 b3 b4 b5 : List ℕ) (at h a k v : ℕ) (start : List ℕ) (r1 : u32_at b1 at ≡ h) (r2 : bytes_at b2 (at + 4) 4 ≡ start) (r3 : u64_at b3 (at + 8) ≡ a) (r4 : u32_at b4 (at + 16) ≡ k) (r5 : u32_at b5 (at + 20) ≡ v) (f2 : take (at + 4) b2 ≡ take (at + 4) b1) (f3 : take (at + 8) b3 ≡ take (at + 8) b2) (f4 : take (at + 16) b4 ≡ take (at + 16) b3) (f5 : take (at + 20) b5 ≡ take (at + 20) b4) (lh : h < 2 ^ 31) (la : a < 2 ^ 63) (lk : k < 2 ^ 31) (lv : v < 2 ^ 31) where
  from_3 : take (at + 16) b5 ≡ take (at + 16) b3
  from_3 = take-front (at + 16) (at + 20) b5 b4 (omega arith) f5 ∙ f4

  from_2 : take (at + 8) b5 ≡ take (at + 8) b2
  from_2 = take-front (at + 8) (at + 16) b5 b3 (omega arith) from_3 ∙ f3

  from_1 : take (at + 4) b5 ≡ take (at + 4) b1
  from_1 = take-front (at + 4) (at + 8) b5 b2 (omega arith) from_2 ∙ f2

  full_raw : raw_slot_from b5 at ≡ record { hash = pos h; start = start; at = pos a; key_size = pos k; value_size = pos v }
  unfolding raw_slot_from
  full_raw =
      let e1 = i32_is b5 at h (u32_at-front at (at + 4) b5 b1 (omega arith) from_1 ∙ r1) lh in
      let e2 = bytes_at-front (at + 4) 4 (at + 8) b5 b2 (omega arith) from_2 ∙ r2 in
      let e3 = i64_is b5 (at + 8) a (u64_at-front (at + 8) (at + 16) b5 b3 (omega arith) from_3 ∙ r3) la in
      let e4 = i32_is b5 (at + 16) k (u32_at-front (at + 16) (at + 20) b5 b4 (omega arith) f5 ∙ r4) lk in
      let e5 = i32_is b5 (at + 20) v r5 lv in
      rw (e1, e2, e3, e4, e5) refl

  pub full_reads : slot_of (raw_slot_from b5 at) ≡ Full h start a k v
  unfolding slot_of
  full_reads = ap slot_of full_raw

  pub full_right : is_slot_signed_right (raw_slot_from b5 at) ≡ true
  unfolding is_slot_signed_right
  full_right = ap is_slot_signed_right full_raw

  pub full_front : (b0 : List ℕ) → take at b1 ≡ take at b0 → take at b5 ≡ take at b0
  full_front b0 e = take-front at (at + 4) b5 b1 (omega arith) from_1 ∙ e

module _ (b : List ℕ) (at : ℕ) (r : u32_at b at ≡ 4294967295) where
  empty_hash : i32_at b at ≡ negsuc 0
  unfolding i32_at
  empty_hash = ap (cast_signed w32) r

  pub empty_reads : slot_of (raw_slot_from b at) ≡ Empty
  unfolding slot_of raw_slot_from
  empty_reads = rw empty_hash refl

  pub empty_right : is_slot_signed_right (raw_slot_from b at) ≡ true
  unfolding is_slot_signed_right raw_slot_from
  empty_right = rw empty_hash refl

-- ---- the lists

list_below-same : {X : Type 0} (n : ℕ) (f g : ℕ → X) → ((k : ℕ) → k < n → f k ≡ g k) → list_below n f ≡ list_below n g
list_below-same zero f g h = refl
list_below-same (suc n) f g h = rw (list_below-same n f g (λ k lt. h k (omega arith)), h n (omega arith)) refl

all_below-same : (n : ℕ) (f g : ℕ → Bool) → ((k : ℕ) → k < n → f k ≡ g k) → all_below n f ≡ all_below n g
all_below-same zero f g h = refl
all_below-same (suc n) f g h = rw (all_below-same n f g (λ k lt. h k (omega arith)), h n (omega arith)) refl

pub slot_place : (b : List ℕ) (s : ℕ) → raw_slot_at b s ≡ raw_slot_from b (112 + 24 * s)
unfolding raw_slot_at raw_slot_from
slot_place b s = refl

free_place : (b : List ℕ) (e : ℕ) → raw_free_at b e ≡ raw_extent_from b (8 + 16 * e)
unfolding raw_free_at raw_extent_from
free_place b e = ap (λ (x : ℕ). record { size = i32_at b (8 + 16 * e); at = i64_at b x }) (omega arith)

module _ (xs ys : List ℕ) (n : ℕ) where
  raw_slot-front : take (112 + 24 * n) xs ≡ take (112 + 24 * n) ys → (s : ℕ) → s < n → raw_slot_at xs s ≡ raw_slot_at ys s
  unfolding raw_slot_at
  raw_slot-front e s lt =
      let m : ℕ = 112 + 24 * n in
      let e1 = i32_at-front (112 + 24 * s) (112 + 24 * n) xs ys (omega arith) e in
      let e2 = bytes_at-front (112 + 24 * s + 4) 4 (112 + 24 * n) xs ys (omega arith) e in
      let e3 = i64_at-front (112 + 24 * s + 8) (112 + 24 * n) xs ys (omega arith) e in
      let e4 = i32_at-front (112 + 24 * s + 16) (112 + 24 * n) xs ys (omega arith) e in
      let e5 = i32_at-front (112 + 24 * s + 20) (112 + 24 * n) xs ys (omega arith) e in
      rw (e1, e2, e3, e4, e5) refl

  slots-front : take (112 + 24 * n) xs ≡ take (112 + 24 * n) ys → slots_at xs n ≡ slots_at ys n
  slots-front e = list_below-same n (λ s. slot_of (raw_slot_at xs s)) (λ s. slot_of (raw_slot_at ys s)) (λ s lt. ap slot_of (raw_slot-front e s lt))

  right-front : take (112 + 24 * n) xs ≡ take (112 + 24 * n) ys → are_slots_right xs n ≡ are_slots_right ys n
  right-front e = all_below-same n (λ s. is_slot_signed_right (raw_slot_at xs s)) (λ s. is_slot_signed_right (raw_slot_at ys s)) (λ s lt. ap is_slot_signed_right (raw_slot-front e s lt))

  raw_free-front : take (8 + 16 * n) xs ≡ take (8 + 16 * n) ys → (s : ℕ) → s < n → raw_free_at xs s ≡ raw_free_at ys s
  unfolding raw_free_at
  raw_free-front e s lt =
      let e1 = i32_at-front (8 + 16 * s) (8 + 16 * n) xs ys (omega arith) e in
      let e2 = i64_at-front (16 + 16 * s) (8 + 16 * n) xs ys (omega arith) e in
      rw (e1, e2) refl

  pub free-front : take (8 + 16 * n) xs ≡ take (8 + 16 * n) ys → free_at xs n ≡ free_at ys n
  free-front e = list_below-same n (λ s. extent_of (raw_free_at xs s)) (λ s. extent_of (raw_free_at ys s)) (λ s lt. ap extent_of (raw_free-front e s lt))

-- one more slot
pub slots_more : (xs ys : List ℕ) (n : ℕ) (slots : List Slot) (slot : Slot) → take (112 + 24 * n) ys ≡ take (112 + 24 * n) xs → slots_at xs n ≡ slots → slot_of (raw_slot_from ys (112 + 24 * n)) ≡ slot → slots_at ys (n + 1) ≡ slots ++ slot ∷ []
slots_more xs ys n slots slot f old new =
    let e = slots-front ys xs n f ∙ old in
    let g : slot_of (raw_slot_at ys n) ≡ slot = ap slot_of (slot_place ys n) ∙ new in
    rw (add-one, e, g) refl

pub right_more : (xs ys : List ℕ) (n : ℕ) → take (112 + 24 * n) ys ≡ take (112 + 24 * n) xs → are_slots_right xs n ≡ true → is_slot_signed_right (raw_slot_from ys (112 + 24 * n)) ≡ true → are_slots_right ys (n + 1) ≡ true
right_more xs ys n f old new =
    let e = right-front ys xs n f ∙ old in
    let g : is_slot_signed_right (raw_slot_at ys n) ≡ true = ap is_slot_signed_right (slot_place ys n) ∙ new in
    rw add-one (both_true _ _ e g)

-- ---- counts

count-append : {X : Type 0} (p : X → Bool) (xs ys : List X) → count p (xs ++ ys) ≡ count p xs + count p ys
count-append p [] ys = omega arith
count-append p (x ∷ xs) ys = let ih = count-append p xs ys in omega (arith, ih)

pub count_push : {X : Type 0} (p : X → Bool) (xs : List X) (x : X) → count p (xs ++ x ∷ []) ≡ count p xs + cond (p x) 1 0
count_push p xs x = let e = count-append p xs (x ∷ []) in omega (arith, e)

full_slot : (e : Bool) (slot : Slot) → is_full (cond e Empty slot) ≡ cond e false (is_full slot)
full_slot true slot = refl
full_slot false slot = refl

not_as_cond : (e : Bool) → cond e false true ≡ not e
not_as_cond true = refl
not_as_cond false = refl

full_is : (block : List ℕ) (s : ℕ) → is_full (slot_of (raw_slot_at block s)) ≡ is_full_at block s
unfolding slot_of is_full_at
full_is block s = full_slot (is_empty_hash (raw_slot_at block s).hash) _ ∙ not_as_cond (is_empty_hash (raw_slot_at block s).hash)

pub full_below : (block : List ℕ) (n : ℕ) → count_below n (is_full_at block) ≡ count is_full (slots_at block n)
full_below block zero = refl
full_below block (suc n) =
    let ih = full_below block n in
    let one = count_push is_full (slots_at block n) (slot_of (raw_slot_at block n)) in
    let f = ap {B = ℕ} (λ (b : Bool). cond b 1 0) (full_is block n) in
    omega (arith, ih, one, f)

-- ---- the bucket

pub free_put : (block : List ℕ) (free : List Extent) → ArePut block 8 free → free_at block (length free) ≡ free
free_put block free put = list_put block 8 free put (λ e. extent_of (raw_free_at block e)) (λ e. ap extent_of (free_place block e))

module _ (b2 b3 b4 b5 : List ℕ) (n bits full : ℕ) (free : List Extent) (slots : List Slot) (r0 : u32_at b2 0 ≡ length free) (r1 : free_at b2 (length free) ≡ free) (r2 : u32_at b3 104 ≡ bits) (r3 : u32_at b4 108 ≡ full) (f3 : take 104 b3 ≡ take 104 b2) (f4 : take 108 b4 ≡ take 108 b3) (f5 : take 112 b5 ≡ take 112 b4) (few : length free ≤ 6) (least : bits ≤ 24) (some : full < 2 ^ 31) (reads : slots_at b5 n ≡ slots) (right : are_slots_right b5 n ≡ true) (count_is : full ≡ count is_full slots) where
  front_3 : take 108 b5 ≡ take 108 b3
  front_3 = take-front 108 112 b5 b4 (omega arith) f5 ∙ f4

  front_2 : take 104 b5 ≡ take 104 b2
  front_2 = take-front 104 108 b5 b3 (omega arith) front_3 ∙ f3

  free_number : i32_at b5 0 ≡ pos (length free)
  free_number = i32_is b5 0 (length free) (u32_at-front 0 104 b5 b2 (omega arith) front_2 ∙ r0) (omega arith)

  bits_number : i32_at b5 104 ≡ pos bits
  bits_number = i32_is b5 104 bits (u32_at-front 104 108 b5 b3 (omega arith) front_3 ∙ r2) (omega arith)

  full_number : i32_at b5 108 ≡ pos full
  full_number = i32_is b5 108 full (u32_at-front 108 112 b5 b4 (omega arith) f5 ∙ r3) some

  free_reads : free_at b5 (length free) ≡ free
  free_reads = free-front b5 b2 (length free) (take-front (8 + 16 * length free) 104 b5 b2 (omega arith) front_2) ∙ r1

  pub bucket_reads : bucket_at b5 n ≡ record { bits = bits; free = free; slots = slots }
  unfolding bucket_at
  bucket_reads = rw (free_number, bits_number, free_reads, reads) refl

  pub bucket_right : is_bucket b5 n ≡ true
  unfolding is_bucket
  bucket_right =
      rw (free_number, bits_number)
      (both_true _ _ (both_true _ _ (both_true _ _ (le-leb 0 (length free) (omega arith)) (le-leb (length free) 6 few)) (both_true _ _ (le-leb 0 bits (omega arith)) (le-leb bits 24 least))) right)

  pub count_right : is_count_right b5 n ≡ true
  unfolding is_count_right
  count_right = rw full_number ((Decides-eqb full _).1 (count_is ∙ ap (count is_full) (sym reads) ∙ sym (full_below b5 n)))
