-- What the directory and the bucket of a new file read as.
use Rattle.std.proofs.Common.{◌≡◌, ℕ, zero, suc, ◌+◌, ◌-◌, ◌*◌, ◌^◌, ◌<◌, ◌≤◌, Bool, true, false, not, List, [], ◌∷◌, ◌++◌, length, replicate, refl, sym, ap, ◌∙◌, arith, add-one, length-append}
use Rattle.std.proofs.lemmas.Bool.Decides.{nat_tests}
use Rattle.std.proofs.lemmas.Int.{ints}
use Rattle.std.proofs.lemmas.List.{length-replicate, replicate_more}
use Rattle.std.specs.Prelude.{pos, negsuc}
use Rattle.std.specs.Int.{w32, w64, cast_signed, cast_unsigned}
use Rattle.byteorder.specs.Endian.{little_bytes}
use Rattle.gd_format.specs.declared.Extent.{Extent}
use Rattle.gd_format.specs.declared.Slot.TheVariants.{Empty}
use Rattle.gd_format.specs.First.{all_below, count_below}
use Rattle.gd_format.specs.Field.{number_of, u32_at, u64_at, i32_at, i64_at}
use Rattle.gd_format.specs.HeaderFault.{natural, slots_of}
use Rattle.gd_format.specs.Bucket.{bucket_at, slot_of, counts_at, raw_slot_at, raw_free_at, is_empty_hash, is_slot_signed_right, slots_at, extent_of, is_bucket}
use Rattle.gd_format.specs.Avail.{is_extent_right}
use Rattle.gd_format.specs.File.{bits_at, is_full_at, is_count_right}
use Rattle.gd_format.specs.Slots.{count, is_full}
use Rattle.gd_format.specs.Sound.{extent}
use Rattle.gd_format.proofs.Firsts.{all_below_from, both_true}
use Rattle.gd_map_laws.specs.Space.{free_in}
use Rattle.gd_layout.proofs.Pieces.{i32_is, i64_is}
use Rattle.gd_layout.proofs.Written.{full_below}
use Rattle.gd_file_laws.proofs.Frame.{bytes_at-front, bytes_at-back}
use Rattle.gd_create.specs.NewFile.{IsNewBlock, zeros, repeated, slot_bytes, dir_bytes, bucket_bytes}
use Rattle.gd_create.proofs.Numbers.{back_4, back_8, length-repeated, repeated-at}
use Rattle.gd_create.proofs.Powers.{bounds}

-- ---- the directory

pub length-dir : (block bits : ℕ) → IsNewBlock block bits → length (dir_bytes block bits) ≡ block
unfolding dir_bytes
length-dir block bits is = length-repeated (little_bytes 8 (2 * block)) 8 (2 ^ bits) refl ∙ sym is.size

pub dir_entry : (block bits i : ℕ) → IsNewBlock block bits → i < 2 ^ bits → i64_at (dir_bytes block bits) (8 * i) ≡ pos (2 * block)
unfolding dir_bytes u64_at
dir_entry block bits i is lt =
    let b = bounds block bits is in
    let most = b.most in
    let bs = repeated-at (little_bytes 8 (2 * block)) 8 (2 ^ bits) i 8 refl lt (omega arith) in
    i64_is (dir_bytes block bits) (8 * i) (2 * block) (ap number_of bs ∙ back_8 (2 * block) (omega (arith, most))) (omega (arith, most))

-- ---- the bucket

none_below : (p : ℕ → Bool) (n : ℕ) → ((k : ℕ) → k < n → p k ≡ false) → count_below n p ≡ 0
none_below p zero h = refl
none_below p (suc n) h = let ih = none_below p n (λ k lt. h k (omega arith)) in let e = h n (omega arith) in rw e (omega (arith, ih))

some_right : (block : ℕ) → 512 ≤ block → is_extent_right (record { size = pos block; at = pos (3 * block) }) ≡ true
unfolding is_extent_right
some_right block least = grind (arith, nat_tests)

module _ (block : ℕ) (least : 512 ≤ block) (most : block ≤ 1048576) where
  abbrev elems : ℕ
  elems = slots_of block

  -- what stands before the slots
  abbrev head : List ℕ
  head = little_bytes 4 1 ++ zeros 4 ++ little_bytes 4 block ++ zeros 4 ++ little_bytes 8 (3 * block) ++ zeros 80 ++ little_bytes 4 0 ++ little_bytes 4 0

  abbrev rest : List ℕ
  rest = zeros (block - (112 + 24 * slots_of block))

  bucket : List ℕ
  bucket = bucket_bytes block

  slots_fit : 112 + 24 * slots_of block ≤ block
  slots_fit = omega arith

  length-before : length (head ++ repeated (slots_of block) slot_bytes) ≡ 112 + 24 * slots_of block
  length-before =
      let r = length-repeated slot_bytes 24 (slots_of block) refl in
      let a = length-append head (repeated (slots_of block) slot_bytes) in
      omega (arith, r, a)

  pub length-bucket : length (bucket_bytes block) ≡ block
  unfolding bucket_bytes
  length-bucket =
      let fit = slots_fit in
      let before = length-before in
      let z = length-replicate {A = ℕ} (block - (112 + 24 * slots_of block)) 0 in
      length-append (head ++ repeated (slots_of block) slot_bytes) rest ∙ omega (arith, before, z, fit)

  slot_hash : (s : ℕ) → s < slots_of block → i32_at (bucket_bytes block) (112 + 24 * s) ≡ negsuc 0
  unfolding bucket_bytes i32_at u32_at
  slot_hash s lt =
      let before = length-before in
      let bytes = bytes_at-front (head ++ repeated (slots_of block) slot_bytes) rest (112 + 24 * s) 4 (omega (arith, before, lt))
      ∙ bytes_at-back head (repeated (slots_of block) slot_bytes) (112 + 24 * s) (24 * s) 4 refl
      ∙ repeated-at slot_bytes 24 (slots_of block) s 4 refl lt (omega arith) in
      ap (λ (zs : List ℕ). cast_signed w32 (number_of zs)) bytes

  is_empty : (s : ℕ) → s < slots_of block → is_empty_hash (raw_slot_at (bucket_bytes block) s).hash ≡ true
  unfolding raw_slot_at
  is_empty s lt = ap is_empty_hash (slot_hash s lt)

  not_full : (s : ℕ) → s < slots_of block → is_full_at (bucket_bytes block) s ≡ false
  unfolding is_full_at
  not_full s lt = ap not (is_empty s lt)

  slot_right : (s : ℕ) → s < slots_of block → is_slot_signed_right (raw_slot_at (bucket_bytes block) s) ≡ true
  unfolding is_slot_signed_right
  slot_right s lt = rw (is_empty s lt) refl

  no_full : count_below (slots_of block) (is_full_at (bucket_bytes block)) ≡ 0
  no_full = none_below (is_full_at (bucket_bytes block)) (slots_of block) not_full

  pub no_slots : count is_full (slots_at (bucket_bytes block) (slots_of block)) ≡ 0
  no_slots = sym (full_below (bucket_bytes block) (slots_of block)) ∙ no_full

  free_count : i32_at (bucket_bytes block) 0 ≡ pos 1
  unfolding bucket_bytes i32_at u32_at
  free_count = refl

  bits_count : i32_at (bucket_bytes block) 104 ≡ pos 0
  unfolding bucket_bytes i32_at u32_at
  bits_count = refl

  full_count : i32_at (bucket_bytes block) 108 ≡ pos 0
  unfolding bucket_bytes i32_at u32_at
  full_count = refl

  pub no_bits : bits_at (bucket_bytes block) ≡ 0
  no_bits = ap natural bits_count

  pub right : is_bucket (bucket_bytes block) (slots_of block) ≡ true
  unfolding is_bucket
  right =
      let slots = all_below_from (λ s. is_slot_signed_right (raw_slot_at (bucket_bytes block) s)) (slots_of block) slot_right in
      rw (free_count, bits_count) (both_true _ _ refl slots)

  pub number : is_count_right (bucket_bytes block) (slots_of block) ≡ true
  unfolding is_count_right
  number = rw (full_count, no_full) refl

  raw_free : raw_free_at (bucket_bytes block) 0 ≡ record { size = pos block; at = pos (3 * block) }
  unfolding raw_free_at bucket_bytes u32_at u64_at
  raw_free =
      let e1 : i32_at (bucket_bytes block) 8 ≡ pos block = i32_is (bucket_bytes block) 8 block (back_4 block (omega arith)) (omega arith) in
      let e2 : i64_at (bucket_bytes block) 16 ≡ pos (3 * block) = i64_is (bucket_bytes block) 16 (3 * block) (back_8 (3 * block) (omega arith)) (omega arith) in
      rw (e1, e2) refl

  free_extent : extent_of (raw_free_at (bucket_bytes block) 0) ≡ extent (3 * block) block
  unfolding extent_of
  free_extent =
      let n : cast_unsigned w32 (pos block) ≡ block = search ints in
      let a : cast_unsigned w64 (pos (3 * block)) ≡ 3 * block = search ints in
      ap extent_of raw_free ∙ rw (n, a) refl

  pub free : free_in (bucket_bytes block) ≡ extent (3 * block) block ∷ []
  free = rw free_count (ap (λ (e : Extent). e ∷ []) free_extent)

  pub free_right : all_below (natural (counts_at (bucket_bytes block)).free) (λ e. is_extent_right (raw_free_at (bucket_bytes block) e)) ≡ true
  free_right =
      let one : is_extent_right (raw_free_at (bucket_bytes block) 0) ≡ true = ap is_extent_right raw_free ∙ some_right block least in
      rw free_count one

  slots_empty : (n : ℕ) → n ≤ slots_of block → slots_at (bucket_bytes block) n ≡ replicate n Empty
  unfolding slot_of
  slots_empty zero le = refl
  slots_empty (suc n) le =
      let ih = slots_empty n (omega arith) in
      let one = is_empty n (omega arith) in
      rw (ih, one) (replicate_more n Empty ∙ ap (λ (k : ℕ). replicate k Empty) (add-one n))

  pub bucket_reads : bucket_at (bucket_bytes block) (slots_of block) ≡ record { bits = 0; free = extent (3 * block) block ∷ []; slots = replicate (slots_of block) Empty }
  unfolding bucket_at
  bucket_reads =
      let bits = no_bits in
      let gap = free in
      let slots = slots_empty (slots_of block) (omega arith) in
      rw (bits, gap, slots) refl
