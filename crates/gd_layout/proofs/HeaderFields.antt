-- What a header without a fault says of its fields.
use mir.Val.{sel}
use Rattle.std.proofs.Common.{◌≡◌, ℕ, ◌+◌, ◌-◌, ◌^◌, ◌<◌, ◌≤◌, Bool, true, false, not, List, [], ◌∷◌, None, refl, arith}
use Rattle.std.proofs.Math.Pow.{pow_mono}
use Rattle.std.proofs.lemmas.Bool.{leb-true, ltb-true, ltb-false}
use Rattle.std.proofs.lemmas.Bool.Decides.{Decides-eqb}
use Rattle.std.specs.Prelude.{ℤ, pos, negsuc, nat_lt}
use Rattle.std.specs.List.{AllByRecursion}
use Rattle.gd_format.specs.First.{first_that_holds}
use Rattle.gd_format.specs.Field.{u32_at, i32_at, i64_at, u64_at}
use Rattle.gd_format.specs.HeaderFault.{capacity_at, is_native, is_table_right, table_place, table_room, header_at, header_of, header_tests, header_fault_of, is_within, is_number, natural, is_block_size, is_dir_in, are_sizes_right, dir_size_of, slots_of}
use Rattle.gd_format.proofs.Firsts.{and-true}
use Rattle.gd_layout.specs.Fits.{FitsHeader, IsHeaderOf}

none_holds : {E : Type 0} (ts : List (Bool × E)) → first_that_holds ts ≡ None → AllByRecursion (λ t. t.0 ≡ false) ts
none_holds [] h = tt
none_holds ((true, e) ∷ ts) h = absurd cc
none_holds ((false, e) ∷ ts) h = (refl, none_holds ts h)

not_false : (b : Bool) → not b ≡ false → b ≡ true
not_false true h = refl
not_false false h = absurd cc

within : (z : ℤ) (low high : ℕ) → is_within z low high ≡ true → (low ≤ natural z) × (natural z ≤ high)
within (pos n) low high h = let both = and-true _ _ h in (leb-true low n both.0, leb-true n high both.1)
within (negsuc n) low high h = absurd cc

within_pos : (z : ℤ) (low high : ℕ) → is_within z low high ≡ true → z ≡ pos (natural z)
within_pos (pos n) low high h = refl
within_pos (negsuc n) low high h = absurd cc

number : (z : ℤ) (n : ℕ) → is_number z n ≡ true → natural z ≡ n
number (pos m) n h = (Decides-eqb m n).0 h
number (negsuc m) n h = absurd cc

-- a field with a sign, as a number from 0 on
half : (t : Bool) (n m k : ℕ) → 0 < k → (t ≡ true → n < k) → natural (sel t (pos n) (negsuc m)) < k
half true n m k some h = h refl
half false n m k some h = some

small_32 : (b : List ℕ) (at : ℕ) → natural (i32_at b at) < 2 ^ 31
unfolding i32_at
small_32 b at = half (nat_lt (u32_at b at) (2 ^ 31)) (u32_at b at) _ (2 ^ 31) (omega arith) (ltb-true (u32_at b at) (2 ^ 31))

small_64 : (b : List ℕ) (at : ℕ) → natural (i64_at b at) < 2 ^ 63
unfolding i64_at
small_64 b at = half (nat_lt (u64_at b at) (2 ^ 63)) (u64_at b at) _ (2 ^ 63) (omega arith) (ltb-true (u64_at b at) (2 ^ 63))

module _ (front : List ℕ) (len : ℕ) (none : header_fault_of front len ≡ None) where
  block_right : is_block_size (i32_at front 4) ≡ true
  unfolding header_fault_of
  block_right = not_false _ (none_holds (header_tests front len) none).1.1.1.1.1.0

  native : is_native (u32_at front 0) ≡ true
  unfolding header_fault_of
  native = not_false _ (none_holds (header_tests front len) none).1.1.1.0

  large : natural (i32_at front 4) ≤ len
  unfolding header_fault_of
  large = ltb-false _ _ (none_holds (header_tests front len) none).1.1.1.1.1.1.0

  dir_right : is_dir_in (header_at front) len ≡ true
  unfolding header_fault_of
  dir_right = not_false _ (none_holds (header_tests front len) none).1.1.1.1.1.1.1.0

  sizes_right : are_sizes_right (header_at front) ≡ true
  unfolding header_fault_of
  sizes_right = not_false _ (none_holds (header_tests front len) none).1.1.1.1.1.1.1.1.0

  next_right : is_within (i64_at front 32) 0 (2 ^ 46) ≡ true
  unfolding header_fault_of
  next_right = not_false _ (none_holds (header_tests front len) none).1.1.1.1.1.1.1.1.1.0

  table_right : is_table_right front ≡ true
  unfolding header_fault_of
  table_right = not_false _ (none_holds (header_tests front len) none).1.1.1.1.1.1.1.1.1.1.0

  bits_few : natural (i32_at front 20) ≤ 24
  unfolding is_dir_in
  bits_few = (within (i32_at front 20) 0 24 (and-true _ _ (and-true _ _ (and-true _ _ dir_right).0).0).0).1

  dir_room : natural (i64_at front 8) + dir_size_of (natural (i32_at front 20)) ≤ len
  unfolding is_dir_in
  dir_room =
      let a = and-true _ _ dir_right in
      let room : dir_size_of (natural (i32_at front 20)) ≤ len = leb-true (dir_size_of (natural (i32_at front 20))) len (and-true _ _ a.0).1 in
      let place : natural (i64_at front 8) ≤ len - dir_size_of (natural (i32_at front 20)) = (within (i64_at front 8) 0 (len - dir_size_of (natural (i32_at front 20))) a.1).1 in
      (omega (arith, room, place))

  elems_are : natural (i32_at front 28) ≡ slots_of (natural (i32_at front 4))
  unfolding are_sizes_right
  elems_are = number (i32_at front 28) (slots_of (natural (i32_at front 4))) (and-true _ _ sizes_right).1

  table_within : (2 ≤ natural (capacity_at front)) × (natural (capacity_at front) ≤ table_room (u32_at front 0) (natural (i32_at front 4)))
  unfolding is_table_right
  table_within = within (capacity_at front) 2 (table_room (u32_at front 0) (natural (i32_at front 4))) table_right

  block_is : i32_at front 4 ≡ pos (natural (i32_at front 4))
  unfolding is_block_size
  block_is = within_pos (i32_at front 4) 512 1048576 (and-true _ _ block_right).0

  pub header_fits : FitsHeader (header_of front)
  unfolding header_of
  header_fits =
      let bits = bits_few in
      record {
        format = refl;
        block = small_32 front 4;
        dir = small_64 front 8;
        bits = omega (arith, bits);
        elems = small_32 front 28;
        next_block = small_64 front 32;
        avail_size = small_32 front (table_place (u32_at front 0));
        words = λ standard. rw standard (refl, refl, refl);
      }

  pub header_native : is_native (header_of front).magic ≡ true
  unfolding header_of
  header_native = native

  pub header_is : IsHeaderOf (header_of front) len
  unfolding header_of
  header_is =
      let bits = bits_few in
      let small : 2 ^ natural (i32_at front 20) ≤ 2 ^ 24 = pow_mono {i = natural (i32_at front 20)} {j = 24} bits in
      let dir = small_64 front 8 in
      record {
        header =
            record {
              block = rw (← block_is) block_right;
              bits = bits;
              dir = omega (arith, small, dir);
              elems = elems_are;
              next_block = (within (i64_at front 32) 0 (2 ^ 46) next_right).1;
              least = table_within.0;
              most = table_within.1;
            };
        magic = native;
        block = large;
        dir = dir_room;
      }
