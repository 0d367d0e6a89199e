-- What a header without a fault says.
use Rattle.std.proofs.Common.{◌≡◌, ℕ, ◌+◌, ◌-◌, ◌*◌, ◌/◌, ◌^◌, ◌≤◌, Bool, true, false, not, List, [], ◌∷◌, None, refl, arith}
use Rattle.std.specs.Prelude.{ℤ, pos, negsuc}
use Rattle.std.proofs.lemmas.Bool.{leb-true, ltb-false}
use Rattle.std.proofs.lemmas.Bool.Decides.{Decides-eqb}
use Rattle.gd_format.specs.First.{first_that_holds}
use Rattle.std.specs.List.{AllByRecursion}
use Rattle.gd_format.specs.HeaderFault.{header_at, header_of, header_tests, header_fault_of, is_within, is_number, natural, is_block_size, is_dir_in, are_sizes_right, dir_size_of, slots_of, is_table_right, capacity_at, table_room}
use Rattle.gd_format.specs.Field.{u32_at, i32_at}
use Rattle.gd_format.proofs.Firsts.{and-true}
use Rattle.gd_file_laws.specs.Sizes.{IsHeaderIn}

pub none_holds : {E : Type 0} (ts : List (Bool × E)) → first_that_holds ts ≡ None → AllByRecursion (λ t. t.0 ≡ false) ts
none_holds [] h = tt
none_holds ((true, e) ∷ ts) h = absurd cc
none_holds ((false, e) ∷ ts) h = (refl, none_holds ts h)

pub not_false : (b : Bool) → not b ≡ false → b ≡ true
not_false true h = refl
not_false false h = absurd cc

pub within : (z : ℤ) (low high : ℕ) → is_within z low high ≡ true → (low ≤ natural z) × (natural z ≤ high)
within (pos n) low high h = let both = and-true _ _ h in (leb-true low n both.0, leb-true n high both.1)
within (negsuc n) low high h = absurd cc

pub number : (z : ℤ) (n : ℕ) → is_number z n ≡ true → natural z ≡ n
number (pos m) n h = (Decides-eqb m n).0 h
number (negsuc m) n h = absurd cc

pub slots_fit : (block elems : ℕ) → 512 ≤ block → elems ≡ (block - 112) / 24 → 112 + 24 * elems ≤ block
slots_fit block elems h e = omega (arith, e)

dir_fits : (dir size len : ℕ) → size ≤ len → dir ≤ len - size → dir + size ≤ len
dir_fits dir size len room place = omega (arith, room, place)

pub header_in : (front : List ℕ) (len : ℕ) → header_fault_of front len ≡ None → IsHeaderIn (header_of front) len
unfolding header_fault_of header_of is_block_size is_dir_in are_sizes_right is_table_right
header_in front len none =
    let all = none_holds (header_tests front len) none in
    let after_five = all.1.1.1.1.1 in
    let f = after_five in
    let i = after_five.1.1 in
    let j = i.1 in
    let block = within (header_at front).block 512 1048576 (and-true _ _ (not_false _ f.0)).0 in
    let dir = not_false _ i.0 in
    let dir_a = and-true _ _ dir in
    let dir_b = and-true _ _ dir_a.0 in
    let dir_c = and-true _ _ dir_b.0 in
    let bits = within (header_at front).dir_bits 0 24 dir_c.0 in
    let room = leb-true (dir_size_of (natural (header_at front).dir_bits)) len dir_b.1 in
    let place = within (header_at front).dir 0 (len - dir_size_of (natural (header_at front).dir_bits)) dir_a.1 in
    let elems = number (header_at front).elems (slots_of (natural (header_at front).block)) (and-true _ _ (not_false _ j.0)).1 in
    let next = within (header_at front).next_block 0 (2 ^ 46) (not_false _ j.1.0) in
    let table = within (capacity_at front) 2 (table_room (u32_at front 0) (natural (i32_at front 4))) (not_false _ j.1.1.0) in
    record {
      bits = bits.1;
      least = block.0;
      large = block.1;
      fits = ltb-false _ _ after_five.1.0;
      elems = elems;
      slots = slots_fit (natural (header_at front).block) (natural (header_at front).elems) block.0 elems;
      dir = dir_fits (natural (header_at front).dir) (dir_size_of (natural (header_at front).dir_bits)) len room place.1;
      next = next.1;
      table_least = table.0;
      table_most = table.1;
    }
