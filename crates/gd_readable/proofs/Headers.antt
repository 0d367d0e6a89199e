-- What a header without a fault says.
use Rattle.std.proofs.Common.{◌≡◌, ℕ, ◌+◌, ◌-◌, ◌*◌, ◌^◌, ◌<◌, ◌≤◌, true, List, None, refl, arith}
use Rattle.std.specs.Prelude.{ℤ, pos, negsuc}
use Rattle.std.proofs.lemmas.Bool.{leb-true}
use Rattle.gd_format.specs.declared.Header.{Header}
use Rattle.gd_format.specs.Headers.{IsHeader}
use Rattle.gd_format.specs.Field.{u32_at, i32_at}
use Rattle.gd_format.specs.HeaderFault.{capacity_at, is_table_right, table_room, header_at, header_of, header_tests, header_fault_of, is_within, natural, is_block_size, is_dir_in, are_sizes_right, dir_size_of, slots_of}
use Rattle.gd_format.proofs.Firsts.{and-true}
use Rattle.gd_file_laws.proofs.Headers as laws
use Rattle.gd_file_laws.proofs.Headers.{none_holds, not_false, within, number, slots_fit}
use Rattle.gd_readable.specs.Checks.{IsHeaderIn}

pub header_in : (front : List ℕ) (len : ℕ) → header_fault_of front len ≡ None → IsHeaderIn (header_of front) len
header_in front len none =
    let sizes = laws.header_in front len none in
    record {
      bits = sizes.bits;
      block = sizes.slots;
      least = sizes.least;
      large = sizes.large;
      fits = sizes.fits;
      dir = sizes.dir;
    }

-- a header by itself
pub header_room : (h : Header) → IsHeader h → 112 + 24 * h.elems ≤ h.block
unfolding is_block_size
header_room h i = let block = within (pos h.block) 512 1048576 (and-true _ _ i.block).0 in slots_fit h.block h.elems block.0 i.elems

pub header_block : (h : Header) → IsHeader h → h.block ≤ 1048576
unfolding is_block_size
header_block h i = (within (pos h.block) 512 1048576 (and-true _ _ i.block).0).1

is_block_within : (z : ℤ) → is_block_size z ≡ true → is_within z 512 1048576 ≡ true
unfolding is_block_size
is_block_within z h = (and-true _ _ h).0

within_pos : (z : ℤ) (low high : ℕ) → is_within z low high ≡ true → z ≡ pos (natural z)
within_pos (pos n) low high h = refl
within_pos (negsuc n) low high h = absurd cc

-- the fields of a header without a fault, by themselves
pub header_is : (front : List ℕ) (len : ℕ) → header_fault_of front len ≡ None → len < 2 ^ 64 → IsHeader (header_of front)
unfolding header_fault_of header_of is_dir_in are_sizes_right is_table_right
header_is front len none small =
    let all = none_holds (header_tests front len) none in
    let f = all.1.1.1.1.1 in
    let i = f.1.1 in
    let j = i.1 in
    let right = not_false _ f.0 in
    let block = is_block_within (header_at front).block right in
    let dir = not_false _ i.0 in
    let dir_a = and-true _ _ dir in
    let dir_b = and-true _ _ dir_a.0 in
    let dir_c = and-true _ _ dir_b.0 in
    let bits = within (header_at front).dir_bits 0 24 dir_c.0 in
    let room = leb-true (dir_size_of (natural (header_at front).dir_bits)) len dir_b.1 in
    let place = within (header_at front).dir 0 (len - dir_size_of (natural (header_at front).dir_bits)) dir_a.1 in
    let elems = number (header_at front).elems (slots_of (natural (header_at front).block)) (and-true _ _ (not_false _ j.0)).1 in
    let next = within (header_at front).next_block 0 (2 ^ 46) (not_false _ j.1.0) in
    let table = within (capacity_at front) 2 (table_room (u32_at front 0) (natural (i32_at front 4))) (not_false _ j.1.1.0) in
    record {
      block = rw (← within_pos (header_at front).block 512 1048576 block) right;
      bits = bits.1;
      dir = omega (arith, room, place, small);
      elems = elems;
      next_block = next.1;
      least = table.0;
      most = table.1;
    }
