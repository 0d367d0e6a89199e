-- What a header without a fault says of sizes.
use Rattle.std.specs.Prelude.{◌≡◌, ℕ, ◌+◌, ◌*◌, ◌^◌, ◌≤◌, List, None}
use Rattle.gd_format.specs.declared.Header.{Header}
use Rattle.gd_format.specs.HeaderFault.{header_fault_of, header_of, slots_of, table_room}
use Rattle.gd_format.specs.File.{entries_of}

-- the header of a file of len bytes
pub record IsHeaderIn (h : Header) (len : ℕ) : Type 0 where
  pub bits : h.dir_bits ≤ 24
  pub least : 512 ≤ h.block
  pub large : h.block ≤ 1048576
  pub fits : h.block ≤ len
  pub elems : h.elems ≡ slots_of h.block
  pub slots : 112 + 24 * h.elems ≤ h.block
  pub dir : h.dir + 8 * entries_of h ≤ len
  pub next : h.next_block ≤ 2 ^ 46
  pub table_least : 2 ≤ h.avail_size
  pub table_most : h.avail_size ≤ table_room h.magic h.block

abbrev pub HeaderHasSizes : Type 0
HeaderHasSizes = (front : List ℕ) (len : ℕ) → header_fault_of front len ≡ None → IsHeaderIn (header_of front) len
