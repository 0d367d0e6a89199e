-- What the tests of a header ask of its fields by themselves.
use Rattle.std.specs.Prelude.{◌≡◌, ◌+◌, ◌≤◌, ◌<◌, ◌^◌, true, pos}
use Rattle.gd_format.specs.declared.Header.{Header}
use Rattle.gd_format.specs.HeaderFault.{dir_size_of, is_block_size, slots_of, table_room}

-- a header that no test refuses, apart from the length of the file
pub record IsHeader (h : Header) : Type 0 where
  pub block : is_block_size (pos h.block) ≡ true
  pub bits : h.dir_bits ≤ 24
  pub dir : h.dir + dir_size_of h.dir_bits < 2 ^ 64
  pub elems : h.elems ≡ slots_of h.block
  pub next_block : h.next_block ≤ 2 ^ 46
  pub least : 2 ≤ h.avail_size
  pub most : h.avail_size ≤ table_room h.magic h.block
