-- The header of a file, and the first of its faults.
use Rattle.std.specs.Prelude.{ℕ, ◌+◌, ◌-◌, ◌*◌, ◌/◌, ◌^◌, ℤ, pos, negsuc, Bool, false, not, ◌&&◌, ◌||◌, ◌==◌, nat_lt, nat_le, List, [], ◌∷◌, Option, if◌then◌else◌}
use Rattle.std.specs.Int.{is_power_of_two}
use Rattle.gd_base.specs.declared.errors.DbError.{DbError}
use Rattle.gd_base.specs.declared.errors.DbError.TheVariants.{BlockSize, ShortFile, BadMagic, ByteSwapped, WrongOffset, BadHeader}
use Rattle.gd_format.specs.declared.Header.{Header}
use Rattle.gd_base.specs.declared.errors.Format.TheVariants.{Standard, Numsync}
use Rattle.gd_format.specs.Field.{u32_at, i32_at, i64_at}
use Rattle.gd_format.specs.First.{first_that_holds}

pub record RawHeader : Type 0 where
  pub magic : ℕ
  pub block : ℤ
  pub dir : ℤ
  pub dir_size : ℤ
  pub dir_bits : ℤ
  pub bucket_size : ℤ
  pub elems : ℤ
  pub next_block : ℤ

abbrev pub header_at : List ℕ → RawHeader
header_at bytes = record {
  magic = u32_at bytes 0;
  block = i32_at bytes 4;
  dir = i64_at bytes 8;
  dir_size = i32_at bytes 16;
  dir_bits = i32_at bytes 20;
  bucket_size = i32_at bytes 24;
  elems = i32_at bytes 28;
  next_block = i64_at bytes 32;
}

-- the place of the table of free space, by the magic
abbrev pub table_place : ℕ → ℕ
table_place magic = if magic == 0x13579ad1 then 72 else 40

-- how many extents the table of a block has room for
abbrev pub table_room : ℕ → ℕ → ℕ
table_room magic block = (block - (table_place magic + 16)) / 16

-- how many slots a bucket of a block has
abbrev pub slots_of : ℕ → ℕ
slots_of block = (block - 112) / 24

-- z is a number from low to high
abbrev pub is_within : ℤ → ℕ → ℕ → Bool
is_within (pos n) low high = nat_le low n && nat_le n high
is_within (negsuc n) low high = false

-- z is the number n
abbrev pub is_number : ℤ → ℕ → Bool
is_number (pos m) n = m == n
is_number (negsuc m) n = false

-- the number z, or 0 below
abbrev pub natural : ℤ → ℕ
natural (pos n) = n
natural (negsuc n) = 0

-- a power of two from 512 to 1048576
unfoldable pub is_block_size : ℤ → Bool
is_block_size z = is_within z 512 1048576 && is_power_of_two (natural z)

unfoldable pub is_swapped : ℕ → Bool
is_swapped magic = magic == 0xce9a5713 || magic == 0xcf9a5713 || magic == 0xd19a5713 || magic == 0xcd9a5713 || magic == 0xd09a5713

unfoldable pub is_narrow : ℕ → Bool
is_narrow magic = magic == 0x13579acd || magic == 0x13579ad0

unfoldable pub is_native : ℕ → Bool
is_native magic = magic == 0x13579ace || magic == 0x13579acf || magic == 0x13579ad1

-- the bytes of a directory with these bits
abbrev pub dir_size_of : ℕ → ℕ
dir_size_of bits = 8 * 2 ^ bits

-- the directory has its size and lies in the file
unfoldable pub is_dir_in : RawHeader → ℕ → Bool
is_dir_in h len =
    let size = dir_size_of (natural h.dir_bits) in
    is_within h.dir_bits 0 24 && is_number h.dir_size size && nat_le size len && is_within h.dir 0 (len - size)

-- the sizes that follow from the block size
unfoldable pub are_sizes_right : RawHeader → Bool
are_sizes_right h =
    let block = natural h.block in
    is_number h.bucket_size block && is_number h.elems (slots_of block)

abbrev pub capacity_at : List ℕ → ℤ
capacity_at bytes = i32_at bytes (table_place (u32_at bytes 0))

unfoldable pub is_table_right : List ℕ → Bool
is_table_right bytes = is_within (capacity_at bytes) 2 (table_room (u32_at bytes 0) (natural (i32_at bytes 4)))

-- the faults of a header, of a file of len bytes
abbrev pub header_tests : List ℕ → ℕ → List (Bool × DbError)
header_tests bytes len =
    let h = header_at bytes in
    (
    (nat_lt len 40, ShortFile)
    ∷ (is_swapped h.magic, ByteSwapped)
    ∷ (is_narrow h.magic, WrongOffset)
    ∷ (not (is_native h.magic), BadMagic)
    ∷ (h.magic == 0x13579ad1 && nat_lt len 72, ShortFile)
    ∷ (not (is_block_size h.block), BlockSize)
    ∷ (nat_lt len (natural h.block), BadHeader)
    ∷ (not (is_dir_in h len), BadHeader)
    ∷ (not (are_sizes_right h), BadHeader)
    ∷ (not (is_within h.next_block 0 (2 ^ 46)), BadHeader)
    ∷ (not (is_table_right bytes), BadHeader)
    ∷ []
    )

-- the first fault of a header
unfoldable pub header_fault_of : List ℕ → ℕ → Option DbError
header_fault_of bytes len = first_that_holds (header_tests bytes len)

abbrev pub is_numsync : ℕ → Bool
is_numsync magic = magic == 0x13579ad1

-- a field that the numsync format alone has
abbrev pub numsync_field : List ℕ → ℕ → ℕ
numsync_field bytes at = if is_numsync (u32_at bytes 0) then u32_at bytes at else 0

-- the header that a file without a header fault has
unfoldable pub header_of : List ℕ → Header
header_of bytes =
    let h = header_at bytes in
    record {
      format = if is_numsync h.magic then Numsync else Standard;
      magic = h.magic;
      block = natural h.block;
      dir = natural h.dir;
      dir_bits = natural h.dir_bits;
      elems = natural h.elems;
      next_block = natural h.next_block;
      version = numsync_field bytes 40;
      numsync = numsync_field bytes 44;
      reserved = numsync_field bytes 48 ∷ numsync_field bytes 52 ∷ numsync_field bytes 56 ∷ numsync_field bytes 60 ∷ numsync_field bytes 64 ∷ numsync_field bytes 68 ∷ [];
      avail_size = natural (capacity_at bytes);
    }
