-- A file in the other format.
use Rattle.std.specs.Prelude.{ℕ, ◌+◌, ◌^◌, Bool, nat_lt, replicate}
use Rattle.gd_base.specs.declared.errors.Format.{Format}
use Rattle.gd_base.specs.declared.errors.Format.TheVariants.{Standard, Numsync}
use Rattle.gd_format.specs.declared.Header.{Header}
use Rattle.gd_format.specs.HeaderFault.{table_room}

-- the magic that is written for a format; the original one of the standard format isn't written anew
abbrev pub magic_of : Format → ℕ
magic_of Standard = 0x13579acf
magic_of Numsync = 0x13579ad1

-- how many extents the table has room for in this format
abbrev pub room_in : Format → Header → ℕ
room_in wanted h = table_room (magic_of wanted) h.block

-- the header in this format: with the magic and the room of that, and version, numsync and reserved words 0; the block size,
-- the directory, the slots and the end of space stay
abbrev pub turned : Header → Format → Header
turned h wanted = record h {
  format = wanted;
  magic = magic_of wanted;
  version = 0;
  numsync = 0;
  reserved = replicate 6 0;
  avail_size = room_in wanted h;
}

-- does the file stand so near to its greatest end that free space might not be kept?
abbrev pub is_near_end : ℕ → Bool
is_near_end next = nat_lt (2 ^ 46) (next + 2 ^ 29)
