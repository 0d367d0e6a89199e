-- An open file as contracts see it, and what always holds of its parts.
use Rattle.std.specs.Prelude.{◌≡◌, ℕ, ◌≤◌, true, List, length}
use Rattle.gd_format.specs.declared.Header.{Header}
use Rattle.gd_format.specs.Avail.{Avail}
use Rattle.gd_format.specs.Headers.{IsHeader}
use Rattle.gd_format.specs.HeaderFault.{is_native}
use Rattle.gd_format.specs.Sound.{most_of}
use Rattle.gd_layout.specs.Fits.{FitsHeader}

-- the file's id, its header and its table of free space as they stand in memory, and the block that was read or written last
pub record OpenParts : Type 0 where
  pub id : ℕ
  pub header : Header
  pub table : Avail
  pub block : List ℕ

-- the header is one that no test refuses, it and the table can be written, and the room is that of one block
pub record AreFit (h : Header) (table : Avail) (size : ℕ) : Type 0 where
  pub header : IsHeader h
  pub fields : FitsHeader h
  pub native : is_native h.magic ≡ true
  pub table_fits : length table.extents ≤ h.avail_size
  pub table_room : table.room ≡ most_of h
  pub block_size : size ≡ h.block

abbrev pub IsFit : OpenParts → Type 0
IsFit p = AreFit p.header p.table (length p.block)

-- and the free space goes by blocks of the same size
pub record FitTogether (h : Header) (table : Avail) (size space_block : ℕ) : Type 0 where
  pub parts : AreFit h table size
  pub space : space_block ≡ h.block
