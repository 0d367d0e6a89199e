-- The parts of an open file: what always holds of them, and when they are those of the file.
use Rattle.std.specs.Prelude.{◌≡◌, ℕ, ◌≤◌, true, List, length}
use Rattle.gd_format.specs.declared.Header.{Header}
use Rattle.gd_format.specs.Avail.{Avail, avail_at}
use Rattle.gd_format.specs.Headers.{IsHeader}
use Rattle.gd_format.specs.HeaderFault.{is_native}
use Rattle.gd_format.specs.Sound.{IsSound, most_of, table_of}
use Rattle.gd_file_laws.specs.Parts.{file_header}
use Rattle.gd_layout.specs.Fits.{FitsHeader}

-- the header is one that no test refuses, it and the table can be written, and the room is that of one block
pub record AreFit (h : Header) (table : Avail) (size : ℕ) : Type 0 where
  pub header : IsHeader h
  pub fields : FitsHeader h
  pub native : is_native h.magic ≡ true
  pub table_fits : length table.extents ≤ h.avail_size
  pub table_room : table.room ≡ most_of h
  pub block_size : size ≡ h.block

-- the file is sound, and has this header and this table of free space
pub record IsOpenOn (h : Header) (table : Avail) (file : List ℕ) : Type 0 where
  pub sound : IsSound file
  pub header : h ≡ file_header file
  pub table_is : table ≡ avail_at (table_of file h) (most_of h)
