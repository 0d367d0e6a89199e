-- The bytes of the header's block.
use Rattle.std.specs.Prelude.{◌≡◌, ℕ, ◌≤◌, true, List, length, None}
use Rattle.std.specs.List.{All}
use Rattle.gd_format.specs.declared.Header.{Header}
use Rattle.gd_format.specs.Avail.{Avail, avail_at, is_avail}
use Rattle.gd_format.specs.File.{front_of}
use Rattle.gd_format.specs.HeaderFault.{header_of, header_fault_of}
use Rattle.gd_format.specs.Sound.{table_of}
use Rattle.gd_layout.specs.Fits.{FitsExtent, IsHeaderOf}

-- a block spells this header and this table
pub record SpellsFront (h : Header) (table : Avail) (front : List ℕ) : Type 0 where
  pub reads : header_of (front_of front) ≡ h
  pub fault : (len : ℕ) → IsHeaderOf h len → header_fault_of (front_of front) len ≡ None
  pub table_is : avail_at (table_of front h) table.room ≡ table
  pub right : All FitsExtent table.extents → (most : ℕ) → length table.extents ≤ most → is_avail (table_of front h) most ≡ true
