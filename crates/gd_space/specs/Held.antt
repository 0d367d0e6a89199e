-- What is held of the free space of a file.
use Rattle.std.specs.Prelude.{◌≡◌, ℕ, ◌-◌, ◌/◌, ◌^◌, ◌<◌, ◌≤◌}
use Rattle.std.specs.List.{AllByRecursion}
use Rattle.gd_format.specs.Avail.{Avail}
use Rattle.gd_layout.specs.Fits.{FitsExtent}

-- the table of the header, and the size of a block
pub record HeldSpace : Type 0 where
  pub table : Avail
  pub block : ℕ

-- there is room for the greatest table, for one block of the stack, and for its bytes
pub record FitsSpace (table : Avail) (spare size block : ℕ) : Type 0 where
  pub table_room : (block - 56) / 16 ≤ table.room
  pub few : table.room < 2 ^ 32
  pub spare_room : spare ≡ (block - 56) / 16
  pub spare_few : spare < 2 ^ 32
  pub buffer : block ≤ size
  pub fields : AllByRecursion FitsExtent table.extents
