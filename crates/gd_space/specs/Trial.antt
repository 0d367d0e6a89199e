-- What a trial of the calls keeps, so that each may follow each.
use Rattle.std.specs.Prelude.{◌≡◌, ◌≤◌, length}
use Rattle.gd_format.specs.declared.Header.{Header}
use Rattle.gd_format.specs.Headers.{IsHeader}
use Rattle.gd_space.specs.Held.{HeldSpace}

-- a header of a standard file of block 512, to which the held space belongs
pub record FitsTrial (h : Header) (s : HeldSpace) : Type 0 where
  pub header : IsHeader h
  pub magic : h.magic ≡ 0x13579acf
  pub small : h.block ≡ 512
  pub block : s.block ≡ 512
  pub fits : length s.table.extents ≤ h.avail_size
