-- What the last write of a chain does.
use Rattle.std.specs.Prelude.{◌≡◌, ℕ, List, []}
use Rattle.gd_format.specs.declared.Header.{Header}
use Rattle.gd_format.specs.Avail.{Avail, avail_at}
use Rattle.gd_format.specs.FreeSide.{StackBlock}
use Rattle.gd_format.specs.Sound.{table_of}
use Rattle.gd_space.specs.Calls.{free_lists}
use Rattle.gd_update.specs.SplitLaws.{IsWhole}

-- the file is whole, and its table is the one in memory
pub record IsSettled (old new : List ℕ) (h : Header) (table : Avail) (blocks : List StackBlock) : Type 0 where
  pub whole : IsWhole old new h table.next_block (free_lists table.extents blocks [])
  pub table_is : avail_at (table_of new h) table.room ≡ table
