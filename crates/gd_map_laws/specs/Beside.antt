-- A change beside the directory, the buckets and the records: the header's block and free space alone are written.
use Rattle.std.specs.Prelude.{◌≡◌, ℕ, ◌+◌, ◌≤◌, List, ◌++◌}
use Rattle.gd_format.specs.declared.Header.{Header}
use Rattle.gd_format.specs.declared.Extent.{Extent}
use Rattle.gd_format.specs.Avail.{extents_at}
use Rattle.gd_format.specs.File.{records}
use Rattle.gd_format.specs.Sound.{IsSound, extent, table_of}
use Rattle.gd_format.specs.Covers.{has_byte, cover}
use Rattle.gd_format.specs.FreeSide.{StackBlock, stack_extents}
use Rattle.gd_file_laws.specs.Parts.{file_header}
use Rattle.gd_map_laws.specs.Update.{IsSameShape}
use Rattle.gd_map_laws.specs.Space.{one_if, grown}
use Rattle.gd_map_laws.specs.Frame.{KeepsBut}
use Rattle.gd_map_laws.specs.Sounds.{pool_of}
use Rattle.gd_map_laws.specs.WholeSplit.{SpaceWritten}

-- the header's block, the table's extents and the stack's are written alone, and no byte becomes free but those past the end
pub record BesideChange (old new : List ℕ) (h : Header) (next next' : ℕ) (pool pool' : List Extent) : Type 0 where
  pub keeps : KeepsBut (λ b. one_if (has_byte (extent 0 h.block) b) + cover pool b) old new
  pub grows : next ≤ next'
  pub moves : (b : ℕ) → cover pool' b ≤ cover pool b + grown next next' b

-- then the list of the records stays
abbrev pub BesideKeepsSound : Type 0
BesideKeepsSound =
    (old new : List ℕ) (blocks : List StackBlock) → IsSound old → SpaceWritten new blocks → IsSameShape (file_header old) (file_header new)
    → BesideChange old new (file_header old) (file_header old).next_block (file_header new).next_block (pool_of old (file_header old)) (extents_at (table_of new (file_header new)) ++ stack_extents blocks)
    → IsSound new × (records new ≡ records old)
