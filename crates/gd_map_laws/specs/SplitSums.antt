-- What a split and a doubling make of all extents.
use Rattle.std.specs.Prelude.{◌≡◌, ℕ, ◌+◌, ◌<◌, List, ◌++◌}
use Rattle.gd_format.specs.Field.{bytes_at}
use Rattle.gd_format.specs.HeaderFault.{dir_size_of}
use Rattle.gd_format.specs.Avail.{extents_at}
use Rattle.gd_format.specs.File.{entries_of}
use Rattle.gd_format.specs.Sound.{IsSound, extents, table_of, total}
use Rattle.gd_format.specs.Covers.{size_sum}
use Rattle.gd_format.specs.FreeSide.{StackBlock, stack_extents}
use Rattle.gd_file_laws.specs.Parts.{file_header}
use Rattle.gd_map_laws.specs.Update.{IsSameShape}
use Rattle.gd_map_laws.specs.Space.{free_in}
use Rattle.gd_map_laws.specs.Change.{place_of}
use Rattle.gd_map_laws.specs.Sounds.{pool_of}
use Rattle.gd_map_laws.specs.Sums.{free_size}
use Rattle.gd_map_laws.specs.Split.{SplitChange, DoubleChange}
use Rattle.gd_map_laws.specs.SplitSpace.{SplitMoves, DoubleMoves}
use Rattle.gd_map_laws.specs.WholeSplit.{SpaceWritten}

-- the second bucket's block comes, and the free extents of both buckets in the place of those of the one
abbrev pub SplitTotals : Type 0
SplitTotals =
    (old new : List ℕ) (blocks : List StackBlock) (i at bits half q : ℕ) → IsSound old → i < entries_of (file_header old)
    → SpaceWritten new blocks → IsSameShape (file_header old) (file_header new) → SplitChange old new (file_header old) i at bits half q
    → SplitMoves old new (file_header old) i at (file_header old).next_block (file_header new).next_block (pool_of old (file_header old)) (extents_at (table_of new (file_header new)) ++ stack_extents blocks)
    → total (extents new) + free_size old (file_header old) i
    ≡ total (extents old) + (size_sum (pool_of new (file_header new)) + size_sum (free_in (bytes_at new (place_of old (file_header old) i) (file_header old).block)) + size_sum (free_in (bytes_at new at (file_header old).block)) + (file_header old).block)

-- the new directory comes in the place of the old one
abbrev pub DoubleTotals : Type 0
DoubleTotals =
    (old new : List ℕ) (blocks : List StackBlock) → IsSound old → SpaceWritten new blocks → DoubleChange old new (file_header old) (file_header new)
    → DoubleMoves (file_header old) (file_header new) (file_header old).next_block (file_header new).next_block (pool_of old (file_header old)) (extents_at (table_of new (file_header new)) ++ stack_extents blocks)
    → total (extents new) + (size_sum (pool_of old (file_header old)) + dir_size_of (file_header old).dir_bits)
    ≡ total (extents old) + (size_sum (pool_of new (file_header new)) + dir_size_of (file_header new).dir_bits)
