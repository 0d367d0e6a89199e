-- A split of one bucket, and a doubling of the directory, over a whole sound file.
use Rattle.std.specs.Prelude.{◌≡◌, ℕ, ◌<◌, ◌≤◌, true, List, ◌++◌, length, None}
use Rattle.gd_format.specs.HeaderFault.{natural, header_fault_of}
use Rattle.gd_format.specs.Avail.{extents_at, is_avail}
use Rattle.gd_format.specs.File.{front_of, entry_at, entries_of, records}
use Rattle.gd_format.specs.Sound.{IsSound, table_of, most_of, top_of, is_free_right}
use Rattle.gd_format.specs.FreeSide.{StackBlock, IsStack, stack_extents}
use Rattle.gd_file_laws.specs.Parts.{file_header}
use Rattle.gd_map_laws.specs.Maps.{pair_map}
use Rattle.gd_map_laws.specs.Update.{IsSameShape}
use Rattle.gd_map_laws.specs.Split.{SplitChange, DoubleChange}
use Rattle.gd_map_laws.specs.SplitSpace.{SplitMoves, DoubleMoves}
use Rattle.gd_map_laws.specs.Sounds.{pool_of}

-- what is written beside the directory and the buckets: the header with its table, and the stack's blocks
pub record SpaceWritten (new : List ℕ) (blocks : List StackBlock) : Type 0 where
  pub header : header_fault_of (front_of new) (length new) ≡ None
  pub short : length new ≤ (file_header new).next_block
  pub table : is_avail (table_of new (file_header new)) (file_header new).avail_size ≡ true
  pub stack : IsStack new (most_of (file_header new)) (top_of new (file_header new)) blocks

-- the file is sound still, and its map stays
abbrev pub IsKept : List ℕ → List ℕ → Type 0
IsKept old new = IsSound new × (pair_map (records new) ≡ pair_map (records old))

abbrev pub SplitKeepsSound : Type 0
SplitKeepsSound =
    (old new : List ℕ) (blocks : List StackBlock) (i at bits half q : ℕ) → IsSound old → i < entries_of (file_header old)
    → SpaceWritten new blocks → IsSameShape (file_header old) (file_header new) → SplitChange old new (file_header old) i at bits half q
    → SplitMoves old new (file_header old) i at (file_header old).next_block (file_header new).next_block (pool_of old (file_header old)) (extents_at (table_of new (file_header new)) ++ stack_extents blocks)
    → is_free_right new (file_header new) (natural (entry_at old (file_header old) i)) ≡ true → is_free_right new (file_header new) at ≡ true
    → IsKept old new

abbrev pub DoubleKeepsSound : Type 0
DoubleKeepsSound =
    (old new : List ℕ) (blocks : List StackBlock) → IsSound old → SpaceWritten new blocks → DoubleChange old new (file_header old) (file_header new)
    → DoubleMoves (file_header old) (file_header new) (file_header old).next_block (file_header new).next_block (pool_of old (file_header old)) (extents_at (table_of new (file_header new)) ++ stack_extents blocks)
    → IsKept old new
