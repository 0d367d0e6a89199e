-- How many bytes are in extents, and how many are lost.
use Rattle.std.specs.Prelude.{◌≡◌, ℕ, zero, suc, ◌+◌, ◌-◌, ◌≤◌, List, [], ◌∷◌}
use Rattle.gd_format.specs.declared.Header.{Header}
use Rattle.gd_format.specs.declared.Slot.{Slot}
use Rattle.gd_format.specs.declared.Slot.TheVariants.{Empty, Full}
use Rattle.gd_format.specs.Covers.{size_sum}
use Rattle.gd_format.specs.FreeSide.{StackBlock}
use Rattle.gd_format.specs.Sound.{IsSound, extents, total, lost_total}
use Rattle.gd_file_laws.specs.Parts.{file_header}
use Rattle.gd_map_laws.specs.Lookup.{index_of}
use Rattle.gd_map_laws.specs.Space.{free_of}
use Rattle.gd_map_laws.specs.Sounds.{pool_of}
use Rattle.gd_map_laws.specs.Whole.{ChangeWritten}

-- the sum over the numbers below n
abbrev pub sum_below : (ℕ → ℕ) → ℕ → ℕ
sum_below f zero = 0
sum_below f (suc n) = sum_below f n + f n

-- the sizes of the records of slots
abbrev pub slot_sizes : List Slot → ℕ
slot_sizes [] = 0
slot_sizes (Empty ∷ slots) = slot_sizes slots
slot_sizes (Full hash start at k v ∷ slots) = k + v + slot_sizes slots

-- the free bytes of the table, of the stack with its blocks, and of the bucket of an entry
abbrev pub free_size : List ℕ → Header → ℕ → ℕ
free_size file h i = size_sum (pool_of file h) + size_sum (free_of file h i)

-- the extents of a sound file have at most as many bytes as lie before its end of space
abbrev pub TotalFits : Type 0
TotalFits = (file : List ℕ) → IsSound file → total (extents file) ≤ (file_header file).next_block

-- what a change of one key makes of all extents
abbrev pub TotalChanges : Type 0
TotalChanges =
    (old new : List ℕ) (key : List ℕ) (blocks : List StackBlock) (gone come rest : List Slot) → IsSound old → ChangeWritten old new key blocks gone come rest
    → total (extents new) + free_size old (file_header old) (index_of (file_header old) key) + slot_sizes gone
    ≡ total (extents old) + free_size new (file_header new) (index_of (file_header old) key) + slot_sizes come

-- what goes out of free space and of records is found again but for so many bytes, so at most so many more are lost
abbrev pub LostChanges : Type 0
LostChanges =
    (old new : List ℕ) (key : List ℕ) (blocks : List StackBlock) (gone come rest : List Slot) (more : ℕ) → IsSound old → IsSound new → ChangeWritten old new key blocks gone come rest
    → free_size old (file_header old) (index_of (file_header old) key) + slot_sizes gone + ((file_header new).next_block - (file_header old).next_block)
    ≤ free_size new (file_header new) (index_of (file_header old) key) + slot_sizes come + more
    → lost_total new ≤ lost_total old + more

-- the same of any change that makes this of the extents
abbrev pub LostByTotals : Type 0
LostByTotals =
    (old new : List ℕ) (away come more : ℕ) → IsSound old → IsSound new → (file_header old).next_block ≤ (file_header new).next_block
    → total (extents new) + away ≡ total (extents old) + come → away + ((file_header new).next_block - (file_header old).next_block) ≤ come + more
    → lost_total new ≤ lost_total old + more
