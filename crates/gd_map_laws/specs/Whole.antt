-- A store and a deletion over a whole sound file.
use Rattle.std.specs.Prelude.{◌≡◌, ℕ, true, List, [], ◌∷◌, ◌++◌, length, None}
use Rattle.std.specs.FinMap.{insert, remove}
use Rattle.gd_format.specs.declared.Slot.{Slot}
use Rattle.gd_format.specs.Field.{bytes_at}
use Rattle.gd_format.specs.HeaderFault.{is_within, header_fault_of}
use Rattle.gd_format.specs.Avail.{count_at, extents_at}
use Rattle.gd_format.specs.File.{front_of, records}
use Rattle.gd_format.specs.Sound.{IsSound, table_of, top_of}
use Rattle.gd_format.specs.FreeSide.{StackBlock, stack_extents, IsFreeSide}
use Rattle.gd_file_laws.specs.Parts.{file_header}
use Rattle.gd_map_laws.specs.Lookup.{index_of}
use Rattle.gd_map_laws.specs.Maps.{pair_map}
use Rattle.gd_map_laws.specs.Update.{IsSameShape}
use Rattle.gd_map_laws.specs.Space.{free_in}
use Rattle.gd_map_laws.specs.Change.{place_of, ChangeMade, RecordMade, slot_made}
use Rattle.gd_map_laws.specs.Sounds.{pool_of, lists_of}

-- what the calls wrote: the bucket's block, the header with its table, the stack's blocks
pub record ChangeWritten (old new : List ℕ) (key : List ℕ) (blocks : List StackBlock) (gone come rest : List Slot) : Type 0 where
  pub header : header_fault_of (front_of new) (length new) ≡ None
  pub shape : IsSameShape (file_header old) (file_header new)
  pub made : ChangeMade old new (file_header old) key (file_header old).next_block (file_header new).next_block (pool_of old (file_header old)) (extents_at (table_of new (file_header new)) ++ stack_extents blocks) gone come rest
  pub number : is_within (count_at (table_of new (file_header new))) 0 (file_header new).avail_size ≡ true
  pub side : IsFreeSide new (file_header new) (top_of new (file_header new)) (lists_of new (file_header new) blocks (free_in (bytes_at new (place_of old (file_header old) (index_of (file_header old) key)) (file_header old).block)))

-- the new file is sound, and its map is the old one with the pair
abbrev pub StoreKeepsSound : Type 0
StoreKeepsSound =
    (old new : List ℕ) (key value : List ℕ) (blocks : List StackBlock) (gone rest : List Slot) (hash : ℕ) (start : List ℕ) (at : ℕ) → IsSound old
    → ChangeWritten old new key blocks gone (slot_made key value hash start at ∷ []) rest → RecordMade new key value hash start at
    → IsSound new × (pair_map (records new) ≡ insert (pair_map (records old)) key value)

-- the new file is sound, and its map is the old one without the key
abbrev pub DeleteKeepsSound : Type 0
DeleteKeepsSound =
    (old new : List ℕ) (key : List ℕ) (blocks : List StackBlock) (gone rest : List Slot) → IsSound old → ChangeWritten old new key blocks gone [] rest
    → IsSound new × (pair_map (records new) ≡ remove (pair_map (records old)) key)
