-- The steps of a change, by what they make of a file.
use Rattle.std.specs.Prelude.{◌≡◌, ℕ, ◌+◌, ◌≤◌, true, List, [], ◌∷◌, length, None, max}
use Rattle.gd_format.specs.declared.Header.{Header}
use Rattle.gd_format.specs.declared.Slot.{Slot}
use Rattle.gd_format.specs.Field.{bytes_at}
use Rattle.gd_format.specs.Avail.{Avail, avail_at, count_at}
use Rattle.gd_format.specs.Bucket.{Bucket, bucket_at, is_bucket}
use Rattle.gd_format.specs.Covers.{cover, has_byte}
use Rattle.gd_format.specs.File.{front_of, is_count_right}
use Rattle.gd_format.specs.FreeSide.{FreeLists, IsFreeSide, free_extents}
use Rattle.gd_format.specs.HeaderFault.{header_of, header_fault_of, is_within}
use Rattle.gd_format.specs.Slots.{SameSlots}
use Rattle.gd_format.specs.Sound.{extent, table_of}
use Rattle.gd_layout.specs.Fits.{IsHeaderOf}
use Rattle.gd_map_laws.specs.Frame.{KeepsBut}
use Rattle.gd_map_laws.specs.Space.{one_if}
use Rattle.gd_space.specs.Effect.{Keeps, Moves}
use Rattle.gd_open.specs.Spells.{SpellsBucket, SpellsHeader}
use Rattle.gd_update.specs.Open.{slot_extents}
use Rattle.gd_vault.specs.Effects.{written}

-- bytes were put at a place; none of them, and the file is the same
pub record PutAt (old new : List ℕ) (at : ℕ) (bs : List ℕ) : Type 0 where
  pub keeps : KeepsBut (λ b. one_if (has_byte (extent at (length bs)) b)) old new
  pub reads : bytes_at new at (length bs) ≡ bs
  pub most : length new ≤ max (length old) (at + length bs)

-- room was taken from free space, where at most so many bytes were lost, and bytes were put there
pub record RecordPut (old new : List ℕ) (h h' : Header) (top top' : ℕ) (s s' : FreeLists) (at : ℕ) (pair : List ℕ) (lost : ℕ) : Type 0 where
  pub side : IsFreeSide new h' top' s'
  pub keeps : KeepsBut (cover (free_extents s)) old new
  pub moves : Moves (free_extents s) (free_extents s') h.next_block h'.next_block [] (extent at (length pair) ∷ []) lost
  pub reads : bytes_at new at (length pair) ≡ pair

-- the room of a slot's record was given back, where it has a byte
pub record GivenBack (old new : List ℕ) (h h' : Header) (top top' : ℕ) (s s' : FreeLists) (gone : Slot) : Type 0 where
  pub keeps : Keeps (free_extents s) old new
  pub moves : Moves (free_extents s) (free_extents s') h.next_block h'.next_block (slot_extents gone) [] 32
  pub side : IsFreeSide new h' top' s'

-- the bucket's block was written, and then the header's block
pub record BlocksPut (old new : List ℕ) (h : Header) (table : Avail) (at : ℕ) (bucket : Bucket) : Type 0 where
  pub block : List ℕ
  pub front : List ℕ
  pub is : new ≡ written (written old at block) 0 front
  pub block_size : length block ≡ h.block
  pub front_size : length front ≡ h.block
  pub bucket_is : SpellsBucket bucket h.elems block
  pub header_is : SpellsHeader h table front

-- one slot goes, and one comes; either may be an empty one
pub record SlotsMade (before after : List Slot) (gone come : Slot) : Type 0 where
  pub rest : List Slot
  pub before_is : SameSlots before (gone ∷ rest)
  pub after_is : SameSlots after (come ∷ rest)
