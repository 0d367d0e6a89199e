-- The last writes of a change of one key: the bucket's block, and the header's block.
use Rattle.std.specs.Prelude.{◌≡◌, ℕ, ◌+◌, ◌<◌, ◌≤◌, List, ◌++◌, length}
use Rattle.gd_format.specs.declared.Header.{Header}
use Rattle.gd_format.specs.declared.Extent.{Extent}
use Rattle.gd_format.specs.declared.Slot.{Slot}
use Rattle.gd_format.specs.Field.{bytes_at}
use Rattle.gd_format.specs.Bucket.{slots_at}
use Rattle.gd_format.specs.File.{entries_of, block_of}
use Rattle.gd_format.specs.Slots.{count, SameSlots}
use Rattle.gd_format.specs.Sound.{extent}
use Rattle.gd_format.specs.Covers.{has_byte, cover}
use Rattle.gd_file_laws.specs.Frame.{written}
use Rattle.gd_map_laws.specs.Space.{one_if, slot_has, free_of, grown}
use Rattle.gd_map_laws.specs.Frame.{KeepsBut, touched_of}
use Rattle.gd_map_laws.specs.Change.{place_of, IsSoundFile}

-- before them free space and the place of a record that goes were written alone, and a pair reads where it was free
pub record LastWrites (old mid : List ℕ) (h : Header) (i next next' : ℕ) (pool : List Extent) (gone rest : List Slot) (block front : List ℕ) (at : ℕ) (pair : List ℕ) : Type 0 where
  pub sound : IsSoundFile old h next pool
  pub below : i < entries_of h
  pub before : SameSlots (slots_at (block_of old h i) h.elems) (gone ++ rest)
  pub keeps : KeepsBut (λ b. cover pool b + cover (free_of old h i) b + count (slot_has b) gone) old mid
  pub block_size : length block ≡ h.block
  pub front_size : length front ≡ h.block
  pub reads : bytes_at mid at (length pair) ≡ pair
  pub free : (b : ℕ) → one_if (has_byte (extent at (length pair)) b) ≤ cover pool b + cover (free_of old h i) b + count (slot_has b) gone + grown next next' b

-- what reads after them
pub record WritesRead (old mid new : List ℕ) (h : Header) (i : ℕ) (pool : List Extent) (gone : List Slot) (block front : List ℕ) (at : ℕ) (pair : List ℕ) : Type 0 where
  pub keeps : KeepsBut (touched_of old h i pool gone) old new
  pub block_reads : bytes_at new (place_of old h i) h.block ≡ block
  pub front_reads : bytes_at new 0 h.block ≡ front
  pub pair_reads : bytes_at new at (length pair) ≡ pair
  pub size : length new ≡ length mid

abbrev pub WritesLaw : Type 0
WritesLaw =
    (old mid : List ℕ) (h : Header) (i next next' : ℕ) (pool : List Extent) (gone rest : List Slot) (block front : List ℕ) (at : ℕ) (pair : List ℕ)
    → LastWrites old mid h i next next' pool gone rest block front at pair
    → WritesRead old mid (written (written mid (place_of old h i) block) 0 front) h i pool gone block front at pair
