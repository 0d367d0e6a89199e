-- A change of one key: its bucket's block, free space and the header's block are written, and the record that comes.
use Rattle.std.specs.Prelude.{◌≡◌, ℕ, ◌+◌, ◌*◌, ◌/◌, ◌^◌, ◌≤◌, true, List, [], ◌∷◌, ◌++◌, length, take, Option, Some, None, if◌then◌else◌}
use Rattle.std.specs.Str.{bytes_eq}
use Rattle.gd_format.specs.declared.Header.{Header}
use Rattle.gd_format.specs.declared.Extent.{Extent}
use Rattle.gd_format.specs.declared.Slot.{Slot}
use Rattle.gd_format.specs.declared.Slot.TheVariants.{Full}
use Rattle.gd_format.specs.Hash.{hash_of}
use Rattle.gd_format.specs.Field.{bytes_at}
use Rattle.gd_format.specs.HeaderFault.{natural}
use Rattle.gd_format.specs.Bucket.{slots_at, is_bucket}
use Rattle.gd_format.specs.File.{bits_at, is_count_right, entry_at, entries_of, run_at, block_of}
use Rattle.gd_format.specs.Slots.{count, AreReached, SameSlots}
use Rattle.gd_format.specs.Covers.{cover}
use Rattle.gd_file_laws.specs.Parts.{HasParts}
use Rattle.gd_map_laws.specs.Lookup.{slot_records, index_of, value_at}
use Rattle.gd_map_laws.specs.Slots.{is_bad}
use Rattle.gd_map_laws.specs.Update.{IsSameShape, pairs_of}
use Rattle.gd_map_laws.specs.Space.{slot_has, free_in, free_of, grown, IsSpaceRight}
use Rattle.gd_map_laws.specs.Frame.{KeepsBut, touched_of}

abbrev pub place_of : List ℕ → Header → ℕ → ℕ
place_of file h i = natural (entry_at file h i)

-- what a sound file is, with a place at which its space ends and the extents of its table and its stack
pub record IsSoundFile (file : List ℕ) (h : Header) (next : ℕ) (pool : List Extent) : Type 0 where
  pub bits : h.dir_bits ≤ 24
  pub dir : h.dir + 8 * entries_of h ≤ length file
  pub short : length file ≤ next
  pub parts : HasParts file h
  pub space : IsSpaceRight file h next pool

-- the new block of the bucket of the entry i: of its slots `gone` go, `come` come and `rest` stay
pub record BucketMade (old : List ℕ) (h : Header) (i : ℕ) (block : List ℕ) (gone come rest : List Slot) : Type 0 where
  pub fields : is_bucket block h.elems ≡ true
  pub number : is_count_right block h.elems ≡ true
  pub bits : bits_at block ≡ bits_at (block_of old h i)
  pub before : SameSlots (slots_at (block_of old h i) h.elems) (gone ++ rest)
  pub after : SameSlots (slots_at block h.elems) (come ++ rest)
  pub reached : AreReached (slots_at block h.elems) h.elems

-- a byte that is free afterwards, or in a record that comes, was free, in a record that goes, or past the end
pub record SpaceMade (old new : List ℕ) (h : Header) (i : ℕ) (gone come : List Slot) (next next' : ℕ) (pool pool' : List Extent) : Type 0 where
  pub grows : next ≤ next'
  pub short : length new ≤ next'
  pub moves : (b : ℕ) → cover pool' b + cover (free_in (bytes_at new (place_of old h i) h.block)) b + count (slot_has b) come ≤ cover pool b + cover (free_of old h i) b + count (slot_has b) gone + grown next next' b

-- what a store and a deletion have in common
pub record ChangeMade (old new : List ℕ) (h : Header) (key : List ℕ) (next next' : ℕ) (pool pool' : List Extent) (gone come rest : List Slot) : Type 0 where
  pub keeps : KeepsBut (touched_of old h (index_of h key) pool gone) old new
  pub bucket : BucketMade old h (index_of h key) (bytes_at new (place_of old h (index_of h key)) h.block) gone come rest
  pub space : SpaceMade old new h (index_of h key) gone come next next' pool pool'
  pub gone_is : slot_records old gone ≡ pairs_of key (value_at old h key)

-- the file is sound, and its map has changed at the key alone
pub record KeyChanged (old new : List ℕ) (h h' : Header) (key : List ℕ) (value : Option (List ℕ)) (next' : ℕ) (pool' : List Extent) : Type 0 where
  pub sound : IsSoundFile new h' next' pool'
  pub map : (k : List ℕ) → value_at new h' k ≡ (if bytes_eq key k then value else value_at old h k)

-- slots that come are right, and have the one record of the key, or none
pub record AreComing (old new : List ℕ) (h : Header) (key : List ℕ) (value : Option (List ℕ)) (come : List Slot) : Type 0 where
  pub good : count (is_bad new (bits_at (block_of old h (index_of h key))) (index_of h key / run_at old h (index_of h key))) come ≡ 0
  pub come_is : slot_records new come ≡ pairs_of key value

abbrev pub KeyLaw : Type 0
KeyLaw =
    (old new : List ℕ) (h h' : Header) (key : List ℕ) (value : Option (List ℕ)) (next next' : ℕ) (pool pool' : List Extent) (gone come rest : List Slot)
    → IsSoundFile old h next pool → IsSameShape h h' → ChangeMade old new h key next next' pool pool' gone come rest → AreComing old new h key value come
    → KeyChanged old new h h' key value next' pool'

-- ---- a store

-- the record reads as the pair, and its slot is that of the key
pub record RecordMade (new : List ℕ) (key value : List ℕ) (hash : ℕ) (start : List ℕ) (at : ℕ) : Type 0 where
  pub hash_is : hash ≡ hash_of key
  pub start_is : bytes_eq (take 4 key) (take (length (take 4 key)) start) ≡ true
  pub size : length key + length value ≤ 2 ^ 30
  pub reads : bytes_at new at (length key + length value) ≡ key ++ value

abbrev pub slot_made : (key value : List ℕ) (hash : ℕ) (start : List ℕ) (at : ℕ) → Slot
slot_made key value hash start at = Full hash start at (length key) (length value)

abbrev pub StoreLaw : Type 0
StoreLaw =
    (old new : List ℕ) (h h' : Header) (key value : List ℕ) (next next' : ℕ) (pool pool' : List Extent) (gone rest : List Slot) (hash : ℕ) (start : List ℕ) (at : ℕ)
    → IsSoundFile old h next pool → IsSameShape h h' → ChangeMade old new h key next next' pool pool' gone (slot_made key value hash start at ∷ []) rest
    → RecordMade new key value hash start at → KeyChanged old new h h' key (Some value) next' pool'

-- ---- a deletion

abbrev pub DeleteLaw : Type 0
DeleteLaw =
    (old new : List ℕ) (h h' : Header) (key : List ℕ) (next next' : ℕ) (pool pool' : List Extent) (gone rest : List Slot)
    → IsSoundFile old h next pool → IsSameShape h h' → ChangeMade old new h key next next' pool pool' gone [] rest → KeyChanged old new h h' key None next' pool'
