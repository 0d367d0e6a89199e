-- A sound file stays sound over the steps of a change.
use Rattle.std.specs.Prelude.{◌≡◌, ◌≢◌, ℕ, ◌<◌, ◌+◌, ◌≤◌, ◌^◌, true, List, [], ◌∷◌, ◌++◌, length, take}
use Rattle.std.specs.FinMap.{insert, remove}
use Rattle.std.specs.Str.{bytes_eq}
use Rattle.gd_format.specs.declared.Header.{Header}
use Rattle.gd_format.specs.declared.Slot.{Slot}
use Rattle.gd_format.specs.declared.Slot.TheVariants.{Empty}
use Rattle.gd_format.specs.Avail.{Avail}
use Rattle.gd_format.specs.Bucket.{Bucket}
use Rattle.gd_format.specs.File.{entry_at, entries_of, block_of, records}
use Rattle.gd_format.specs.FreeSide.{FreeLists, StackBlock, IsFreeSide, stack_extents}
use Rattle.gd_format.specs.Hash.{hash_of}
use Rattle.gd_format.specs.Slots.{AreReached}
use Rattle.gd_format.specs.Sound.{lost_total}
use Rattle.gd_map_laws.specs.Change.{slot_made}
use Rattle.gd_map_laws.specs.Lookup.{slot_records, index_of, value_at}
use Rattle.gd_map_laws.specs.Maps.{PairMap, pair_map}
use Rattle.gd_map_laws.specs.Sounds.{pool_of}
use Rattle.gd_map_laws.specs.Update.{pairs_of}
use Rattle.gd_space.specs.Calls.{free_lists}
use Rattle.gd_update.specs.Open.{IsOpen, IsHere}
use Rattle.gd_update.specs.Writes.{RecordPut, GivenBack, BlocksPut, SlotsMade}

-- the stack's blocks of an open file, and its free side with this bucket
pub record HasBlocks (file : List ℕ) (h : Header) (table : Avail) (blocks : List StackBlock) (bucket : Bucket) : Type 0 where
  pub pool : pool_of file h ≡ table.extents ++ stack_extents blocks
  pub side : IsFreeSide file h table.next_block (free_lists table.extents blocks bucket.free)

-- the change of the bucket: its bits stay, one slot goes and one comes, and the record that goes is that of the key
pub record BucketChanges (file : List ℕ) (h : Header) (key : List ℕ) (bucket bucket' : Bucket) (gone come : Slot) : Type 0 where
  pub bits : bucket'.bits ≡ bucket.bits
  pub made : SlotsMade bucket.slots bucket'.slots gone come
  pub reached : AreReached bucket'.slots h.elems
  pub gone_is : slot_records file (gone ∷ []) ≡ pairs_of key (value_at file h key)

-- the next file: it is open again, with the directory and the other buckets as before, and this map; at most so many more
-- bytes are lost
pub record IsNext (old new : List ℕ) (h' : Header) (table' : Avail) (at : ℕ) (bucket' : Bucket) (key : List ℕ) (map : PairMap) (more : ℕ) : Type 0 where
  pub still_open : IsOpen new h' table'
  pub here : IsHere new h' at bucket' key
  pub entries : (j : ℕ) → j < entries_of h' → entry_at new h' j ≡ entry_at old h' j
  pub others : (j : ℕ) → j < entries_of h' → entry_at old h' j ≢ entry_at old h' (index_of h' key) → block_of new h' j ≡ block_of old h' j
  pub map_is : pair_map (records new) ≡ map
  pub lost : lost_total new ≤ lost_total old + more

-- the header is one that only has another end of space
pub record OnlyGrew (h h' : Header) : Type 0 where
  pub header_is : h' ≡ record h { next_block = h'.next_block }
  pub below : h'.next_block ≤ 2 ^ 46

abbrev pub PutKeepsSound : Type 0
PutKeepsSound =
    (old mid back new : List ℕ) (h h1 h' : Header) (table table' : Avail) (top1 : ℕ) (s1 : FreeLists) (blocks blocks' : List StackBlock) (at : ℕ) (bucket bucket' : Bucket) (gone : Slot) (key value start : List ℕ) (place : ℕ)
    → IsOpen old h table → IsHere old h at bucket key → HasBlocks old h table blocks bucket → OnlyGrew h h'
    → RecordPut old mid h h1 table.next_block top1 (free_lists table.extents blocks bucket.free) s1 place (key ++ value) 32
    → GivenBack mid back h1 h' top1 table'.next_block s1 (free_lists table'.extents blocks' bucket'.free) gone
    → BlocksPut back new h' table' at bucket' → table'.room ≡ table.room
    → BucketChanges old h key bucket bucket' gone (slot_made key value (hash_of key) start place)
    → bytes_eq (take 4 key) (take (length (take 4 key)) start) ≡ true → length key + length value ≤ 2 ^ 30
    → IsNext old new h' table' at bucket' key (insert (pair_map (records old)) key value) 64

abbrev pub RemoveKeepsSound : Type 0
RemoveKeepsSound =
    (old back new : List ℕ) (h h' : Header) (table table' : Avail) (blocks blocks' : List StackBlock) (at : ℕ) (bucket bucket' : Bucket) (gone : Slot) (key : List ℕ)
    → IsOpen old h table → IsHere old h at bucket key → HasBlocks old h table blocks bucket → OnlyGrew h h'
    → GivenBack old back h h' table.next_block table'.next_block (free_lists table.extents blocks bucket.free) (free_lists table'.extents blocks' bucket'.free) gone
    → BlocksPut back new h' table' at bucket' → table'.room ≡ table.room
    → BucketChanges old h key bucket bucket' gone Empty
    → IsNext old new h' table' at bucket' key (remove (pair_map (records old)) key) 32
