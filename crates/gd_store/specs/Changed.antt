-- What a change does to an open database and its file.
use Rattle.std.specs.Prelude.{◌≡◌, ℕ, ◌+◌, ◌≤◌, Bool, true, ◌||◌, is_some, max, nat_le, nat_lt, List, Option, None, if◌then◌else◌}
use Rattle.gd_base.specs.declared.errors.DbError.{DbError}
use Rattle.gd_base.specs.declared.errors.DbError.TheVariants.{OutOfMemory}
use Rattle.gd_format.specs.declared.Header.{Header}
use Rattle.gd_format.specs.Avail.{Avail}
use Rattle.gd_format.specs.Bucket.{Bucket, bucket_at}
use Rattle.gd_format.specs.declared.Extent.{Extent}
use Rattle.gd_update.specs.Open as change
use Rattle.gd_update.specs.Growth.{IsWider}
use Rattle.gd_update.specs.GrowthRefusals.{is_growth_error}
use Rattle.gd_format.specs.File.{block_of, records}
use Rattle.gd_format.specs.Sound.{lost_total}
use Rattle.gd_format.specs.Slots.{count, is_full}
use Rattle.gd_file_laws.specs.Parts.{file_header}
use Rattle.gd_lookup.specs.Finding.{key_slots}
use Rattle.gd_store.specs.Replies.{value_of}
use Rattle.gd_map_laws.specs.Lookup.{index_of}
use Rattle.gd_map_laws.specs.Maps.{PairMap, pair_map}
use Rattle.gd_space.specs.Sizes.{largest}
use Rattle.gd_vault.specs.Views.{View}
use Rattle.gd_open.specs.Files.{FileBecomes}
use Rattle.gd_store.specs.Opened.{Opened, IsOpenOn}

-- a file afterwards: it is the database's, and its map and what is lost of it
pub record IsChanged (s : Opened) (map : PairMap) (more : ℕ) (old new : List ℕ) : Type 0 where
  pub is_open : IsOpenOn s new
  pub map_is : pair_map (records new) ≡ map
  pub lost : lost_total new ≤ lost_total old + more

-- where the content is told, the file becomes one with a map, of which so many more bytes are lost at most; both go by the
-- bytes before
abbrev pub Becomes : (old new : View) (f : ℕ) (s : Opened) (map : List ℕ → PairMap) (more : List ℕ → ℕ) → Type 0
Becomes old new f s map more = FileBecomes old new f (λ x y. IsChanged s (map x) (more x) x y)

-- has a key a slot, or its bucket an empty one?
abbrev pub has_slot : List ℕ → List ℕ → Bool
has_slot file key = is_some (value_of (records file) key) || nat_lt (count is_full (key_slots file key)) (file_header file).elems

-- how many more bytes a store may lose: few where no bucket is split
abbrev pub store_loss : List ℕ → List ℕ → ℕ
store_loss file key = if has_slot file key then 64 else 4096

-- how many more bytes may be lost before the pair is put: none where no bucket is split
abbrev pub ready_loss : List ℕ → List ℕ → ℕ
ready_loss file key = if has_slot file key then 0 else 4032

-- the free extents of the bucket of a key
abbrev pub key_free : List ℕ → List ℕ → List Extent
key_free file key = (bucket_at (block_of file (file_header file) (index_of (file_header file) key)) (file_header file).elems).free

-- has an extent of the table, or one of the bucket of the key, so many bytes?
abbrev pub has_extent : List ℕ → Avail → List ℕ → ℕ → Bool
has_extent file table key n = nat_le n (max (largest table.extents) (largest (key_free file key)))

-- a new pair of so many bytes finds its room in the file: its key is absent, the bucket of the key has an empty slot, and an
-- extent of the table or of that bucket is large enough
pub record FindsRoom (file : List ℕ) (table : Avail) (key : List ℕ) (n : ℕ) : Type 0 where
  pub absent : value_of (records file) key ≡ None
  pub slot : has_slot file key ≡ true
  pub extent : has_extent file table key n ≡ true

-- before a pair is put: the file may be changed, its map is the old one, the bucket of the key stands at the address, and
-- the place is that of the key's slot
pub record IsReady (old new : List ℕ) (h : Header) (table : Avail) (at : ℕ) (bucket : Bucket) (key : List ℕ) (place : Option ℕ) : Type 0 where
  pub still_open : change.IsOpen new h table
  pub here : change.IsHere new h at bucket key
  pub place_is : change.IsPlaceOf new bucket.slots key place
  pub map : pair_map (records new) ≡ pair_map (records old)
  pub lost : lost_total new ≤ lost_total old + ready_loss old key

-- why no room was made: want of memory, or an error of growth
abbrev pub is_room_error : DbError → Bool
is_room_error OutOfMemory = true
is_room_error e = is_growth_error e

-- what a change leaves of an open database: of its header all but the place and the size of the directory and the end of
-- space, and all else but its table, what is cached, and whether it is broken
pub record Keeps (s s' : Opened) : Type 0 where
  pub file : s'.file ≡ s.file
  pub access : s'.access ≡ s.access
  pub cache : s'.cache ≡ s.cache
  pub header : IsWider s.header s'.header
