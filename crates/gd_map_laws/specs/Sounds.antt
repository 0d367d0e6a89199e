-- A sound file by its parts, its space and its free side.
use Rattle.std.specs.Prelude.{◌≡◌, ℕ, ◌^◌, ◌<◌, ◌≤◌, true, List, ◌++◌, length, None}
use Rattle.std.specs.List.{flat_map, AllByRecursion}
use Rattle.gd_format.specs.declared.Header.{Header}
use Rattle.gd_format.specs.declared.Extent.{Extent}
use Rattle.gd_format.specs.Field.{bytes_at}
use Rattle.gd_format.specs.HeaderFault.{natural, is_within, header_fault_of}
use Rattle.gd_format.specs.Avail.{count_at, extents_at, is_avail}
use Rattle.gd_format.specs.File.{front_of, entry_at, entries_of}
use Rattle.gd_format.specs.Sound.{IsSound, table_of, most_of, top_of, stack_held, stack_places, is_free_right, extents_held}
use Rattle.gd_format.specs.Covers.{cover}
use Rattle.gd_format.specs.FreeSide.{StackBlock, IsStack, stack_extents, FreeLists, IsBelow, IsFreeSide}
use Rattle.gd_file_laws.specs.Parts.{file_header}
use Rattle.gd_file_laws.specs.Cover.{extents_in}
use Rattle.gd_map_laws.specs.Space.{free_in, free_of, all_cover}
use Rattle.gd_map_laws.specs.Change.{IsSoundFile}

-- the extents of the table, and of the stack with its blocks
unfoldable pub pool_of : List ℕ → Header → List Extent
pool_of file h = extents_at (table_of file h) ++ extents_in (flat_map (stack_held file) (stack_places file (top_of file h)))

-- the extents of a file, by how many have a byte
abbrev pub CoverOfExtents : Type 0
CoverOfExtents = (file : List ℕ) (h : Header) (b : ℕ) → cover (extents_in (extents_held file h)) b ≡ all_cover file h (pool_of file h) b

-- header, parts and space, with the stack as these blocks
pub record IsSoundBy (file : List ℕ) (h : Header) (blocks : List StackBlock) : Type 0 where
  pub header : header_fault_of (front_of file) (length file) ≡ None
  pub header_is : file_header file ≡ h
  pub file_is : IsSoundFile file h h.next_block (extents_at (table_of file h) ++ stack_extents blocks)
  pub table : is_avail (table_of file h) h.avail_size ≡ true
  pub stack : IsStack file (most_of h) (top_of file h) blocks
  pub free : (i : ℕ) → i < entries_of h → is_free_right file h (natural (entry_at file h i)) ≡ true

-- a sound file is one by some blocks, and the other way round
abbrev pub SoundHasBlocks : Type 0
SoundHasBlocks = (file : List ℕ) → IsSound file → (blocks : List StackBlock) × IsSoundBy file (file_header file) blocks × (pool_of file (file_header file) ≡ extents_at (table_of file (file_header file)) ++ stack_extents blocks)

abbrev pub BlocksMakeSound : Type 0
BlocksMakeSound = (file : List ℕ) (h : Header) (blocks : List StackBlock) → IsSoundBy file h blocks → IsSound file

abbrev pub lists_of : List ℕ → Header → List StackBlock → List Extent → FreeLists
lists_of file h blocks bucket = record { table = extents_at (table_of file h); blocks = blocks; bucket = bucket }

-- then the free side, with the free extents of any bucket, is that of a sound file
abbrev pub SoundHasSide : Type 0
SoundHasSide =
    (file : List ℕ) (h : Header) (blocks : List StackBlock) (i : ℕ) → IsSoundBy file h blocks → i < entries_of h
    → IsFreeSide file h (top_of file h) (lists_of file h blocks (free_of file h i))

-- extents that end before a place of the format stand in right fields
abbrev pub BelowIsRight : Type 0
BelowIsRight =
    (file : List ℕ) (h : Header) (at next : ℕ) → next ≤ 2 ^ 63 → AllByRecursion (IsBelow next) (free_in (bytes_at file at h.block)) → is_free_right file h at ≡ true

abbrev pub BelowIsAvail : Type 0
BelowIsAvail =
    (table : List ℕ) (most next : ℕ) → next ≤ 2 ^ 63 → is_within (count_at table) 0 most ≡ true → AllByRecursion (IsBelow next) (extents_at table) → is_avail table most ≡ true
