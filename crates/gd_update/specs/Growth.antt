-- What a chain of splits and doublings makes of a file.
use Rattle.std.specs.Prelude.{◌≡◌, ℕ, ◌+◌, ◌-◌, ◌*◌, ◌<◌, ◌≤◌, List, [], length, Some}
use Rattle.gd_format.specs.declared.Header.{Header}
use Rattle.gd_format.specs.HeaderFault.{dir_size_of}
use Rattle.gd_format.specs.Avail.{Avail}
use Rattle.gd_format.specs.Bucket.{Bucket}
use Rattle.gd_format.specs.File.{records}
use Rattle.gd_format.specs.FreeSide.{StackBlock, free_extents}
use Rattle.gd_format.specs.Sound.{lost_total}
use Rattle.gd_file_laws.specs.Frame.{written}
use Rattle.gd_file_laws.specs.Parts.{file_header}
use Rattle.gd_map_laws.specs.Lookup.{value_at}
use Rattle.gd_map_laws.specs.Maps.{pair_map}
use Rattle.gd_space.specs.Calls.{free_lists}
use Rattle.gd_vault.specs.Content.{File, Content}
use Rattle.gd_vault.specs.Views.{View, content_of}
use Rattle.gd_update.specs.Held.{IsHeld, IsBucketOf, lost_in}
use Rattle.gd_update.specs.Settles.{IsSettled}
use Rattle.gd_open.specs.Files.{FileAfter}
use Rattle.gd_update.specs.Open.{IsOpen}

-- the place and the size of the directory, and the end of space, alone have changed
abbrev pub IsWider : Header → Header → Type 0
IsWider h h' = h' ≡ record h { dir = h'.dir; dir_bits = h'.dir_bits; next_block = h'.next_block }

-- on the way: the header and its table stand in memory, the map is the old one, each bit of the bucket has lost few bytes at
-- most, and the bucket is that of the hash
pub record IsGrown (old new : List ℕ) (h : Header) (table : Avail) (hash at : ℕ) (bucket : Bucket) : Type 0 where
  pub blocks : List StackBlock
  pub held : IsHeld new h table.next_block (free_lists table.extents blocks [])
  pub here : IsBucketOf new h hash at bucket
  pub map : (key : List ℕ) → value_at new h key ≡ value_at old (file_header old) key
  pub lost : lost_in new h (free_extents (free_lists table.extents blocks [])) ≤ lost_total old + 96 * bucket.bits

-- at the end: the file may be changed, its map is the old one, and the bucket is that of the hash
pub record IsRoomMade (old new : List ℕ) (h : Header) (table : Avail) (hash at : ℕ) (bucket : Bucket) : Type 0 where
  pub still_open : IsOpen new h table
  pub here : IsBucketOf new h hash at bucket
  pub map : pair_map (records new) ≡ pair_map (records old)
  pub lost : lost_total new ≤ lost_total old + (24 * 32 + 24 * 64)

-- the header's block alone was written, and the file is whole by itself
pub record IsClosed (old new : List ℕ) (h : Header) (table : Avail) (blocks : List StackBlock) : Type 0 where
  pub settled : IsSettled old new h table blocks
  pub front : List ℕ
  pub is : new ≡ written old 0 front
  pub size : length front ≡ h.block

-- where the content is told, a held file becomes such a one
abbrev pub Closes : (old new : View) (f : ℕ) (h : Header) (table : Avail) → Type 0
Closes old new f h table =
    (c : Content) (x : File) (blocks : List StackBlock) → content_of old.told ≡ Some c → c.files f ≡ Some x → IsHeld x.bytes h table.next_block (free_lists table.extents blocks [])
    → FileAfter new f (λ file. IsClosed x.bytes file h table blocks)

-- ---- headers and writes over one round

-- the bytes of the run of a bucket in a directory
abbrev pub run_size : Header → ℕ → ℕ
run_size h bits = dir_size_of (h.dir_bits - bits)

-- the directory has more bits than a bucket now, and the space grew by a new directory and three blocks at most
pub record IsWide (bits : ℕ) (h h' : Header) : Type 0 where
  pub head : IsWider h h'
  pub less : bits < h'.dir_bits
  pub growth : h'.next_block + 2 * dir_size_of h.dir_bits ≤ h.next_block + 3 * h.block + 2 * dir_size_of h'.dir_bits
  pub longer : dir_size_of h.dir_bits ≤ dir_size_of h'.dir_bits
  pub run : 2 * run_size h' (bits + 1) ≤ run_size h bits + 8
  pub half : run_size h' (bits + 1) ≤ dir_size_of h.dir_bits

-- the space grew by the directories that were made and six blocks at most
pub record IsDivided (h h' : Header) : Type 0 where
  pub head : IsWider h h'
  pub growth : h'.next_block + 2 * dir_size_of h.dir_bits ≤ h.next_block + 6 * h.block + 2 * dir_size_of h'.dir_bits

-- what a division of a bucket writes: of its run one half, the directories that were made, and four blocks at most
pub record DivisionWrites (h h' : Header) (bits : ℕ) (old new : View) : Type 0 where
  pub bytes : new.bytes_written + run_size h' (bits + 1) + 2 * dir_size_of h.dir_bits ≤ old.bytes_written + run_size h bits + 4 * h.block + 2 * dir_size_of h'.dir_bits
  pub clones : new.clones ≡ old.clones
