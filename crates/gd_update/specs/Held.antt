-- A file of which the header, its table and some free extents stand in memory.
use Rattle.std.specs.Prelude.{◌≡◌, ℕ, ◌-◌, ◌/◌, ◌^◌, ◌<◌, pos, List, Some}
use Rattle.std.specs.List.{AllByRecursion}
use Rattle.gd_format.specs.declared.Extent.{Extent}
use Rattle.gd_format.specs.declared.Header.{Header}
use Rattle.gd_format.specs.Field.{bytes_at}
use Rattle.gd_format.specs.Bucket.{Bucket, bucket_at}
use Rattle.gd_format.specs.File.{entry_at, entries_of}
use Rattle.gd_format.specs.FreeSide.{FreeLists, StackBlock, IsBelow, IsFreeSide, free_extents}
use Rattle.gd_map_laws.specs.Sums.{sum_below}
use Rattle.gd_map_laws.specs.Space.{free_of, all_cover}
use Rattle.gd_map_laws.specs.Change.{IsSoundFile}
use Rattle.gd_space.specs.Calls.{free_lists}
use Rattle.gd_vault.specs.Content.{File, Content}
use Rattle.gd_vault.specs.Views.{View, content_of}

-- how many bytes before the end of space are in no extent
abbrev pub lost_in : List ℕ → Header → List Extent → ℕ
lost_in file h pool = h.next_block - sum_below (all_cover file h pool) h.next_block

-- the file is sound, but that its front does not tell the header and the table yet, and no bucket the loose extents
pub record IsHeld (file : List ℕ) (h : Header) (top : ℕ) (s : FreeLists) : Type 0 where
  pub file_is : IsSoundFile file h h.next_block (free_extents s)
  pub side : IsFreeSide file h top s
  pub free : (i : ℕ) → i < entries_of h → AllByRecursion (IsBelow h.next_block) (free_of file h i)

-- where the content is told, the file is that of what stands in memory
abbrev pub Holds : View → ℕ → Header → ℕ → List Extent → List Extent → Type 0
Holds v f h top table loose = (c : Content) (x : File) → content_of v.told ≡ Some c → c.files f ≡ Some x → (blocks : List StackBlock) × IsHeld x.bytes h top (free_lists table blocks loose)

-- the directory's index of a hash
abbrev pub index_at : Header → ℕ → ℕ
index_at h hash = hash / 2 ^ (31 - h.dir_bits)

-- the bucket of a hash stands at an address
pub record IsBucketOf (file : List ℕ) (h : Header) (hash at : ℕ) (bucket : Bucket) : Type 0 where
  pub entry : entry_at file h (index_at h hash) ≡ pos at
  pub block : bucket_at (bytes_at file at h.block) h.elems ≡ bucket

abbrev pub HasBucket : View → ℕ → Header → (hash at : ℕ) → Bucket → Type 0
HasBucket v f h hash at bucket = (c : Content) (x : File) → content_of v.told ≡ Some c → c.files f ≡ Some x → IsBucketOf x.bytes h hash at bucket
