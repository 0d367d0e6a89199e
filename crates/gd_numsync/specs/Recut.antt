-- A table of free space with another capacity.
use Rattle.std.specs.Prelude.{◌≡◌, ℕ, ◌+◌, ◌<◌, ◌≤◌, List}
use Rattle.gd_format.specs.declared.Header.{Header}
use Rattle.gd_format.specs.Avail.{Avail}
use Rattle.gd_format.specs.Bucket.{Bucket, bucket_at}
use Rattle.gd_format.specs.File.{block_of, entries_of, entry_at, records}
use Rattle.gd_format.specs.HeaderFault.{natural}
use Rattle.gd_format.specs.Sound.{lost_total}
use Rattle.gd_numsync.specs.Open.{IsOpenOn}

-- the bucket of an entry of the directory, at its address
pub record IsBucketAt (file : List ℕ) (h : Header) (at : ℕ) (bucket : Bucket) : Type 0 where
  pub index : ℕ
  pub within : index < entries_of h
  pub place : at ≡ natural (entry_at file h index)
  pub bucket_is : bucket ≡ bucket_at (block_of file h index) h.elems

-- the file is sound, with this header and this table; its records, in their order, stay; and at most so many more bytes are lost
pub record IsRecut (h : Header) (table : Avail) (more : ℕ) (old new : List ℕ) : Type 0 where
  pub is_open : IsOpenOn h table new
  pub same : records new ≡ records old
  pub lost : lost_total new ≤ lost_total old + more
