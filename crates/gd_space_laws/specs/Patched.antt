-- A file with the block of one bucket, and the header's block with its table, as they are held in memory.
use Rattle.std.specs.Prelude.{◌≡◌, ℕ, ◌+◌, ◌-◌, ◌<◌, ◌≤◌, pos, true, List, length, None}
use Rattle.gd_format.specs.declared.Header.{Header}
use Rattle.gd_format.specs.HeaderFault.{header_of, header_fault_of, is_within}
use Rattle.gd_format.specs.Headers.{IsHeader}
use Rattle.gd_format.specs.Bucket.{Bucket, bucket_at}
use Rattle.gd_format.specs.Avail.{Avail, avail_at, raw_avail_at}
use Rattle.gd_format.specs.File.{front_of, entry_at, entries_of, is_first}
use Rattle.gd_format.specs.Sound.{table_of, space_fault}
use Rattle.gd_format.specs.Covers.{cover}
use Rattle.gd_layout.specs.Fits.{IsHeaderOf}
use Rattle.gd_layout.specs.Writing.{raw_avail_from}
use Rattle.gd_file_laws.specs.Frame.{written}
use Rattle.gd_map_laws.specs.Space.{free_of, sum_of}
use Rattle.gd_map_laws.specs.Sounds.{pool_of}

-- the file with a block written at a place, and then its first block
unfoldable pub patched : List ℕ → ℕ → (block front : List ℕ) → List ℕ
patched file at block front = written (written file at block) 0 front

-- the bytes of a bucket's block and of the header's block read as these values
pub record AreSpelled (h : Header) (table : Avail) (bucket : Bucket) (block front : List ℕ) : Type 0 where
  pub block_size : length block ≡ h.block
  pub front_size : length front ≡ h.block
  pub reads : bucket_at block h.elems ≡ bucket
  pub header : header_of (front_of front) ≡ h
  pub fault : (len : ℕ) → IsHeaderOf h len → header_fault_of (front_of front) len ≡ None
  pub head : raw_avail_at (table_of front h) ≡ raw_avail_from table h.avail_size
  pub holds : avail_at (table_of front h) table.room ≡ table

-- the bucket stands at an entry of the directory, all buckets lie in the file, and the patched file has no header fault and
-- keeps the four points of a sound file
pub record IsPatch (file : List ℕ) (h : Header) (table : Avail) (i at : ℕ) (bucket : Bucket) (block front : List ℕ) : Type 0 where
  pub spelled : AreSpelled h table bucket block front
  pub sizes : IsHeader h
  pub entry : i < entries_of h
  pub place : entry_at (patched file at block front) h i ≡ pos at
  pub block_in : h.block ≤ length file
  pub buckets_in : (j : ℕ) → j < entries_of h → is_within (entry_at (patched file at block front) h j) 0 (length file - h.block) ≡ true
  pub header : header_fault_of (front_of (patched file at block front)) (length (patched file at block front)) ≡ None
  pub points : space_fault (patched file at block front) h ≡ None

-- in how many free extents and blocks of the stack a byte is
unfoldable pub free_cover : List ℕ → Header → ℕ → ℕ
free_cover file h b = cover (pool_of file h) b + sum_of (is_first file h) (λ j. cover (free_of file h j) b) (entries_of h)
