-- The block of a bucket, and that of the header.
use Rattle.std.specs.Prelude.{◌≡◌, ℕ, ◌≤◌, true, List, length, None}
use Rattle.std.specs.List.{All}
use Rattle.gd_format.specs.declared.Header.{Header}
use Rattle.gd_format.specs.Avail.{Avail, avail_at, count_at, is_avail}
use Rattle.gd_format.specs.Bucket.{Bucket, bucket_at, is_bucket}
use Rattle.gd_format.specs.File.{front_of, is_count_right}
use Rattle.gd_format.specs.HeaderFault.{header_of, header_fault_of, is_within}
use Rattle.gd_format.specs.Sound.{table_of}
use Rattle.gd_layout.specs.Fits.{FitsExtent, IsHeaderOf}

-- a block spells this bucket
pub record SpellsBucket (bucket : Bucket) (elems : ℕ) (block : List ℕ) : Type 0 where
  pub reads : bucket_at block elems ≡ bucket
  pub right : is_bucket block elems ≡ true
  pub count : is_count_right block elems ≡ true

-- a block spells this header and this table
pub record SpellsHeader (h : Header) (table : Avail) (front : List ℕ) : Type 0 where
  pub reads : header_of (front_of front) ≡ h
  pub fault : (len : ℕ) → IsHeaderOf h len → header_fault_of (front_of front) len ≡ None
  pub table_is : avail_at (table_of front h) table.room ≡ table
  pub number : is_within (count_at (table_of front h)) 0 h.avail_size ≡ true
  pub right : All FitsExtent table.extents → (most : ℕ) → length table.extents ≤ most → is_avail (table_of front h) most ≡ true
