-- A file with one bucket and no record.
use Rattle.std.specs.Prelude.{◌≡◌, ℕ, ◌+◌, ◌<◌, ◌≤◌, pos, true, List, [], length, None}
use Rattle.gd_format.specs.Field.{bytes_at}
use Rattle.gd_format.specs.HeaderFault.{dir_size_of, header_fault_of}
use Rattle.gd_format.specs.Bucket.{slots_at, is_bucket}
use Rattle.gd_format.specs.Avail.{extents_at, is_avail}
use Rattle.gd_format.specs.File.{front_of, bits_at, is_count_right, entry_at, entries_of, records}
use Rattle.gd_format.specs.Slots.{count, is_full}
use Rattle.gd_format.specs.Sound.{IsSound, extent, table_of, top_of, is_free_right}
use Rattle.gd_format.specs.Covers.{has_byte, cover}
use Rattle.gd_file_laws.specs.Parts.{file_header}
use Rattle.gd_map_laws.specs.Space.{one_if, free_in}

-- how many of these have a byte: the header's block, the directory, the bucket and its free extents
unfoldable pub new_cover : List ℕ → ℕ → ℕ → ℕ
new_cover file at b =
    one_if (has_byte (extent 0 (file_header file).block) b) + one_if (has_byte (extent (file_header file).dir (dir_size_of (file_header file).dir_bits)) b)
    + one_if (has_byte (extent at (file_header file).block) b) + cover (free_in (bytes_at file at (file_header file).block)) b

-- all entries have the one bucket, which is empty and of 0 bits; the table and the stack are empty
pub record IsNewFile (file : List ℕ) (at : ℕ) : Type 0 where
  pub header : header_fault_of (front_of file) (length file) ≡ None
  pub short : length file ≤ (file_header file).next_block
  pub entries : (i : ℕ) → i < entries_of (file_header file) → entry_at file (file_header file) i ≡ pos at
  pub in_file : at + (file_header file).block ≤ length file
  pub fields : is_bucket (bytes_at file at (file_header file).block) (file_header file).elems ≡ true
  pub number : is_count_right (bytes_at file at (file_header file).block) (file_header file).elems ≡ true
  pub bits : bits_at (bytes_at file at (file_header file).block) ≡ 0
  pub empty : count is_full (slots_at (bytes_at file at (file_header file).block) (file_header file).elems) ≡ 0
  pub free : is_free_right file (file_header file) at ≡ true
  pub table : is_avail (table_of file (file_header file)) (file_header file).avail_size ≡ true
  pub table_empty : extents_at (table_of file (file_header file)) ≡ []
  pub no_stack : top_of file (file_header file) ≡ 0
  pub once : (b : ℕ) → new_cover file at b ≤ 1
  pub below : (b : ℕ) → 0 < new_cover file at b → b < (file_header file).next_block

abbrev pub NewIsSound : Type 0
NewIsSound = (file : List ℕ) (at : ℕ) → IsNewFile file at → IsSound file × (records file ≡ [])
