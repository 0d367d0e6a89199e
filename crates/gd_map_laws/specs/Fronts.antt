-- What the header's block tells of a file, and how many records a file has.
use Rattle.std.specs.Prelude.{◌≡◌, ℕ, ◌≤◌, List, length}
use Rattle.gd_format.specs.declared.Header.{Header}
use Rattle.gd_format.specs.Field.{bytes_at}
use Rattle.gd_format.specs.HeaderFault.{natural}
use Rattle.gd_format.specs.Bucket.{counts_at}
use Rattle.gd_format.specs.File.{IsReadable, front_of, entries_of, block_of, is_first, records}
use Rattle.gd_format.specs.Sound.{table_of}
use Rattle.gd_file_laws.specs.Parts.{file_header}
use Rattle.gd_map_laws.specs.Space.{sum_of}

-- the front of the file, and the table, are those of its first block
pub record FrontRead (file front : List ℕ) (h : Header) : Type 0 where
  pub front_is : front_of file ≡ front_of front
  pub table_is : table_of file h ≡ table_of front h

abbrev pub FrontLaw : Type 0
FrontLaw = (file front : List ℕ) (h : Header) → 80 ≤ h.block → bytes_at file 0 h.block ≡ front → FrontRead file front h

-- each bucket's count field has a share
abbrev pub RecordsCount : Type 0
RecordsCount =
    (file : List ℕ) → IsReadable file
    → length (records file) ≡ sum_of (is_first file (file_header file)) (λ i. natural (counts_at (block_of file (file_header file) i)).full) (entries_of (file_header file))
