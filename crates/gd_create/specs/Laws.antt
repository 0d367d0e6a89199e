-- What a new file is.
use Rattle.std.specs.Prelude.{◌≡◌, ℕ, ◌+◌, ◌*◌, ◌<◌, List, [], ◌∷◌, length, replicate, pos}
use Rattle.gd_base.specs.declared.errors.Format.{Format}
use Rattle.gd_format.specs.declared.Header.{Header}
use Rattle.gd_format.specs.Avail.{avail_at}
use Rattle.gd_format.specs.Bucket.{bucket_at}
use Rattle.gd_format.specs.Field.{bytes_at}
use Rattle.gd_format.specs.declared.Slot.TheVariants.{Empty}
use Rattle.gd_format.specs.File.{entry_at, entries_of, records}
use Rattle.gd_format.specs.Sound.{IsSound, extent, table_of}
use Rattle.gd_format.specs.Headers.{IsHeader}
use Rattle.gd_file_laws.specs.Parts.{file_header}
use Rattle.gd_map_laws.specs.NewFile.{IsNewFile}
use Rattle.gd_layout.specs.Fits.{FitsHeader}
use Rattle.gd_create.specs.NewFile.{IsNewBlock, new_header, new_file}

-- a sound file without a record, of three blocks, with this header; its table and its stack are empty; its bucket has no
-- full slot, and the fourth block as its free extent
pub record IsNew (file : List ℕ) (h : Header) : Type 0 where
  pub header : file_header file ≡ h
  pub sound : IsSound file
  pub records : records file ≡ []
  pub size : length file ≡ 3 * h.block
  pub next : h.next_block ≡ length file + h.block
  pub entries : (i : ℕ) → i < entries_of h → entry_at file h i ≡ pos (2 * h.block)
  pub table : (most : ℕ) → avail_at (table_of file h) most ≡ record { extents = []; next_block = 0; room = most }
  pub bucket : bucket_at (bytes_at file (2 * h.block) h.block) h.elems ≡ record { bits = 0; free = extent (3 * h.block) h.block ∷ []; slots = replicate h.elems Empty }
  pub parts : IsNewFile file (2 * h.block)

abbrev pub NewFileIsSound : Type 0
NewFileIsSound = (format : Format) (block bits : ℕ) → IsNewBlock block bits → IsNew (new_file format block bits) (new_header format block bits)

-- its header can be written, and no test refuses it
abbrev pub NewHeaderFits : Type 0
NewHeaderFits = (format : Format) (block bits : ℕ) → IsNewBlock block bits → FitsHeader (new_header format block bits) × IsHeader (new_header format block bits)
