-- A sound file by parts: those of a readable file, and the points on its space.
use Rattle.std.specs.Prelude.{◌≡◌, ℕ, ◌<◌, ◌≤◌, ◌↔◌, true, List, length, None}
use Rattle.gd_format.specs.declared.Header.{Header}
use Rattle.gd_format.specs.HeaderFault.{natural, header_fault_of}
use Rattle.gd_format.specs.File.{front_of, entry_at, entries_of}
use Rattle.gd_format.specs.Avail.{is_avail}
use Rattle.gd_format.specs.Sound.{IsSound, table_of, most_of, top_of, stack_fault, is_free_right, extents_held, space_fault}
use Rattle.gd_file_laws.specs.Parts.{HasParts, file_header}
use Rattle.gd_file_laws.specs.Cover.{extents_in, EndBy, IsOnce}

-- the points on space, of a readable file
pub record HasPoints (file : List ℕ) (h : Header) : Type 0 where
  pub short : length file ≤ h.next_block
  pub table : is_avail (table_of file h) h.avail_size ≡ true
  pub stack : stack_fault file (most_of h) (top_of file h) ≡ None
  pub free : (i : ℕ) → i < entries_of h → is_free_right file h (natural (entry_at file h i)) ≡ true
  pub ends : EndBy h.next_block (extents_in (extents_held file h))
  pub once : IsOnce (extents_in (extents_held file h))

pub record HasSoundParts (file : List ℕ) : Type 0 where
  pub header : header_fault_of (front_of file) (length file) ≡ None
  pub parts : HasParts file (file_header file)
  pub points : HasPoints file (file_header file)

-- a file is sound exactly where its parts and the points are right
abbrev pub SoundByParts : Type 0
SoundByParts = (file : List ℕ) → IsSound file ↔ HasSoundParts file

-- the points by themselves, of a header whose blocks have bytes
abbrev pub PointsByCover : Type 0
PointsByCover = (file : List ℕ) (h : Header) → 0 < h.block → (space_fault file h ≡ None) ↔ HasPoints file h
