-- What another header makes of a sound file.
use Rattle.std.specs.Prelude.{◌≡◌, ℕ, List, length}
use Rattle.gd_format.specs.declared.Header.{Header}
use Rattle.gd_format.specs.Avail.{Avail}
use Rattle.gd_file_laws.specs.Frame.{written}
use Rattle.gd_numsync.specs.Numbered.{IsKept, numbered}
use Rattle.gd_numsync.specs.Open.{AreFit, IsOpenOn}
use Rattle.gd_numsync.specs.Spells.{SpellsFront}

-- the directory, the sizes and the end of space stay: all that the rest of a file depends on
pub record IsLike (h h' : Header) : Type 0 where
  pub block : h'.block ≡ h.block
  pub dir : h'.dir ≡ h.dir
  pub bits : h'.dir_bits ≡ h.dir_bits
  pub elems : h'.elems ≡ h.elems
  pub next_block : h'.next_block ≡ h.next_block

-- a header like the old one with the table of the old one, written into the header's block, keeps the file sound, its
-- list of records and what is lost; the table may stand at another place of the block
abbrev pub LikeIsKept : Type 0
LikeIsKept =
    (file front : List ℕ) (h h' : Header) (table : Avail) → IsOpenOn h table file → IsLike h h' → AreFit h' table (length front) → SpellsFront h' table front
    → IsKept h' table file (written file 0 front)

-- so does another numsync
abbrev pub NumberIsKept : Type 0
NumberIsKept =
    (file front : List ℕ) (h : Header) (table : Avail) (n : ℕ) → IsOpenOn h table file → SpellsFront (numbered h n) table front → length front ≡ h.block
    → IsKept (numbered h n) table file (written file 0 front)
