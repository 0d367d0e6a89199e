-- The space of a file of which one bucket is split.
use Rattle.std.specs.Prelude.{ℕ, ◌+◌, ◌*◌, ◌<◌, ◌≤◌, List}
use Rattle.gd_format.specs.declared.Header.{Header}
use Rattle.gd_format.specs.declared.Extent.{Extent}
use Rattle.gd_format.specs.Field.{bytes_at}
use Rattle.gd_format.specs.HeaderFault.{natural}
use Rattle.gd_format.specs.File.{entry_at, entries_of}
use Rattle.gd_format.specs.Sound.{extent}
use Rattle.gd_format.specs.Covers.{has_byte, cover}
use Rattle.gd_file_laws.specs.Parts.{HasParts}
use Rattle.gd_map_laws.specs.Space.{free_in, one_if, free_of, grown, IsSpaceRight}
use Rattle.gd_map_laws.specs.Split.{SplitChange, DoubleChange}

-- the second bucket's block is taken from the space
pub record SplitMoves (old new : List ℕ) (h : Header) (i at next next' : ℕ) (pool pool' : List Extent) : Type 0 where
  pub grows : next ≤ next'
  pub moves : (b : ℕ) → cover pool' b + cover (free_in (bytes_at new (natural (entry_at old h i)) h.block)) b + cover (free_in (bytes_at new at h.block)) b + one_if (has_byte (extent at h.block) b) ≤ cover pool b + cover (free_of old h i) b + grown next next' b

abbrev pub SplitSpaceLaw : Type 0
SplitSpaceLaw =
    (old new : List ℕ) (h : Header) (i at bits half q next next' : ℕ) (pool pool' : List Extent) → h.dir_bits ≤ 24 → HasParts old h → i < entries_of h
    → SplitChange old new h i at bits half q → IsSpaceRight old h next pool → SplitMoves old new h i at next next' pool pool' → IsSpaceRight new h next' pool'

-- the new directory's place is taken, the old one's is given
pub record DoubleMoves (h h' : Header) (next next' : ℕ) (pool pool' : List Extent) : Type 0 where
  pub grows : next ≤ next'
  pub moves : (b : ℕ) → cover pool' b + one_if (has_byte (extent h'.dir (8 * entries_of h')) b) ≤ cover pool b + one_if (has_byte (extent h.dir (8 * entries_of h)) b) + grown next next' b

abbrev pub DoubleSpaceLaw : Type 0
DoubleSpaceLaw =
    (old new : List ℕ) (h h' : Header) (next next' : ℕ) (pool pool' : List Extent) → h'.dir_bits ≤ 24 → HasParts old h
    → DoubleChange old new h h' → IsSpaceRight old h next pool → DoubleMoves h h' next next' pool pool' → IsSpaceRight new h' next' pool'
