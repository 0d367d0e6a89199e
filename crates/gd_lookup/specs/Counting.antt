-- Runs of entries of one bucket, and their blocks.
use Rattle.std.specs.Prelude.{◌≡◌, ℕ, ◌+◌, ◌-◌, ◌*◌, ◌/◌, ◌<◌, ◌≤◌, ◌^◌, Bool, ◌&&◌, List, None}
use Rattle.gd_format.specs.declared.Counts.{Counts}
use Rattle.gd_format.specs.declared.Header.{Header}
use Rattle.gd_format.specs.Bucket.{is_from_zero}
use Rattle.gd_format.specs.HeaderFault.{is_within, natural}
use Rattle.gd_format.specs.File.{block_of, entries_of, entries_fault, run_at}

-- a run begins at the entry, or the directory ends there
pub record Begins (file : List ℕ) (h : Header) (i : ℕ) : Type 0 where
  pub within : i ≤ entries_of h
  pub judged : entries_fault file h (entries_of h - i) 0 i ≡ None

-- the block is that of the bucket of an entry
pub record IsBlock (file : List ℕ) (h : Header) (block : List ℕ) : Type 0 where
  pub index : ℕ
  pub within : index < entries_of h
  pub block_is : block ≡ block_of file h index

-- the counts give a run and a number of records
abbrev pub have_share : ℕ → Counts → Bool
have_share bits c = is_within c.bits 0 bits && is_from_zero c.full

-- how many entries a bucket with these counts has
abbrev pub run_of : ℕ → Counts → ℕ
run_of bits c = 2 ^ (bits - natural c.bits)

-- the entry behind the run of an entry
abbrev pub behind : List ℕ → Header → ℕ → ℕ
behind file h i = (i / run_at file h i + 1) * run_at file h i
