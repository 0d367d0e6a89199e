-- The free side of a file: the table of the header, the stack of blocks, and the free extents of one bucket.
use Rattle.std.specs.Prelude.{◌≡◌, ℕ, ◌+◌, ◌^◌, ◌<◌, ◌≤◌, true, List, [], ◌∷◌, ◌++◌, length}
use Rattle.std.specs.List.{AllByRecursion}
use Rattle.gd_format.specs.declared.Extent.{Extent}
use Rattle.gd_format.specs.declared.Header.{Header}
use Rattle.gd_format.specs.Field.{bytes_at}
use Rattle.gd_format.specs.Avail.{next_at, avail_size, extents_at}
use Rattle.gd_format.specs.Sound.{extent, most_of, is_stack_block, stack_block}
use Rattle.gd_format.specs.Covers.{cover}

-- ---- the stack as a list of blocks

pub record StackBlock : Type 0 where
  pub at : ℕ
  pub extents : List Extent
  pub next : ℕ

-- the file has this block
pub record IsBlockOf (file : List ℕ) (most : ℕ) (b : StackBlock) : Type 0 where
  pub right : is_stack_block file most b.at ≡ true
  pub extents : b.extents ≡ extents_at (stack_block file b.at)
  pub next : b.next ≡ next_at (bytes_at file b.at 16)

-- the stack from an address on is these blocks
abbrev pub IsStack : List ℕ → ℕ → ℕ → List StackBlock → Type 0
IsStack file most top [] = top ≡ 0
IsStack file most top (b ∷ bs) = (b.at ≡ top) × IsBlockOf file most b × IsStack file most b.next bs

abbrev pub block_extent : StackBlock → Extent
block_extent b = extent b.at (avail_size (length b.extents))

-- each block, and then its extents
abbrev pub stack_extents : List StackBlock → List Extent
stack_extents [] = []
stack_extents (b ∷ bs) = block_extent b ∷ b.extents ++ stack_extents bs

-- ---- the free side

pub record FreeLists : Type 0 where
  pub table : List Extent
  pub blocks : List StackBlock
  pub bucket : List Extent

-- the extents of the table, of the stack with its blocks, and of the bucket
abbrev pub free_extents : FreeLists → List Extent
free_extents s = s.table ++ stack_extents s.blocks ++ s.bucket

-- an extent behind the first byte, with a size of the format, that ends at or before a place
pub record IsBelow (next : ℕ) (e : Extent) : Type 0 where
  pub start : 0 < e.at
  pub some : 0 < e.size
  pub fits : e.size < 2 ^ 31
  pub ends : e.at + e.size ≤ next

-- what the free side of a sound file is, with this address of the first block of the stack
pub record IsFreeSide (file : List ℕ) (h : Header) (top : ℕ) (s : FreeLists) : Type 0 where
  pub behind : 0 < h.next_block
  pub short : length file ≤ h.next_block
  pub stack : IsStack file (most_of h) top s.blocks
  pub below : AllByRecursion (IsBelow h.next_block) (free_extents s)
  pub once : (b : ℕ) → cover (free_extents s) b ≤ 1
