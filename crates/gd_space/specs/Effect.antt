-- What a change of free space does.
use Rattle.std.specs.Prelude.{◌≡◌, ◌⊎◌, ℕ, ◌+◌, ◌-◌, ◌*◌, ◌/◌, ◌^◌, ◌<◌, ◌≤◌, Bool, false, ◌&&◌, not, nat_lt, nat_le, ◌==◌, List, [], ◌∷◌, ◌++◌, length, max, None, if◌then◌else◌}
use Rattle.gd_format.specs.declared.Extent.{Extent}
use Rattle.gd_format.specs.Field.{bytes_at}
use Rattle.gd_format.specs.Covers.{cover, size_sum}
use Rattle.gd_format.specs.FreeSide.{FreeLists, StackBlock, free_extents, block_extent, IsFreeSide}
use Rattle.gd_space.specs.Sizes.{largest}
use Rattle.gd_format.specs.Sound.{extent}
use Rattle.gd_format.specs.Avail.{avail_size}
use Rattle.gd_format.specs.declared.Header.{Header}
use Rattle.gd_vault.specs.Views.{View, content_of}

-- the file gets no shorter, and each range that no free extent meets has the bytes that it had
pub record Keeps (free : List Extent) (old new : List ℕ) : Type 0 where
  pub longer : length old ≤ length new
  pub bytes : (at n : ℕ) → at + n ≤ length old → ((b : ℕ) → at ≤ b → b < at + n → cover free b ≡ 0) → bytes_at new at n ≡ bytes_at old at n

-- what lies past the end becomes part of the file
abbrev pub grown : ℕ → ℕ → List Extent
grown next next' = extent next (next' - next) ∷ []

-- what is in free extents afterwards, and what was taken, comes from free extents, from what was given and from growth;
-- at most so many bytes are lost on the way
pub record Moves (free free' : List Extent) (next next' : ℕ) (given taken : List Extent) (lost : ℕ) : Type 0 where
  pub grows : next ≤ next'
  pub bytes : (b : ℕ) → cover free' b + cover taken b ≤ cover free b + cover given b + cover (grown next next') b
  pub least : size_sum free' + size_sum taken ≤ size_sum free + size_sum given + (next' - next)
  pub most : size_sum free + size_sum given + (next' - next) ≤ size_sum free' + size_sum taken + lost

-- an extent lies in another one
pub record LiesIn (e outer : Extent) : Type 0 where
  pub start : outer.at ≤ e.at
  pub ends : e.at + e.size ≤ outer.at + outer.size

abbrev pub LiesInOne : Extent → List Extent → Type 0
LiesInOne e [] = ⊥
LiesInOne e (f ∷ fs) = LiesIn e f ⊎ LiesInOne e fs

-- ---- when the file grows, and by how much

-- is a block of the stack taken back?
abbrev pub is_taken_back : (capacity : ℕ) (table : List Extent) (blocks : List StackBlock) → Bool
is_taken_back capacity table [] = false
is_taken_back capacity table (b ∷ bs) = nat_lt (2 * length table) capacity && nat_le (length table + length b.extents + 1) capacity

-- the table after that
abbrev pub table_after : (capacity : ℕ) (table : List Extent) (blocks : List StackBlock) → List Extent
table_after capacity table [] = table
table_after capacity table (b ∷ bs) = if is_taken_back capacity table (b ∷ bs) then table ++ b.extents ++ block_extent b ∷ [] else table

-- the stack after that
abbrev pub blocks_after : (capacity : ℕ) (table : List Extent) (blocks : List StackBlock) → List StackBlock
blocks_after capacity table [] = []
blocks_after capacity table (b ∷ bs) = if is_taken_back capacity table (b ∷ bs) then bs else b ∷ bs

-- the fewest whole blocks that hold n bytes
abbrev pub whole_blocks : ℕ → ℕ → ℕ
whole_blocks n block = (n + (block - 1)) / block * block

-- half of a full table of this capacity
abbrev pub half_size : ℕ → ℕ
half_size capacity = avail_size (capacity / 2)

-- by how much the file grows for n bytes, where the largest extent at hand has most bytes, and the table and the bucket so many extents
abbrev pub growth : (n block capacity most table bucket : ℕ) → ℕ
growth n block capacity most table bucket =
    if nat_le n most then 0
    else if not (whole_blocks n block == n) && nat_le 6 bucket && nat_le capacity table && nat_lt most (half_size capacity) then whole_blocks n block + block
    else whole_blocks n block

-- by how much it grows where the last extents of the table are pushed as a block
abbrev pub push_growth : (count : ℕ) → Header → (table bucket : List Extent) → ℕ
push_growth count h table bucket = if nat_lt (max (largest table) (largest bucket)) (avail_size count) then h.block else 0

-- where a full table is made to have room
abbrev pub room_growth : Header → (table bucket : List Extent) → ℕ
room_growth h table bucket = if nat_le h.avail_size (length table) then push_growth (h.avail_size / 2) h table bucket else 0

-- where an extent is given
abbrev pub give_growth : Extent → Header → (table bucket : List Extent) → ℕ
give_growth e h table bucket = if nat_lt 4 e.size && nat_le 6 (length bucket) then room_growth h table bucket else 0

-- where the capacity of the table is changed
abbrev pub recut_growth : (capacity : ℕ) → Header → (table bucket : List Extent) → ℕ
recut_growth capacity h table bucket = if nat_lt capacity (length table) then push_growth (length table - capacity) h table bucket else 0

-- ---- when a block is pushed, and how many bytes that writes

-- is a block pushed for n bytes that are taken? Then no extent at hand has them, something is over of new room, and the bucket and
-- the table are full
abbrev pub take_pushes : (n : ℕ) → Header → (table bucket : List Extent) → Bool
take_pushes n h table bucket = nat_lt (max (largest table) (largest bucket)) n && not (whole_blocks n h.block == n) && nat_le 6 (length bucket) && nat_le h.avail_size (length table)

-- where an extent is given: then it goes to the table, which is full
abbrev pub give_pushes : Extent → Header → (table bucket : List Extent) → Bool
give_pushes e h table bucket = nat_lt 4 e.size && nat_le 6 (length bucket) && nat_le h.avail_size (length table)

-- where the capacity of the table is changed
abbrev pub recut_pushes : (capacity : ℕ) → (table : List Extent) → Bool
recut_pushes capacity table = nat_lt capacity (length table)

-- a block with so many extents, to which one more comes from new room, has at most this size
abbrev pub push_size : ℕ → ℕ
push_size count = avail_size (count + 1)

abbrev pub give_writes : Extent → Header → (table bucket : List Extent) → ℕ
give_writes e h table bucket = if give_pushes e h table bucket then push_size (h.avail_size / 2) else 0

abbrev pub recut_writes : (capacity : ℕ) → (table : List Extent) → ℕ
recut_writes capacity table = if recut_pushes capacity table then push_size (length table - capacity) else 0

-- how many bytes are kept for the block that is pushed where the capacity is changed
abbrev pub recut_room : (capacity : ℕ) → Header → (table : List Extent) → ℕ
recut_room capacity h table = max (8 * max h.avail_size capacity + 32) (push_size (length table - capacity))

-- how many of them are lost at most
abbrev pub recut_loses : (capacity : ℕ) → Header → (table : List Extent) → ℕ
recut_loses capacity h table = if recut_pushes capacity table then recut_room capacity h table - avail_size (length table - capacity) else 0

-- what one call does to a file, its header, the top of its stack and its free side
pub record Change (file file' : List ℕ) (h h' : Header) (top top' : ℕ) (s s' : FreeLists) (given taken : List Extent) (lost : ℕ) : Type 0 where
  pub side : IsFreeSide file' h' top' s'
  pub keeps : Keeps (free_extents s ++ given) file file'
  pub moves : Moves (free_extents s) (free_extents s') h.next_block h'.next_block given taken lost

-- an extent that may be given: it ends at or before a place, and no free extent has a byte of it
pub record CanBeGiven (next : ℕ) (free : List Extent) (e : Extent) : Type 0 where
  pub start : 0 < e.size → 0 < e.at
  pub fits : e.size < 2 ^ 31
  pub ends : e.at + e.size ≤ next
  pub once : (b : ℕ) → cover free b + cover (e ∷ []) b ≤ 1

-- what a give does; the free side is right where the extent may be given
pub record Given (file file' : List ℕ) (h h' : Header) (top top' : ℕ) (s s' : FreeLists) (e : Extent) : Type 0 where
  pub keeps : Keeps (free_extents s) file file'
  pub moves : Moves (free_extents s) (free_extents s') h.next_block h'.next_block (e ∷ []) [] 32
  pub side : CanBeGiven h.next_block (free_extents s) e → IsFreeSide file' h' top' s'

-- a call that writes so many bytes at most, and clones nothing
pub record WritesAtMost (most : ℕ) (old new : View) : Type 0 where
  pub bytes : new.bytes_written ≤ old.bytes_written + most
  pub clones : new.clones ≡ old.clones

-- the vault does not tell its content
abbrev pub TellsNone : View → Type 0
TellsNone v = content_of v.told ≡ None
