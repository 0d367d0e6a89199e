-- A file that may be opened to write: what it has of free space, and its extents, of which none meets another.
use Rattle.std.specs.Prelude.{◌≡◌, ℕ, zero, suc, ◌+◌, ◌-◌, ◌/◌, ◌^◌, Bool, true, not, ◌&&◌, ◌||◌, ◌==◌, nat_lt, nat_le, List, [], ◌∷◌, ◌++◌, length, map, filter, Option, None, if◌then◌else◌}
use Rattle.std.specs.List.{range_with_len, flat_map}
use Rattle.gd_base.specs.declared.errors.DbError.{DbError}
use Rattle.gd_base.specs.declared.errors.DbError.TheVariants.{NeedRecovery, BadAvail}
use Rattle.gd_format.specs.declared.Extent.{Extent}
use Rattle.gd_format.specs.declared.Header.{Header}
use Rattle.gd_format.specs.declared.Held.{Held}
use Rattle.gd_format.specs.Field.{bytes_at}
use Rattle.gd_format.specs.First.{first_some, first_below, all_below, list_below, or_else, unless}
use Rattle.gd_format.specs.HeaderFault.{natural, is_within, table_place, dir_size_of, header_of}
use Rattle.gd_format.specs.Bucket.{counts_at, raw_slot_at, raw_free_at, free_at}
use Rattle.gd_format.specs.Avail.{count_at, next_at, is_extent_right, avail_size, is_avail, extents_at}
use Rattle.gd_format.specs.File.{file_fault, front_of, is_full_at, size_of, places_of}

-- ---- the table of free space in the header's block

abbrev pub place_of : Header → ℕ
place_of h = table_place h.magic

-- the header's block from the table on
unfoldable pub table_of : List ℕ → Header → List ℕ
table_of file h = bytes_at file (place_of h) (h.block - place_of h)

-- ---- the stack of blocks of free space

-- how many extents a block of the stack has at most, in both formats
abbrev pub most_of : Header → ℕ
most_of h = (h.block - 56) / 16

-- the address of the block k places below the top, or 0 below the last one
abbrev pub stack_at : List ℕ → (top k : ℕ) → ℕ
stack_at file top zero = top
stack_at file top (suc k) = let at = stack_at file top k in if at == 0 then 0 else next_at (bytes_at file at 16)

-- the bytes that the block of the stack at an address takes
unfoldable pub stack_size : List ℕ → ℕ → ℕ
stack_size file at = avail_size (natural (count_at (bytes_at file at 16)))

-- the block with its extents
unfoldable pub stack_block : List ℕ → ℕ → List ℕ
stack_block file at = bytes_at file at (stack_size file at)

-- an address above 0; the block with its count lies in the file and is right
unfoldable pub is_stack_block : List ℕ → ℕ → ℕ → Bool
is_stack_block file most at =
    not (at == 0) && nat_lt at (2 ^ 63) && nat_le (at + 16) (length file) && is_within (count_at (bytes_at file at 16)) 0 most
    && nat_le (at + stack_size file at) (length file) && is_avail (stack_block file at) most

unfoldable pub is_other_block : List ℕ → (top k j : ℕ) → Bool
is_other_block file top k j = not (stack_at file top j == stack_at file top k)

-- the refusal of the block k places below the top
unfoldable pub stack_fault_at : List ℕ → (most top k : ℕ) → Option DbError
stack_fault_at file most top k =
    let at = stack_at file top k in
    unless (at == 0 || (all_below k (is_other_block file top k) && is_stack_block file most at)) (BadAvail at)

-- the first refusal of the stack; blocks without one have addresses of their own in the file, so they are fewer than its bytes
unfoldable pub stack_fault : List ℕ → (most top : ℕ) → Option DbError
stack_fault file most top = first_below (length file) (stack_fault_at file most top)

-- the addresses of the blocks, from the top on
unfoldable pub stack_places : List ℕ → ℕ → List ℕ
stack_places file top = filter (λ at. not (at == 0)) (list_below (length file) (stack_at file top))

-- ---- the free extents of the buckets

-- each free extent of the bucket at an address is right
unfoldable pub is_free_right : List ℕ → Header → ℕ → Bool
is_free_right file h at =
    let block = bytes_at file at h.block in
    all_below (natural (counts_at block).free) (λ e. is_extent_right (raw_free_at block e))

unfoldable pub free_fault : List ℕ → Header → Option DbError
free_fault file h = first_some (map (λ at. unless (is_free_right file h at) (BadAvail at)) (places_of file h))

-- ---- the extents

abbrev pub extent : (at size : ℕ) → Extent
extent at size = record { at = at; size = size }

-- a free extent is named by the table, the block or the bucket that holds it
abbrev pub held_by : ℕ → Extent → Held
held_by at e = record { extent = e; by = at }

-- each other one is named by its own address
abbrev pub itself : (at size : ℕ) → Held
itself at size = record { extent = extent at size; by = at }

abbrev pub bucket_held : Header → ℕ → Held
bucket_held h at = itself at h.block

unfoldable pub record_held : List ℕ → ℕ → Held
record_held block s = itself (natural (raw_slot_at block s).at) (size_of (raw_slot_at block s))

-- a full slot whose record is above size 0
unfoldable pub takes_place : List ℕ → ℕ → Bool
takes_place block s = is_full_at block s && not (size_of (raw_slot_at block s) == 0)

unfoldable pub records_held : List ℕ → Header → ℕ → List Held
records_held file h at =
    let block = bytes_at file at h.block in
    map (record_held block) (filter (takes_place block) (range_with_len 0 h.elems))

unfoldable pub table_held : List ℕ → Header → List Held
table_held file h = map (held_by (place_of h)) (extents_at (table_of file h))

-- a block of the stack, and then its extents
unfoldable pub stack_held : List ℕ → ℕ → List Held
stack_held file at = itself at (stack_size file at) ∷ map (held_by at) (extents_at (stack_block file at))

unfoldable pub free_held : List ℕ → Header → ℕ → List Held
free_held file h at = let block = bytes_at file at h.block in map (held_by at) (free_at block (natural (counts_at block).free))

abbrev pub top_of : List ℕ → Header → ℕ
top_of file h = next_at (table_of file h)

-- the header's block, the directory, the buckets, the records, the free extents of the table, of the stack with its blocks,
-- and of the buckets
unfoldable pub extents_held : List ℕ → Header → List Held
extents_held file h =
    itself 0 h.block ∷ itself h.dir (dir_size_of h.dir_bits)
    ∷ (map (bucket_held h) (places_of file h)
    ++ flat_map (records_held file h) (places_of file h)
    ++ table_held file h
    ++ flat_map (stack_held file) (stack_places file (top_of file h))
    ++ flat_map (free_held file h) (places_of file h))

unfoldable pub extents : List ℕ → List Held
extents file = extents_held file (header_of (front_of file))

-- have two extents a byte in common?
abbrev pub meets : Extent → Extent → Bool
meets a b = nat_lt a.at (b.at + b.size) && nat_lt b.at (a.at + a.size)

abbrev pub meets_none : Extent → List Held → Bool
meets_none e [] = true
meets_none e (k ∷ ks) = not (meets e k.extent) && meets_none e ks

-- the first that ends beyond a place or meets one before it
abbrev pub meet_fault : (next : ℕ) (before rest : List Held) → Option DbError
meet_fault next before [] = None
meet_fault next before (k ∷ ks) =
    or_else (unless (nat_le (k.extent.at + k.extent.size) next && meets_none k.extent before) (BadAvail k.by)) (meet_fault next (before ++ k ∷ []) ks)

-- ---- the first refusal of a file that is opened to write

-- of one that is readable
unfoldable pub space_fault : List ℕ → Header → Option DbError
space_fault file h =
    first_some
    (
    unless (nat_le (length file) h.next_block) NeedRecovery
    ∷ unless (is_avail (table_of file h) h.avail_size) (BadAvail (place_of h))
    ∷ stack_fault file (most_of h) (top_of file h)
    ∷ free_fault file h
    ∷ meet_fault h.next_block [] (extents_held file h)
    ∷ []
    )

unfoldable pub sound_fault : List ℕ → Option DbError
sound_fault file = or_else (file_fault file) (space_fault file (header_of (front_of file)))

abbrev pub IsSound : List ℕ → Type 0
IsSound file = sound_fault file ≡ None

-- ---- how much of it is free, and how much is in no extent

abbrev pub total : List Held → ℕ
total [] = 0
total (k ∷ ks) = k.extent.size + total ks

unfoldable pub free_total : List ℕ → ℕ
free_total file =
    let h = header_of (front_of file) in
    total (table_held file h) + total (flat_map (λ at. map (held_by at) (extents_at (stack_block file at))) (stack_places file (top_of file h)))
    + total (flat_map (free_held file h) (places_of file h))

unfoldable pub lost_total : List ℕ → ℕ
lost_total file = (header_of (front_of file)).next_block - total (extents file)
