-- Worked examples of free space and of extents.
use Rattle.std.proofs.Common.{◌≡◌, ℕ, true, false, List, [], ◌∷◌, ◌++◌, replicate, length, take, None, Some, refl}
use Rattle.std.specs.List.{flat_map}
use Rattle.gd_base.specs.declared.errors.DbError.TheVariants.{BadAvail}
use Rattle.gd_format.specs.Field.{u32_at, u64_at, i32_at, i64_at}
use Rattle.gd_format.specs.HeaderFault.{header_of}
use Rattle.gd_format.specs.Bucket.{raw_slot_at, raw_free_at, extent_of}
use Rattle.gd_format.specs.Avail.{raw_avail_at, next_at, raw_extent_at, is_extent_right, is_extent_right_at, is_avail, extent_at, avail_at}
use Rattle.gd_format.specs.File.{is_first, is_other_entry, entry_at, is_full_at, places_of, first_indexes}
use Rattle.gd_format.specs.Sound.{extent, meets, meet_fault, itself, held_by, stack_fault, stack_fault_at, is_stack_block, stack_block, stack_size, is_other_block, space_fault, table_of, free_fault, is_free_right, lost_total, free_total, extents, extents_held, table_held, stack_held, stack_places, free_held, records_held, record_held, takes_place}

-- extents that touch meet not; one byte in common is enough
touch : meets (extent 512 512) (extent 1024 512) ≡ false
touch = refl

share : meets (extent 512 513) (extent 1024 512) ≡ true
share = refl

-- a free extent over a record is named by the bucket that holds it, whatever stands between
over_a_record : meet_fault 4096 [] (itself 1536 2 ∷ itself 1600 4 ∷ held_by 1024 (extent 1530 10) ∷ []) ≡ Some (BadAvail 1024)
over_a_record = refl

beyond : meet_fault 2048 [] (itself 1536 512 ∷ itself 2000 49 ∷ []) ≡ Some (BadAvail 2000)
beyond = refl

-- a block with one extent of 512 bytes at 1536, and the next block at 7
abbrev block : List ℕ
block = 28 ∷ 0 ∷ 0 ∷ 0 ∷ 1 ∷ 0 ∷ 0 ∷ 0 ∷ 7 ∷ 0 ∷ 0 ∷ 0 ∷ 0 ∷ 0 ∷ 0 ∷ 0 ∷ 0 ∷ 2 ∷ 0 ∷ 0 ∷ 9 ∷ 9 ∷ 9 ∷ 9 ∷ 0 ∷ 6 ∷ 0 ∷ 0 ∷ 0 ∷ 0 ∷ 0 ∷ 0 ∷ []

right : is_avail block 1 ≡ true
unfolding is_avail raw_avail_at is_extent_right_at is_extent_right raw_extent_at i32_at u32_at i64_at u64_at
right = refl

too_many : is_avail block 0 ≡ false
unfolding is_avail raw_avail_at is_extent_right_at is_extent_right raw_extent_at i32_at u32_at i64_at u64_at
too_many = refl

value : avail_at block 28 ≡ record { extents = extent 1536 512 ∷ []; next_block = 7; room = 28 }
unfolding avail_at next_at raw_avail_at extent_at extent_of raw_extent_at i32_at u32_at i64_at u64_at
value = refl

-- an extent of no byte
empty : is_avail (replicate 4 0 ++ (1 ∷ replicate 27 0)) 1 ≡ false
unfolding is_avail raw_avail_at is_extent_right_at is_extent_right raw_extent_at i32_at u32_at i64_at u64_at
empty = refl

-- a stack whose one block is its own next
around : stack_fault (replicate 16 0 ++ replicate 8 0 ++ (16 ∷ replicate 7 0)) 28 16 ≡ Some (BadAvail 16)
unfolding stack_fault stack_fault_at is_other_block is_stack_block stack_block stack_size is_avail raw_avail_at next_at i32_at u32_at i64_at u64_at
around = refl

-- an address below 0, and none
below : stack_fault (replicate 32 0) 28 0xffffffffffffffff ≡ Some (BadAvail 0xffffffffffffffff)
unfolding stack_fault stack_fault_at is_other_block is_stack_block stack_block stack_size is_avail raw_avail_at next_at i32_at u32_at i64_at u64_at
below = refl

no_stack : stack_fault (replicate 32 0) 28 0 ≡ None
unfolding stack_fault stack_fault_at is_other_block is_stack_block stack_block stack_size is_avail raw_avail_at next_at i32_at u32_at i64_at u64_at
no_stack = refl

-- ---- a new file of block 512

abbrev entry : List ℕ
entry = 0 ∷ 4 ∷ replicate 6 0

abbrev head : List ℕ
head =
    0xcf ∷ 0x9a ∷ 0x57 ∷ 0x13 ∷ 0 ∷ 2 ∷ 0 ∷ 0 ∷ 0 ∷ 2 ∷ 0 ∷ 0 ∷ 0 ∷ 0 ∷ 0 ∷ 0 ∷ 0 ∷ 2 ∷ 0 ∷ 0 ∷ 6 ∷ 0 ∷ 0 ∷ 0 ∷ 0 ∷ 2 ∷ 0 ∷ 0 ∷ 16 ∷ 0 ∷ 0 ∷ 0
    ∷ 0 ∷ 8 ∷ 0 ∷ 0 ∷ 0 ∷ 0 ∷ 0 ∷ 0 ∷ 28 ∷ replicate 471 0

abbrev bucket : List ℕ
bucket = 1 ∷ replicate 8 0 ++ (2 ∷ replicate 7 0) ++ (6 ∷ replicate 94 0) ++ flat_map (λ x. x) (replicate 16 (replicate 4 255 ++ replicate 20 0)) ++ replicate 16 0

abbrev new_file : List ℕ
new_file = head ++ flat_map (λ x. x) (replicate 64 entry) ++ bucket

new_length : length new_file ≡ 1536
new_length = refl

new_space : space_fault new_file (header_of (take 80 new_file)) ≡ None
unfolding space_fault table_of free_fault is_free_right extents_held table_held stack_held stack_places free_held records_held record_held takes_place stack_fault stack_fault_at is_other_block is_stack_block stack_block stack_size is_avail is_extent_right_at is_extent_right raw_avail_at next_at extent_at raw_extent_at extent_of raw_free_at raw_slot_at is_full_at places_of first_indexes is_first is_other_entry entry_at header_of i32_at u32_at i64_at u64_at
new_space = refl

new_lost : lost_total new_file ≡ 0
unfolding lost_total extents table_of extents_held table_held stack_held stack_places free_held records_held record_held takes_place stack_block stack_size is_extent_right_at is_extent_right raw_avail_at next_at extent_at raw_extent_at extent_of raw_free_at raw_slot_at is_full_at places_of first_indexes is_first is_other_entry entry_at header_of i32_at u32_at i64_at u64_at
new_lost = refl

new_free : free_total new_file ≡ 512
unfolding free_total extents table_of extents_held table_held stack_held stack_places free_held records_held record_held takes_place stack_block stack_size is_extent_right_at is_extent_right raw_avail_at next_at extent_at raw_extent_at extent_of raw_free_at raw_slot_at is_full_at places_of first_indexes is_first is_other_entry entry_at header_of i32_at u32_at i64_at u64_at
new_free = refl
