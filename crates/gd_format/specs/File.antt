-- A file: its directory, its buckets and its records, and the first refusal of a file.
use Rattle.std.specs.Prelude.{◌≡◌, ℕ, zero, suc, ◌+◌, ◌-◌, ◌*◌, ◌/◌, ◌%◌, ◌^◌, ℤ, Bool, not, ◌&&◌, ◌||◌, ◌==◌, nat_le, List, [], ◌∷◌, length, take, map, filter, Option, None}
use Rattle.std.specs.List.{range_with_len, flat_map}
use Rattle.std.specs.Ordering.{int_eq}
use Rattle.std.specs.Str.{bytes_eq}
use Rattle.gd_base.specs.declared.errors.DbError.{DbError}
use Rattle.gd_base.specs.declared.errors.DbError.TheVariants.{BadDirEntry, BadBucket, BadHashTable, BadHashEntry}
use Rattle.gd_format.specs.declared.RawSlot.{RawSlot}
use Rattle.gd_format.specs.declared.Header.{Header}
use Rattle.gd_format.specs.Hash.{hash_of}
use Rattle.gd_format.specs.Field.{bytes_at, i64_at}
use Rattle.gd_format.specs.First.{first_some, or_else, unless, first_below, all_below, count_below}
use Rattle.gd_format.specs.HeaderFault.{is_within, is_number, natural, header_fault_of, header_of}
use Rattle.gd_format.specs.Bucket.{counts_at, raw_slot_at, is_empty_hash, is_from_zero}

-- ---- one bucket, by its block

-- is the slot full?
unfoldable pub is_full_at : List ℕ → ℕ → Bool
is_full_at block s = not (is_empty_hash (raw_slot_at block s).hash)

-- the counts of free extents and of bits are in range
unfoldable pub are_counts_right : Header → List ℕ → Bool
are_counts_right h block = is_within (counts_at block).free 0 6 && is_within (counts_at block).bits 0 h.dir_bits

abbrev pub bits_at : List ℕ → ℕ
bits_at block = natural (counts_at block).bits

-- the count field is the number of full slots
unfoldable pub is_count_right : List ℕ → ℕ → Bool
is_count_right block elems = is_number (counts_at block).full (count_below elems (is_full_at block))

-- is the slot full that comes d places after another one, from the last slot on to slot 0?
unfoldable pub is_full_after : List ℕ → ℕ → ℕ → ℕ → Bool
is_full_after block elems home d = is_full_at block ((home + d) % elems)

-- all slots from its home up to the slot s are full
unfoldable pub is_reached : List ℕ → ℕ → ℕ → Bool
is_reached block elems s =
    let home = natural (raw_slot_at block s).hash % elems in
    all_below ((s + elems - home) % elems) (is_full_after block elems home)

abbrev pub size_of : RawSlot → ℕ
size_of r = natural r.key_size + natural r.value_size

-- the signs and the sizes of a slot
unfoldable pub are_fields_right : RawSlot → Bool
are_fields_right r =
    is_from_zero r.hash && is_from_zero r.at && is_from_zero r.key_size && is_from_zero r.value_size && nat_le (size_of r) (2 ^ 30)

-- a slot's record, where it takes a place, ends in a file of len bytes
unfoldable pub is_record_in : ℕ → RawSlot → Bool
is_record_in len r = size_of r == 0 || nat_le (natural r.at + size_of r) len

-- the key's hash and its first bytes are those of the slot, and the top bits those of the run
unfoldable pub is_key_of : ℕ → ℕ → RawSlot → List ℕ → Bool
is_key_of bits top r key =
    is_number r.hash (hash_of key) && natural r.hash / 2 ^ (31 - bits) == top
    && bytes_eq (take 4 key) (take (length (take 4 key)) r.start)

-- ---- the parts of a file

-- the key of a slot
unfoldable pub key_of : List ℕ → RawSlot → List ℕ
key_of file r = bytes_at file (natural r.at) (natural r.key_size)

unfoldable pub value_of : List ℕ → RawSlot → List ℕ
value_of file r = bytes_at file (natural r.at + natural r.key_size) (natural r.value_size)

abbrev pub key_at : List ℕ → List ℕ → ℕ → List ℕ
key_at file block s = key_of file (raw_slot_at block s)

-- has a full slot t not the key of s?
unfoldable pub is_other_key : List ℕ → List ℕ → ℕ → ℕ → Bool
is_other_key file block s t = not (is_full_at block t && bytes_eq (key_at file block t) (key_at file block s))

-- no full slot before s has the key of s
unfoldable pub is_key_new : List ℕ → List ℕ → ℕ → Bool
is_key_new file block s = all_below s (is_other_key file block s)

-- what each full slot has to be
unfoldable pub is_slot_right : List ℕ → List ℕ → ℕ → ℕ → Bool
is_slot_right file block top s =
    let r = raw_slot_at block s in
    are_fields_right r && is_record_in (length file) r && is_key_of (bits_at block) top r (key_of file r) && is_key_new file block s

unfoldable pub slot_fault : List ℕ → List ℕ → ℕ → ℕ → ℕ → Option DbError
slot_fault file block at top s = unless (not (is_full_at block s) || is_slot_right file block top s) (BadHashEntry at s)

unfoldable pub reach_fault : List ℕ → ℕ → ℕ → ℕ → Option DbError
reach_fault block elems at s = unless (not (is_full_at block s) || is_reached block elems s) (BadHashTable at)

-- the first refusal of the slots of the bucket at an address
unfoldable pub slots_fault : List ℕ → ℕ → List ℕ → ℕ → ℕ → Option DbError
slots_fault file elems block at top =
    first_some
    (
    unless (is_count_right block elems) (BadHashTable at)
    ∷ first_below elems (slot_fault file block at top)
    ∷ first_below elems (reach_fault block elems at)
    ∷ []
    )

-- the entry of the directory with an index
unfoldable pub entry_at : List ℕ → Header → ℕ → ℤ
entry_at file h i = i64_at file (h.dir + 8 * i)

abbrev pub entries_of : Header → ℕ
entries_of h = 2 ^ h.dir_bits

-- the block of the bucket of an entry
unfoldable pub block_of : List ℕ → Header → ℕ → List ℕ
block_of file h i = bytes_at file (natural (entry_at file h i)) h.block

-- how many entries the bucket of an entry has
unfoldable pub run_at : List ℕ → Header → ℕ → ℕ
run_at file h i = 2 ^ (h.dir_bits - bits_at (block_of file h i))

-- the refusal of the entry that stands j places after the first one of a run
unfoldable pub run_fault : List ℕ → Header → ℕ → ℕ → Option DbError
run_fault file h i j = unless (int_eq (entry_at file h (i + j)) (entry_at file h i)) (BadDirEntry (i + j))

-- the bucket of an entry lies in the file
unfoldable pub is_block_in : List ℕ → Header → ℕ → Bool
is_block_in file h i = nat_le h.block (length file) && is_within (entry_at file h i) 0 (length file - h.block)

-- has the entry j another address than the entry i?
unfoldable pub is_other_entry : List ℕ → Header → ℕ → ℕ → Bool
is_other_entry file h i j = not (int_eq (entry_at file h j) (entry_at file h i))

-- is the address of i that of no entry before?
unfoldable pub is_first : List ℕ → Header → ℕ → Bool
is_first file h i = all_below i (is_other_entry file h i)

-- the first refusal at an entry that no earlier run covers
unfoldable pub entry_fault : List ℕ → Header → ℕ → Option DbError
entry_fault file h i =
    let at = natural (entry_at file h i) in
    let block = block_of file h i in
    let run = run_at file h i in
    first_some
    (
    unless (is_block_in file h i) (BadDirEntry i)
    ∷ unless (is_first file h i) (BadDirEntry i)
    ∷ unless (are_counts_right h block) (BadBucket at)
    ∷ unless (i % run == 0) (BadDirEntry i)
    ∷ first_below run (run_fault file h i)
    ∷ slots_fault file h.elems block at (i / run)
    ∷ []
    )

-- the first refusal of n entries from i on, of which an earlier run covers the first
abbrev pub entries_fault : List ℕ → Header → (n covered i : ℕ) → Option DbError
entries_fault file h zero covered i = None
entries_fault file h (suc n) (suc covered) i = entries_fault file h n covered (i + 1)
entries_fault file h (suc n) zero i = or_else (entry_fault file h i) (entries_fault file h n (run_at file h i - 1) (i + 1))

unfoldable pub dir_fault : List ℕ → Header → Option DbError
dir_fault file h = entries_fault file h (entries_of h) 0 0

-- the bytes in which the header stands
abbrev pub front_of : List ℕ → List ℕ
front_of file = bytes_at file 0 80

-- the first refusal of a file
unfoldable pub file_fault : List ℕ → Option DbError
file_fault file = or_else (header_fault_of (front_of file) (length file)) (dir_fault file (header_of (front_of file)))

abbrev pub IsReadable : List ℕ → Type 0
IsReadable file = file_fault file ≡ None

-- ---- the records

-- the indexes at which an address stands for the first time
unfoldable pub first_indexes : List ℕ → Header → List ℕ
first_indexes file h = filter (is_first file h) (range_with_len 0 (entries_of h))

-- the addresses of the buckets
unfoldable pub places_of : List ℕ → Header → List ℕ
places_of file h = map (λ i. natural (entry_at file h i)) (first_indexes file h)

abbrev pub record_of : List ℕ → RawSlot → List ℕ × List ℕ
record_of file r = (key_of file r, value_of file r)

-- the records of one bucket
unfoldable pub bucket_records : List ℕ → ℕ → List ℕ → List (List ℕ × List ℕ)
bucket_records file elems block =
    map (λ s. record_of file (raw_slot_at block s)) (filter (is_full_at block) (range_with_len 0 elems))

-- the records in file order
unfoldable pub records : List ℕ → List (List ℕ × List ℕ)
records file =
    let h = header_of (front_of file) in
    flat_map (λ at. bucket_records file h.elems (bytes_at file at h.block)) (places_of file h)
