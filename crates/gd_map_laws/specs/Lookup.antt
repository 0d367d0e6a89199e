-- The map of a file: by look-up among its records, and through hash, directory and bucket.
use Rattle.std.specs.Prelude.{◌≡◌, ℕ, ◌+◌, ◌-◌, ◌/◌, ◌^◌, ◌≤◌, Bool, List, [], ◌∷◌, Option, Some, None, if◌then◌else◌}
use Rattle.std.specs.List.{flat_map}
use Rattle.std.specs.Str.{bytes_eq}
use Rattle.gd_format.specs.declared.Header.{Header}
use Rattle.gd_format.specs.declared.Slot.{Slot}
use Rattle.gd_format.specs.declared.Slot.TheVariants.{Empty, Full}
use Rattle.gd_format.specs.Hash.{hash_of}
use Rattle.gd_format.specs.Field.{bytes_at}
use Rattle.gd_format.specs.Bucket.{slots_at}
use Rattle.gd_format.specs.Slots.{count}
use Rattle.gd_format.specs.File.{IsReadable, block_of, records}
use Rattle.gd_file_laws.specs.Parts.{file_header}

-- the value of the first pair with the key
abbrev pub lookup : List ℕ → List (List ℕ × List ℕ) → Option (List ℕ)
lookup key [] = None
lookup key ((k, v) ∷ rest) = if bytes_eq k key then Some v else lookup key rest

abbrev pub has_key : List ℕ → List ℕ × List ℕ → Bool
has_key key p = bytes_eq p.0 key

-- no key is the key of two pairs
abbrev pub AreKeysOnce : List (List ℕ × List ℕ) → Type 0
AreKeysOnce pairs = (key : List ℕ) → count (has_key key) pairs ≤ 1

-- the record of a slot, if it is full
abbrev pub slot_record : List ℕ → Slot → List (List ℕ × List ℕ)
slot_record file Empty = []
slot_record file (Full hash start at k v) = (bytes_at file at k, bytes_at file (at + k) v) ∷ []

abbrev pub slot_records : List ℕ → List Slot → List (List ℕ × List ℕ)
slot_records file slots = flat_map (slot_record file) slots

-- the directory's index of a key
unfoldable pub index_of : Header → List ℕ → ℕ
index_of h key = hash_of key / 2 ^ (31 - h.dir_bits)

-- the value of a key, by its hash, the directory and the bucket
unfoldable pub value_at : List ℕ → Header → List ℕ → Option (List ℕ)
value_at file h key = lookup key (slot_records file (slots_at (block_of file h (index_of h key)) h.elems))

-- the map of a file
abbrev pub map_of : List ℕ → List ℕ → Option (List ℕ)
map_of file key = lookup key (records file)

abbrev pub LookupExact : Type 0
LookupExact = (file : List ℕ) → IsReadable file → (key : List ℕ) → map_of file key ≡ value_at file (file_header file) key

abbrev pub RecordsOnce : Type 0
RecordsOnce = (file : List ℕ) → IsReadable file → AreKeysOnce (records file)
