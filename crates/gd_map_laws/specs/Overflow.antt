-- Keys whose hashes are too alike for a bucket.
use Rattle.std.specs.Prelude.{◌≡◌, ◌≢◌, ℕ, ◌-◌, ◌/◌, ◌^◌, ◌<◌, ◌≤◌, ◌↔◌, Bool, false, not, ◌&&◌, ◌==◌, List, ◌++◌, None}
use Rattle.std.specs.Str.{bytes_eq}
use Rattle.gd_format.specs.declared.Slot.{Slot}
use Rattle.gd_format.specs.declared.Slot.TheVariants.{Empty, Full}
use Rattle.gd_format.specs.Hash.{hash_of}
use Rattle.gd_format.specs.Bucket.{slots_at}
use Rattle.gd_format.specs.File.{IsReadable, block_of, records}
use Rattle.gd_format.specs.Slots.{count, is_full, SameSlots}
use Rattle.gd_file_laws.specs.Parts.{file_header}
use Rattle.gd_map_laws.specs.Lookup.{index_of, map_of}
use Rattle.gd_map_laws.specs.Slots.{is_bad}

-- two hashes have the same top bits
unfoldable pub have_top : ℕ → ℕ → ℕ → Bool
have_top bits a b = a / 2 ^ (31 - bits) == b / 2 ^ (31 - bits)

-- another key, whose hash has the top 24 bits of the key's
abbrev pub is_near : List ℕ → List ℕ × List ℕ → Bool
is_near key p = not (bytes_eq p.0 key) && have_top 24 (hash_of p.0) (hash_of key)

abbrev pub IsOverflow : List (List ℕ × List ℕ) → ℕ → List ℕ → Type 0
IsOverflow pairs elems key = elems ≤ count (is_near key) pairs

-- a full slot whose hash has the top 24 bits of a hash
abbrev pub is_close : ℕ → Slot → Bool
is_close hash Empty = false
is_close hash (Full other start at k v) = have_top 24 other hash

-- an absent key overflows exactly where all slots of its bucket are full and close
abbrev pub OverflowLaw : Type 0
OverflowLaw =
    (file : List ℕ) → IsReadable file → (key : List ℕ) → map_of file key ≡ None
    → IsOverflow (records file) (file_header file).elems key
    ↔ (count (is_close (hash_of key)) (slots_at (block_of file (file_header file) (index_of (file_header file) key)) (file_header file).elems) ≡ (file_header file).elems)

-- a full bucket of 24 bits is one of close slots; and slots under other top bits are not close
abbrev pub FullIsClose : Type 0
FullIsClose =
    (file : List ℕ) (top hash : ℕ) (slots : List Slot) → count (is_bad file 24 top) slots ≡ 0 → hash / 2 ^ 7 ≡ top → count (is_close hash) slots ≡ count is_full slots

abbrev pub OthersAreNotClose : Type 0
OthersAreNotClose =
    (file : List ℕ) (bits top hash : ℕ) (slots : List Slot) → bits ≤ 24 → count (is_bad file bits top) slots ≡ 0 → hash / 2 ^ (31 - bits) ≢ top → count (is_close hash) slots ≡ 0

-- the half that has the hash has all close slots
abbrev pub CloseStays : Type 0
CloseStays =
    (file : List ℕ) (bits top hash : ℕ) (before mine its : List Slot) → bits ≤ 24 → SameSlots before (mine ++ its)
    → count (is_bad file bits top) its ≡ 0 → hash / 2 ^ (31 - bits) ≢ top → count (is_close hash) mine ≡ count (is_close hash) before

-- a bucket of the hash that is full, and not all of it close, has fewer than 24 bits
abbrev pub FullHasBits : Type 0
FullHasBits =
    (file : List ℕ) (bits top hash elems : ℕ) (slots : List Slot) → bits ≤ 24 → count (is_bad file bits top) slots ≡ 0 → hash / 2 ^ (31 - bits) ≡ top
    → count is_full slots ≡ elems → count (is_close hash) slots < elems → bits < 24
