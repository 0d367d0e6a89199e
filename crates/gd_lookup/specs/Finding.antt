-- What a look-up of a key tells.
use Rattle.std.specs.Prelude.{◌≡◌, ℕ, ◌-◌, ◌/◌, ◌<◌, ◌^◌, true, List, length, get_or, Some, None}
use Rattle.std.specs.FinMap.{get}
use Rattle.gd_format.specs.declared.Header.{Header}
use Rattle.gd_format.specs.declared.Slot.{Slot}
use Rattle.gd_format.specs.declared.Slot.TheVariants.{Empty}
use Rattle.gd_format.specs.Field.{bytes_at}
use Rattle.gd_format.specs.Hash.{hash_of}
use Rattle.gd_format.specs.HeaderFault.{natural}
use Rattle.gd_format.specs.Bucket.{Bucket, bucket_at, slots_at}
use Rattle.gd_format.specs.File.{file_fault, entry_at, block_of, records}
use Rattle.gd_format.specs.Slots.{count, is_full}
use Rattle.gd_bucket.specs.Probing.{is_candidate}
use Rattle.gd_file_laws.specs.Parts.{file_header}
use Rattle.gd_map_laws.specs.Lookup.{index_of}
use Rattle.gd_map_laws.specs.Find.{is_slot_of}
use Rattle.gd_map_laws.specs.Maps.{pair_map}
use Rattle.gd_vault.specs.Views.{View}
use Rattle.gd_open.specs.Files.{AtFile, IsOpen}
use Rattle.gd_lookup.specs.Reading.{LiesIn, value_in}

-- the slots of the bucket in which a key belongs
abbrev pub key_slots : List ℕ → List ℕ → List Slot
key_slots file key = slots_at (block_of file (file_header file) (index_of (file_header file) key)) (file_header file).elems

-- of a readable file, the slots of the bucket of a key
pub record IsKeyBucket (file key : List ℕ) (slots : List Slot) : Type 0 where
  pub readable : file_fault file ≡ None
  pub slots_are : slots ≡ key_slots file key

-- where the content is told, the slots are those of the bucket of a key
pub record OfKey (v : View) (f : ℕ) (key : List ℕ) (slots : List Slot) : Type 0 where
  pub is_key : AtFile v f (λ file. IsKeyBucket file key slots)

-- a full slot with the hash, the length and the first bytes of a key
pub record IsCandidateAt (slots : List Slot) (hash : ℕ) (key : List ℕ) (place : ℕ) : Type 0 where
  pub below : place < length slots
  pub full : is_full (get_or slots place Empty) ≡ true
  pub candidate : is_candidate hash key (get_or slots place Empty) ≡ true

-- the slot of a key, whose value the map has
pub record IsKeySlot (file key : List ℕ) (slot : Slot) : Type 0 where
  pub own : is_slot_of file key slot ≡ true
  pub inside : LiesIn (length file) slot
  pub value : get (pair_map (records file)) key ≡ Some (value_in file slot)

-- no slot is one of the key, and the map lacks it
pub record IsKeyAbsent (file key : List ℕ) (slots : List Slot) : Type 0 where
  pub none : count (is_slot_of file key) slots ≡ 0
  pub value : get (pair_map (records file)) key ≡ None

-- ---- laws

-- a bucket read at the address of a key's entry has the slots of the key
abbrev pub ReadIsKeyBucket : Type 0
ReadIsKeyBucket =
    (file : List ℕ) (h : Header) (key : List ℕ) (at : ℕ) (bucket : Bucket) → IsOpen file h → at ≡ natural (entry_at file h (hash_of key / 2 ^ (31 - h.dir_bits)))
    → bucket ≡ bucket_at (bytes_at file at h.block) h.elems → IsKeyBucket file key bucket.slots

-- a slot of the key has the key's value
abbrev pub PresentTells : Type 0
PresentTells =
    (file key : List ℕ) (slots : List Slot) (place : ℕ) → IsKeyBucket file key slots → place < length slots
    → is_slot_of file key (get_or slots place Empty) ≡ true → IsKeySlot file key (get_or slots place Empty)

-- where no slot is one of the key, the map lacks it
abbrev pub AbsentTells : Type 0
AbsentTells =
    (file key : List ℕ) (slots : List Slot) → IsKeyBucket file key slots → count (is_slot_of file key) slots ≡ 0 → IsKeyAbsent file key slots

-- each full slot's record lies in the file
abbrev pub SlotsLieIn : Type 0
SlotsLieIn = (file key : List ℕ) (slots : List Slot) (place : ℕ) → IsKeyBucket file key slots → place < length slots → LiesIn (length file) (get_or slots place Empty)
