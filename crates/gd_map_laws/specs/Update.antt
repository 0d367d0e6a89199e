-- A change of one bucket, of records that no other slot has, and of the header.
use Rattle.std.specs.Prelude.{◌≡◌, ◌≢◌, ℕ, ◌/◌, ◌<◌, ◌≤◌, true, List, [], ◌∷◌, ◌++◌, length, Option, Some, None, if◌then◌else◌}
use Rattle.std.specs.Str.{bytes_eq}
use Rattle.std.specs.List.{AllByRecursion}
use Rattle.gd_format.specs.declared.Header.{Header}
use Rattle.gd_format.specs.declared.Slot.{Slot}
use Rattle.gd_format.specs.Bucket.{slots_at, is_bucket}
use Rattle.gd_format.specs.File.{bits_at, is_count_right, entry_at, entries_of, run_at, block_of}
use Rattle.gd_format.specs.Slots.{count, AreReached, SameSlots}
use Rattle.gd_file_laws.specs.Parts.{HasParts}
use Rattle.gd_map_laws.specs.Lookup.{lookup, AreKeysOnce, slot_record, slot_records, index_of, value_at}
use Rattle.gd_map_laws.specs.Slots.{is_bad, AreSlotsRight}

-- the record of a slot reads alike in two files
abbrev pub IsRecordKept : List ℕ → List ℕ → Slot → Type 0
IsRecordKept old new slot = slot_record new slot ≡ slot_record old slot

-- the slots of a bucket: `gone` go, `come` come, `rest` stay
pub record SlotsChange (old new : List ℕ) (bits top elems : ℕ) (before after gone come rest : List Slot) : Type 0 where
  pub before_is : SameSlots before (gone ++ rest)
  pub after_is : SameSlots after (come ++ rest)
  pub kept : AllByRecursion (IsRecordKept old new) rest
  pub good : count (is_bad new bits top) come ≡ 0
  pub once : AreKeysOnce (slot_records new come ++ slot_records old rest)
  pub reached : AreReached after elems

pub record SlotsChanged (old new : List ℕ) (bits top elems : ℕ) (before after gone come rest : List Slot) : Type 0 where
  pub right : AreSlotsRight new bits top elems after
  pub new_map : (key : List ℕ) → lookup key (slot_records new after) ≡ lookup key (slot_records new come ++ slot_records old rest)
  pub old_map : (key : List ℕ) → lookup key (slot_records old before) ≡ lookup key (slot_records old gone ++ slot_records old rest)

abbrev pub SlotsLaw : Type 0
SlotsLaw =
    (old new : List ℕ) (bits top elems : ℕ) (before after gone come rest : List Slot) → length old ≤ length new
    → AreSlotsRight old bits top elems before → SlotsChange old new bits top elems before after gone come rest
    → SlotsChanged old new bits top elems before after gone come rest

-- ---- the file

-- the header has its directory and its sizes still
pub record IsSameShape (h h' : Header) : Type 0 where
  pub block : h'.block ≡ h.block
  pub dir : h'.dir ≡ h.dir
  pub bits : h'.dir_bits ≡ h.dir_bits
  pub elems : h'.elems ≡ h.elems

-- the bucket of an entry stands still, and its records do
pub record IsBucketStill (old new : List ℕ) (h : Header) (j : ℕ) : Type 0 where
  pub block : block_of new h j ≡ block_of old h j
  pub records : AllByRecursion (IsRecordKept old new) (slots_at (block_of old h j) h.elems)

-- the bucket of the entry i changes alone
pub record FileChange (old new : List ℕ) (h : Header) (i : ℕ) (gone come rest : List Slot) : Type 0 where
  pub longer : length old ≤ length new
  pub entries : (j : ℕ) → j < entries_of h → entry_at new h j ≡ entry_at old h j
  pub others : (j : ℕ) → j < entries_of h → entry_at old h j ≢ entry_at old h i → IsBucketStill old new h j
  pub bits : bits_at (block_of new h i) ≡ bits_at (block_of old h i)
  pub fields : is_bucket (block_of new h i) h.elems ≡ true
  pub number : is_count_right (block_of new h i) h.elems ≡ true
  pub slots : SlotsChange old new (bits_at (block_of old h i)) (i / run_at old h i) h.elems (slots_at (block_of old h i) h.elems) (slots_at (block_of new h i) h.elems) gone come rest

pub record FileChanged (old new : List ℕ) (h h' : Header) (i : ℕ) (gone come rest : List Slot) : Type 0 where
  pub parts : HasParts new h'
  -- keys of this bucket, before and after
  pub new_map : (key : List ℕ) → entry_at old h (index_of h key) ≡ entry_at old h i → value_at new h' key ≡ lookup key (slot_records new come ++ slot_records old rest)
  pub old_map : (key : List ℕ) → entry_at old h (index_of h key) ≡ entry_at old h i → value_at old h key ≡ lookup key (slot_records old gone ++ slot_records old rest)
  -- and the others
  pub other_map : (key : List ℕ) → entry_at old h (index_of h key) ≢ entry_at old h i → value_at new h' key ≡ value_at old h key

abbrev pub FileLaw : Type 0
FileLaw =
    (old new : List ℕ) (h h' : Header) (i : ℕ) (gone come rest : List Slot) → h.dir_bits ≤ 24 → HasParts old h → i < entries_of h → IsSameShape h h'
    → FileChange old new h i gone come rest → FileChanged old new h h' i gone come rest

-- ---- one key

abbrev pub pairs_of : List ℕ → Option (List ℕ) → List (List ℕ × List ℕ)
pairs_of key None = []
pairs_of key (Some v) = (key, v) ∷ []

-- the bucket of a key changes alone, and in it the record of the key alone
pub record OneKeyChange (old new : List ℕ) (h : Header) (i : ℕ) (key : List ℕ) (value : Option (List ℕ)) (gone come rest : List Slot) : Type 0 where
  pub here : entry_at old h (index_of h key) ≡ entry_at old h i
  pub gone_is : slot_records old gone ≡ pairs_of key (value_at old h key)
  pub come_is : slot_records new come ≡ pairs_of key value
  pub longer : length old ≤ length new
  pub entries : (j : ℕ) → j < entries_of h → entry_at new h j ≡ entry_at old h j
  pub others : (j : ℕ) → j < entries_of h → entry_at old h j ≢ entry_at old h i → IsBucketStill old new h j
  pub bits : bits_at (block_of new h i) ≡ bits_at (block_of old h i)
  pub fields : is_bucket (block_of new h i) h.elems ≡ true
  pub number : is_count_right (block_of new h i) h.elems ≡ true
  pub before_is : SameSlots (slots_at (block_of old h i) h.elems) (gone ++ rest)
  pub after_is : SameSlots (slots_at (block_of new h i) h.elems) (come ++ rest)
  pub kept : AllByRecursion (IsRecordKept old new) rest
  pub good : count (is_bad new (bits_at (block_of old h i)) (i / run_at old h i)) come ≡ 0
  pub reached : AreReached (slots_at (block_of new h i) h.elems) h.elems

pub record OneKeyChanged (old new : List ℕ) (h h' : Header) (key : List ℕ) (value : Option (List ℕ)) : Type 0 where
  pub parts : HasParts new h'
  pub map : (k : List ℕ) → value_at new h' k ≡ (if bytes_eq key k then value else value_at old h k)

-- the law of a store without a split and of a deletion
abbrev pub OneKeyLaw : Type 0
OneKeyLaw =
    (old new : List ℕ) (h h' : Header) (i : ℕ) (key : List ℕ) (value : Option (List ℕ)) (gone come rest : List Slot)
    → h.dir_bits ≤ 24 → HasParts old h → i < entries_of h → IsSameShape h h'
    → OneKeyChange old new h i key value gone come rest → OneKeyChanged old new h h' key value
