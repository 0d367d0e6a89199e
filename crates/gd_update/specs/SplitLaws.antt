-- What a split and a doubling make of a file, by what they write; and how a chain of them begins and ends.
use Rattle.std.specs.Prelude.{◌≡◌, ◌≢◌, ℕ, ◌+◌, ◌-◌, ◌*◌, ◌/◌, ◌^◌, ◌<◌, ◌≤◌, true, List, [], ◌∷◌, ◌++◌, length, None}
use Rattle.gd_format.specs.declared.Extent.{Extent}
use Rattle.gd_format.specs.declared.Header.{Header}
use Rattle.gd_format.specs.declared.Slot.{Slot}
use Rattle.gd_format.specs.HeaderFault.{header_fault_of, dir_size_of}
use Rattle.gd_format.specs.Avail.{extents_at, is_avail}
use Rattle.gd_format.specs.Bucket.{Bucket}
use Rattle.gd_format.specs.File.{front_of, entries_of, records}
use Rattle.gd_format.specs.Slots.{count, is_full, SameSlots}
use Rattle.gd_format.specs.Sound.{IsSound, extent, table_of, top_of, lost_total}
use Rattle.gd_format.specs.FreeSide.{FreeLists, StackBlock, free_extents}
use Rattle.gd_file_laws.specs.Frame.{written}
use Rattle.gd_file_laws.specs.Parts.{file_header}
use Rattle.gd_map_laws.specs.Lookup.{value_at}
use Rattle.gd_map_laws.specs.Maps.{pair_map}
use Rattle.gd_map_laws.specs.Slots.{is_bad}
use Rattle.gd_map_laws.specs.Overflow.{is_close}
use Rattle.gd_space.specs.Calls.{free_lists}
use Rattle.gd_space.specs.Effect.{Change, Given}
use Rattle.gd_update.specs.Held.{IsHeld, IsBucketOf, lost_in}
use Rattle.gd_open.specs.Spells.{SpellsBucket}
use Rattle.gd_bucket.specs.Splitting.{AreHalves}
use Rattle.gd_update.specs.Runs.{IsPointed, IsDoubled}
use Rattle.gd_update.specs.Steps.{IsStep, IsNext}

-- where the changed half of the run of a hash begins in a directory, and how many entries it has
abbrev pub half_of : Header → ℕ → ℕ
half_of h bits = 2 ^ (h.dir_bits - (bits + 1))

abbrev pub half_start : Header → (hash bits : ℕ) → ℕ
half_start h hash bits = (2 * (hash / 2 ^ (31 - bits)) + 1) * half_of h bits

-- a block was taken, the second bucket written there, the first at the old place, and the half of the run
pub record SplitMade (old mid new : List ℕ) (h h' : Header) (top top' : ℕ) (s s' : FreeLists) (hash at second_at : ℕ) (bucket first second : Bucket) (one two : List ℕ) : Type 0 where
  pub held : IsHeld old h top s
  pub bucket_is : IsBucketOf old h hash at bucket
  pub small : hash < 2 ^ 31
  pub less : bucket.bits < h.dir_bits
  pub taken : Change old mid h h' top top' s s' [] (extent second_at h.block ∷ []) 32
  pub header : h' ≡ record h { next_block = h'.next_block }
  pub halves : AreHalves bucket first second
  pub elems : length bucket.slots ≡ h.elems
  pub sizes : (length one ≡ h.block) × (length two ≡ h.block)
  pub spells : SpellsBucket first (length first.slots) one × SpellsBucket second (length second.slots) two
  pub first_free : first.free ≡ bucket.free
  pub second_free : second.free ≡ s'.bucket
  pub run : IsPointed (h.dir + 8 * half_start h hash bucket.bits) (half_of h bucket.bits) second_at (written (written mid second_at two) at one) new

pub record SplitGives (old new : List ℕ) (h h' : Header) (top' : ℕ) (s s' : FreeLists) (hash at second_at : ℕ) (bits : ℕ) (first second : Bucket) : Type 0 where
  pub step : IsStep old new h h' top' s (free_lists s'.table s'.blocks []) 32
  pub next : IsNext new h' hash at second_at bits first second

abbrev pub SplitHolds : Type 0
SplitHolds =
    (old mid new : List ℕ) (h h' : Header) (top top' : ℕ) (s s' : FreeLists) (hash at second_at : ℕ) (bucket first second : Bucket) (one two : List ℕ) → 512 ≤ h.block → h'.next_block ≤ 2 ^ 46
    → SplitMade old mid new h h' top top' s s' hash at second_at bucket first second one two → SplitGives old new h h' top' s s' hash at second_at bucket.bits first second

-- ---- a doubling

-- the place of a directory twice as large was taken, each entry written there twice, and the old place given back
abbrev pub doubled : Header → ℕ → Header
doubled h at = record h { dir = at; dir_bits = h.dir_bits + 1 }

pub record DoubleMade (old mid copied new : List ℕ) (h h1 h2 : Header) (top top1 top2 : ℕ) (s s1 s2 : FreeLists) (at : ℕ) : Type 0 where
  pub held : IsHeld old h top s
  pub less : h.dir_bits < 24
  pub taken : Change old mid h h1 top top1 s s1 [] (extent at (2 * dir_size_of h.dir_bits) ∷ []) 32
  pub header : h1 ≡ record h { next_block = h1.next_block }
  pub copy : IsDoubled h.dir at (entries_of h) mid copied
  pub given : Given copied new (doubled h1 at) h2 top1 top2 s1 s2 (extent h.dir (dir_size_of h.dir_bits))
  pub end : h2 ≡ record (doubled h1 at) { next_block = h2.next_block }

abbrev pub DoubleHolds : Type 0
DoubleHolds =
    (old mid copied new : List ℕ) (h h1 h2 : Header) (top top1 top2 : ℕ) (s s1 s2 : FreeLists) (at : ℕ) → 512 ≤ h.block → h2.next_block ≤ 2 ^ 46
    → DoubleMade old mid copied new h h1 h2 top top1 top2 s s1 s2 at
    → IsStep old new h h2 top2 s s2 64 × ((hash place : ℕ) (bucket : Bucket) → hash < 2 ^ 31 → IsBucketOf old h hash place bucket → IsBucketOf new h2 hash place bucket)

-- ---- how a chain begins, and how it ends

-- a sound file is held by its own header and table
abbrev pub SoundIsHeld : Type 0
SoundIsHeld =
    (file : List ℕ) → IsSound file
    → (blocks : List StackBlock) × IsHeld file (file_header file) (top_of file (file_header file)) (free_lists (extents_at (table_of file (file_header file))) blocks [])
    × (lost_in file (file_header file) (free_extents (free_lists (extents_at (table_of file (file_header file))) blocks [])) ≡ lost_total file)

-- the header's block tells the header and the table
pub record TellsHead (front : List ℕ) (len : ℕ) (h : Header) (top : ℕ) (table : List Extent) : Type 0 where
  pub size : length front ≡ h.block
  pub header : file_header front ≡ h
  pub fault : header_fault_of (front_of front) len ≡ None
  pub extents : extents_at (table_of front h) ≡ table
  pub top_is : top_of front h ≡ top
  pub right : is_avail (table_of front h) h.avail_size ≡ true

pub record IsWhole (file new : List ℕ) (h : Header) (top : ℕ) (s : FreeLists) : Type 0 where
  pub sound : IsSound new
  pub header : file_header new ≡ h
  pub map : (key : List ℕ) → value_at new h key ≡ value_at file h key
  pub lost : lost_total new ≡ lost_in file h (free_extents s)

-- with the header's block written a held file without loose extents is sound
abbrev pub HeldIsWhole : Type 0
HeldIsWhole =
    (file front : List ℕ) (h : Header) (top : ℕ) (table : List Extent) (blocks : List StackBlock) → 80 ≤ h.block → IsHeld file h top (free_lists table blocks [])
    → TellsHead front (length (written file 0 front)) h top table → IsWhole file (written file 0 front) h top (free_lists table blocks [])

-- what has the look-ups of a sound file, and is sound, has its map
abbrev pub SameLookups : Type 0
SameLookups =
    (old new : List ℕ) → IsSound old → IsSound new → ((key : List ℕ) → value_at new (file_header new) key ≡ value_at old (file_header old) key)
    → pair_map (records new) ≡ pair_map (records old)

-- ---- why a chain ends

-- a bucket of a hash that is full, and not of close slots alone, has fewer than 24 bits, and its half with the hash has all its close slots
pub record IsNotLast (bits hash : ℕ) (bucket mine other : List Slot) : Type 0 where
  pub bits_less : bits < 24
  pub close : count (is_close hash) mine ≡ count (is_close hash) bucket

abbrev pub SplitsEnd : Type 0
SplitsEnd =
    (file : List ℕ) (bits top hash elems : ℕ) (bucket mine other : List Slot) → bits ≤ 24 → count (is_bad file bits top) bucket ≡ 0 → hash / 2 ^ (31 - bits) ≡ top
    → count is_full bucket ≡ elems → count (is_close hash) bucket < elems → SameSlots bucket (mine ++ other)
    → (other_top : ℕ) → count (is_bad file (bits + 1) other_top) other ≡ 0 → hash / 2 ^ (31 - (bits + 1)) ≢ other_top
    → IsNotLast bits hash bucket mine other
