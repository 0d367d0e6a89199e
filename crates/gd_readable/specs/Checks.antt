-- What the check of a file knows on its way.
use Rattle.std.specs.Prelude.{◌≡◌, ℕ, ◌+◌, ◌-◌, ◌*◌, ◌%◌, ◌^◌, ◌<◌, ◌≤◌, pos, Bool, true, false, not, List, length, nat_eq}
use Rattle.std.specs.Ordering.{int_eq}
use Rattle.std.specs.HashSet.{HashSet, contains}
use Rattle.std.specs.declared.hash.FoldHasher.{FoldHasher}
use Rattle.std.specs.declared.hash.BuildHasherDefault.{BuildHasherDefault}
use Rattle.gd_format.specs.declared.Header.{Header}
use Rattle.gd_format.specs.declared.RawSlot.{RawSlot}
use Rattle.gd_format.specs.Hash.{hash_of}
use Rattle.gd_format.specs.First.{all_below}
use Rattle.gd_format.specs.HeaderFault.{natural}
use Rattle.gd_format.specs.Bucket.{raw_slot_at}
use Rattle.gd_format.specs.File.{entry_at, is_full_at, key_of}

-- a set of numbers
abbrev pub Numbers : Type 0
Numbers = HashSet ℕ (BuildHasherDefault FoldHasher)

-- the header is one of a file of len bytes, in which the directory lies
pub record IsHeaderIn (h : Header) (len : ℕ) : Type 0 where
  pub bits : h.dir_bits ≤ 24
  pub block : 112 + 24 * h.elems ≤ h.block
  pub least : 512 ≤ h.block
  pub large : h.block ≤ 1048576
  pub fits : h.block ≤ len
  pub dir : h.dir + 8 * 2 ^ h.dir_bits ≤ len

-- the key of a slot lies in the file, and the slot has its hash
pub record HasKey (file : List ℕ) (r : RawSlot) : Type 0 where
  pub inside : 0 < natural r.key_size → natural r.at + natural r.key_size ≤ length file
  pub hash : natural r.hash ≡ hash_of (key_of file r)

-- each full slot below n has a key
abbrev pub HaveKeys : List ℕ → List ℕ → ℕ → Type 0
HaveKeys file block n = (t : ℕ) → t < n → is_full_at block t ≡ true → HasKey file (raw_slot_at block t)

-- the set has the hash of each full slot below n
abbrev pub SeesHashes : Numbers → List ℕ → ℕ → Type 0
SeesHashes seen block n = (t : ℕ) → t < n → is_full_at block t ≡ true → contains nat_eq seen (natural (raw_slot_at block t).hash) ≡ true

-- has the entry j another address than a?
unfoldable pub is_entry_other : List ℕ → Header → ℕ → ℕ → Bool
is_entry_other file h a j = not (int_eq (entry_at file h j) (pos a))

-- the set has the addresses of the entries below n
abbrev pub SeesPlaces : Numbers → List ℕ → Header → ℕ → Type 0
SeesPlaces seen file h n = (a : ℕ) → contains nat_eq seen a ≡ not (all_below n (is_entry_other file h a))

-- b full slots stand directly before the slot s, of which slot 0 has the last slot before it
pub record IsFullBefore (block : List ℕ) (elems s b : ℕ) : Type 0 where
  pub full : (k : ℕ) → k < b → is_full_at block ((s + elems - (k + 1)) % elems) ≡ true
  pub ends : b < elems → is_full_at block ((s + elems - (b + 1)) % elems) ≡ false
  pub few : b ≤ elems
