-- The records that a walk over a file has still to give.
use Rattle.std.specs.Prelude.{◌≡◌, ℕ, ◌-◌, ◌<◌, ◌≤◌, Bool, List, ◌++◌, map, filter, None}
use Rattle.std.specs.List.{range_with_len, flat_map}
use Rattle.gd_format.specs.declared.Header.{Header}
use Rattle.gd_format.specs.Bucket.{raw_slot_at}
use Rattle.gd_format.specs.HeaderFault.{header_of}
use Rattle.gd_format.specs.File.{file_fault, front_of, entries_of, block_of, is_first, is_full_at, record_of, bucket_records}

-- the numbers from a on and below n that pass
unfoldable pub passing_from : (ℕ → Bool) → (n a : ℕ) → List ℕ
passing_from p n a = filter p (range_with_len a (n - a))

-- the records of the slots of a bucket from one on
unfoldable pub slots_left : List ℕ → ℕ → List ℕ → ℕ → List (List ℕ × List ℕ)
slots_left file elems block s = map (λ t. record_of file (raw_slot_at block t)) (passing_from (is_full_at block) elems s)

-- the records of the buckets that come first at an entry from one on
unfoldable pub buckets_left : List ℕ → Header → ℕ → List (List ℕ × List ℕ)
buckets_left file h i = flat_map (λ j. bucket_records file h.elems (block_of file h j)) (passing_from (is_first file h) (entries_of h) i)

-- those of a bucket from a slot on, and of the buckets from an entry on
abbrev pub records_left : List ℕ → Header → (i : ℕ) (block : List ℕ) (s : ℕ) → List (List ℕ × List ℕ)
records_left file h i block s = slots_left file h.elems block s ++ buckets_left file h i

-- a walk over a readable file stands in the bucket of the entry before i, or behind its last slot
pub record IsWalk (file : List ℕ) (h : Header) (i : ℕ) (block : List ℕ) (s : ℕ) : Type 0 where
  pub readable : file_fault file ≡ None
  pub header : h ≡ header_of (front_of file)
  pub entries : i ≤ entries_of h
  pub slots : s ≤ h.elems
  pub begun : s < h.elems → 0 < i
  pub in_bucket : s < h.elems → block ≡ block_of file h (i - 1)
