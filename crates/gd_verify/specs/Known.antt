-- What is known of a file on the way to its extents.
use Rattle.std.specs.Prelude.{◌≡◌, ℕ, ◌+◌, ◌-◌, ◌*◌, ◌^◌, ◌<◌, ◌≤◌, ℤ, negsuc, true, List, length, map, None, Option}
use Rattle.std.specs.List.{range_with_len, filter}
use Rattle.gd_base.specs.declared.errors.DbError.{DbError}
use Rattle.gd_base.specs.declared.errors.DbError.TheVariants.{BadAvail}
use Rattle.gd_format.specs.declared.Header.{Header}
use Rattle.gd_format.specs.Field.{bytes_at}
use Rattle.gd_format.specs.First.{unless}
use Rattle.gd_format.specs.HeaderFault.{is_within, natural}
use Rattle.gd_format.specs.Bucket.{counts_at}
use Rattle.gd_format.specs.File.{dir_fault, entries_of, entry_at, is_first}
use Rattle.gd_format.specs.Sound.{is_free_right}
use Rattle.gd_readable.specs.Checks.{IsHeaderIn}

-- the header is one of a readable file
pub record IsReadBy (file : List ℕ) (h : Header) : Type 0 where
  pub inside : IsHeaderIn h (length file)
  pub dir : dir_fault file h ≡ None

-- ---- the directory

abbrev pub IsAddress : ℕ → Type 0
IsAddress a = a < 2 ^ 63

-- the addresses that stand first at one of the first n entries
unfoldable pub places_below : List ℕ → Header → ℕ → List ℕ
places_below file h n = map (λ i. natural (entry_at file h i)) (filter (is_first file h) (range_with_len 0 n))

-- after n entries, of which `before` is the last one, or -1 before the first one
pub record IsPlaced (file : List ℕ) (h : Header) (n : ℕ) (before : ℤ) (list : List ℕ) : Type 0 where
  pub first : n ≡ 0 → before ≡ negsuc 0
  pub last : 0 < n → before ≡ entry_at file h (n - 1)
  pub places : list ≡ places_below file h n

-- bytes are those of so many entries from i on
pub record IsPage (file : List ℕ) (h : Header) (i count : ℕ) (bytes : List ℕ) : Type 0 where
  pub ends : i + count ≤ entries_of h
  pub bytes_are : bytes ≡ bytes_at file (h.dir + 8 * i) (8 * count)

-- ---- the buckets

-- a bucket at an address lies in the file, and has its free extents
pub record HasBucket (file : List ℕ) (h : Header) (at : ℕ) : Type 0 where
  pub ends : at + h.block ≤ length file
  pub free : is_within (counts_at (bytes_at file at h.block)).free 0 6 ≡ true

-- the refusal of the free extents of the bucket at an address
abbrev pub free_fault_at : List ℕ → Header → ℕ → Option DbError
free_fault_at file h at = unless (is_free_right file h at) (BadAvail at)
