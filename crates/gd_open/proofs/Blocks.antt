-- What of a readable file the reads of its parts rest on.
use Rattle.std.proofs.Common.{◌≡◌, ◌+◌, ◌-◌, ◌*◌, ◌/◌, ◌^◌, ◌<◌, ◌≤◌, ℕ, true, List, ◌++◌, length, take, None, Some, refl, ap, ◌∙◌, arith}
use Rattle.std.specs.Prelude.{pos, nat_le}
use Rattle.std.proofs.lemmas.Nat.{shr_below}
use Rattle.std.proofs.lemmas.List.{take-append-le, take_all}
use Rattle.std.proofs.lemmas.Bool.{leb-true}
use Rattle.gd_format.specs.declared.Header.{Header}
use Rattle.gd_format.specs.Field.{bytes_at, i64_at}
use Rattle.gd_format.specs.HeaderFault.{is_block_size, is_within, natural}
use Rattle.gd_format.specs.Headers.{IsHeader}
use Rattle.gd_format.specs.Bucket.{Bucket, bucket_at, is_bucket}
use Rattle.gd_format.specs.File.{dir_fault, entries_of, entry_at, block_of, run_at}
use Rattle.gd_format.proofs.Firsts.{and-true, length-list_below}
use Rattle.gd_format.proofs.Pieces.{i64_at_front}
use Rattle.gd_file_laws.specs.Parts.{HasParts}
use Rattle.gd_file_laws.specs.Sizes.{IsHeaderIn}
use Rattle.gd_file_laws.proofs.Headers.{header_in}
use Rattle.gd_file_laws.proofs.Walk.{readable}
use Rattle.gd_map_laws.proofs.FileUpdate.{fields_of}
use Rattle.gd_readable.specs.Standing.{place_of}
use Rattle.gd_readable.proofs.Places.{place_is}
use Rattle.gd_readable.proofs.Walks.{bucket_place, dir_none}
use Rattle.gd_open.specs.Files.{IsOpen}
use Rattle.gd_open.specs.Reading.{IsBucketPlace}

module _ (file : List ℕ) (h : Header) (o : IsOpen file h) where
  pub open_header : IsHeaderIn h (length file)
  open_header = rw o.header (header_in _ (length file) (readable file o.readable).header)

  pub open_dir : dir_fault file h ≡ None
  open_dir = rw o.header (dir_none file o.readable)

  pub open_parts : HasParts file h
  open_parts = rw o.header ((readable file o.readable).parts)

  pub entry_in : (i : ℕ) → i < entries_of h → h.dir + 8 * i + 8 ≤ length file
  entry_in i lt = let d = open_header.dir in omega (arith, d)

  pub entry_is : (i : ℕ) → i < entries_of h → (entry_at file h i ≡ pos (natural (entry_at file h i))) × (natural (entry_at file h i) + h.block ≤ length file)
  entry_is i lt = bucket_place file h open_dir i lt _ refl

  -- eight bytes read at an entry
  pub address_read : (i : ℕ) (bytes : List ℕ) → i < entries_of h → bytes ≡ bytes_at file (h.dir + 8 * i) 8 → place_of (i64_at bytes 0) ≡ Some (natural (entry_at file h i))
  unfolding entry_at
  address_read i bytes lt read = rw (i64_at_front file bytes (h.dir + 8 * i) read) (place_is (i64_at file (h.dir + 8 * i)) _ (entry_is i lt).0)

  pub block_in : (at : ℕ) → IsBucketPlace file h at → at + h.block ≤ length file
  block_in at p = rw p.place ((entry_is p.index p.within).1)

  bucket_at_entry : (i : ℕ) → i < entries_of h → is_bucket (bytes_at file (natural (entry_at file h i)) h.block) h.elems ≡ true
  unfolding block_of
  bucket_at_entry i lt = fields_of file h (block_of file h i) (i / run_at file h i) open_header.bits (open_parts.buckets i lt)

  pub block_right : (at : ℕ) → IsBucketPlace file h at → is_bucket (bytes_at file at h.block) h.elems ≡ true
  block_right at p = rw p.place (bucket_at_entry p.index p.within)

pub slots_length : (block : List ℕ) (elems : ℕ) (b : Bucket) → b ≡ bucket_at block elems → length b.slots ≡ elems
unfolding bucket_at
slots_length block elems b is = rw is (length-list_below _ elems)

pub place_of_entry : (file : List ℕ) (h : Header) (at i : ℕ) → i < entries_of h → at ≡ natural (entry_at file h i) → IsBucketPlace file h at
place_of_entry file h at i lt e = record { index = i; within = lt; place = e }

pub header_some : (h : Header) → IsHeader h → 0 < h.elems
unfolding is_block_size
header_some h i =
    let size = leb-true 512 h.block (and-true (nat_le 512 h.block) (nat_le h.block 1048576) (and-true (is_within (pos h.block) 512 1048576) _ i.block).0).0 in
    let e = i.elems in
    omega (arith, size, e)

pub hash_within : (h : Header) (hash : ℕ) → h.dir_bits ≤ 24 → hash < 2 ^ 31 → hash / 2 ^ (31 - h.dir_bits) < entries_of h
hash_within h hash le small =
    let whole : h.dir_bits + (31 - h.dir_bits) ≡ 31 = omega arith in
    shr_below hash h.dir_bits (31 - h.dir_bits) (rw whole small)

-- a buffer that was handed on whole
pub whole_front : (n : ℕ) (xs ys : List ℕ) → length xs ≡ n → take n (xs ++ ys) ≡ xs
whole_front n xs ys e = take-append-le n xs ys (omega (arith, e)) ∙ take_all n xs (omega (arith, e))
