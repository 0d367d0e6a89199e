-- What a walk over a readable file knows where it stands.
use Rattle.std.proofs.Common.{◌≡◌, ℕ, ◌+◌, ◌-◌, ◌*◌, ◌<◌, ◌≤◌, true, List, ◌∷◌, length, None, refl, ◌∙◌, arith}
use Rattle.gd_format.specs.declared.Header.{Header}
use Rattle.gd_format.specs.Bucket.{raw_slot_at}
use Rattle.gd_format.specs.HeaderFault.{header_of}
use Rattle.gd_format.specs.File.{file_fault, dir_fault, front_of, entries_of, block_of, is_first, are_fields_right, is_full_at, is_record_in, key_of, value_of}
use Rattle.gd_format.proofs.Firsts.{or_else-none}
use Rattle.gd_format.proofs.Pieces.{length-bytes_at}
use Rattle.gd_readable.specs.Checks.{IsHeaderIn}
use Rattle.gd_readable.specs.Left.{IsWalk, passing_from, slots_left, buckets_left, records_left}
use Rattle.gd_readable.proofs.Headers.{header_in}
use Rattle.gd_readable.proofs.Walks.{record_in, fields_in, dir_none, bucket_place}
use Rattle.gd_readable.proofs.Passing.{slots_step, buckets_step}

header_whole : (file : List ℕ) → file_fault file ≡ None → IsHeaderIn (header_of (front_of file)) (length file)
unfolding file_fault
header_whole file none = header_in (front_of file) (length file) (or_else-none _ _ none).0

pub block_size : (file : List ℕ) (h : Header) (i : ℕ) → dir_fault file h ≡ None → i < entries_of h → length (block_of file h i) ≡ h.block
unfolding block_of
block_size file h i none lt =
    let place = bucket_place file h none i lt _ refl in
    length-bytes_at file _ h.block place.1

module _ (file : List ℕ) (h : Header) (i : ℕ) (block : List ℕ) (s : ℕ) (w : IsWalk file h i block s) where
  pub header_of_walk : IsHeaderIn h (length file)
  header_of_walk = rw w.header (header_whole file w.readable)

  pub dir_of_walk : dir_fault file h ≡ None
  dir_of_walk = rw w.header (dir_none file w.readable)

  pub block_of_walk : s < h.elems → 112 + 24 * h.elems ≤ length block
  block_of_walk lt =
      let some = w.begun lt in
      let entries = w.entries in
      let size = block_size file h (i - 1) dir_of_walk (omega arith) in
      let room = header_of_walk.block in
      rw (w.in_bucket lt) (omega (arith, size, room))

  pub record_of_walk : (t : ℕ) → s ≤ t → t < h.elems → is_full_at block t ≡ true → is_record_in (length file) (raw_slot_at block t) ≡ true
  record_of_walk t le lt full =
      let s_lt : s < h.elems = omega arith in
      let some = w.begun s_lt in
      let entries = w.entries in
      let at = w.in_bucket s_lt in
      let there : is_full_at (block_of file h (i - 1)) t ≡ true = rw at at full in
      rw at (record_in file h dir_of_walk (i - 1) (omega arith) t lt there)

  pub fields_of_walk : (t : ℕ) → s ≤ t → t < h.elems → is_full_at block t ≡ true → are_fields_right (raw_slot_at block t) ≡ true
  fields_of_walk t le lt full =
      let s_lt : s < h.elems = omega arith in
      let some = w.begun s_lt in
      let entries = w.entries in
      let at = w.in_bucket s_lt in
      let there : is_full_at (block_of file h (i - 1)) t ≡ true = rw at at full in
      rw at (fields_in file h dir_of_walk (i - 1) (omega arith) t lt there)

  -- behind the last slot
  pub walk_behind : (next : List ℕ) → IsWalk file h i next h.elems
  walk_behind next =
      record {
        readable = w.readable;
        header = w.header;
        entries = w.entries;
        slots = omega arith;
        begun = λ l. absurd (omega arith);
        in_bucket = λ l. absurd (omega arith);
      }

  -- behind the last bucket
  pub walk_ended : (next : List ℕ) → IsWalk file h (entries_of h) next h.elems
  walk_ended next =
      record {
        readable = w.readable;
        header = w.header;
        entries = omega arith;
        slots = omega arith;
        begun = λ l. absurd (omega arith);
        in_bucket = λ l. absurd (omega arith);
      }

  -- one record on
  pub walk_slot : (t : ℕ) → s ≤ t → t < h.elems → IsWalk file h i block (t + 1)
  walk_slot t le lt =
      record {
        readable = w.readable;
        header = w.header;
        entries = w.entries;
        slots = omega arith;
        begun = λ l. w.begun (omega arith);
        in_bucket = λ l. w.in_bucket (omega arith);
      }

  -- one bucket on
  pub walk_bucket : (j : ℕ) (next : List ℕ) → j < entries_of h → next ≡ block_of file h j → IsWalk file h (j + 1) next 0
  walk_bucket j next lt e =
      let at : j + 1 - 1 ≡ j = omega arith in
      record {
        readable = w.readable;
        header = w.header;
        entries = omega arith;
        slots = omega arith;
        begun = λ l. omega arith;
        in_bucket = λ l. rw at e;
      }

  pub slot_left : (t : ℕ) (key value : List ℕ) → passing_from (is_full_at block) h.elems s ≡ t ∷ passing_from (is_full_at block) h.elems (t + 1) → key ≡ key_of file (raw_slot_at block t) → value ≡ value_of file (raw_slot_at block t) → slots_left file h.elems block s ≡ (key, value) ∷ slots_left file h.elems block (t + 1)
  slot_left t key value e k v = slots_step file block h.elems s t e ∙ rw (k, v) refl

  pub bucket_left : (j : ℕ) (next : List ℕ) → passing_from (is_first file h) (entries_of h) i ≡ j ∷ passing_from (is_first file h) (entries_of h) (j + 1) → next ≡ block_of file h j → buckets_left file h i ≡ records_left file h (j + 1) next 0
  bucket_left j next e n = buckets_step file h i j e ∙ rw n refl

pub walk_start : (file : List ℕ) (h : Header) (block : List ℕ) → file_fault file ≡ None → h ≡ header_of (front_of file) → IsWalk file h 0 block h.elems
walk_start file h block none is =
    record {
      readable = none;
      header = is;
      entries = omega arith;
      slots = omega arith;
      begun = λ l. absurd (omega arith);
      in_bucket = λ l. absurd (omega arith);
    }
