-- The order of the keys of a file.
use Rattle.std.proofs.Common.{◌≡◌, ℕ, ◌+◌, ◌<◌, ◌≤◌, true, false, List, [], ◌∷◌, ◌++◌, length, get_or, Option, None, Some, refl, sym, ap, ◌∙◌, arith}
use Rattle.std.specs.FinMap.{get}
use Rattle.std.specs.Str.{bytes_eq}
use Rattle.std.proofs.lemmas.Slice.Eq.{bytes_eq-Decides}
use Rattle.gd_format.specs.declared.Header.{Header}
use Rattle.gd_format.specs.declared.RawSlot.{RawSlot}
use Rattle.gd_format.specs.declared.Slot.TheVariants.{Empty}
use Rattle.gd_format.specs.Field.{bytes_at}
use Rattle.gd_format.specs.HeaderFault.{natural}
use Rattle.gd_format.specs.Bucket.{Bucket, bucket_at, counts_at, is_empty_hash, raw_slot_at, slot_of, slots_at}
use Rattle.gd_format.specs.File.{are_fields_right, block_of, entries_of, entry_at, is_first, run_at, is_full_at, is_record_in, key_of, record_of, records, value_of}
use Rattle.gd_format.specs.Slots.{count}
use Rattle.gd_file_laws.proofs.Lists.{bool_cases}
use Rattle.gd_map_laws.specs.Find.{is_slot_of}
use Rattle.gd_map_laws.specs.Lookup.{has_key, lookup}
use Rattle.gd_map_laws.specs.Maps.{pair_map}
use Rattle.gd_map_laws.proofs.Lists.{count-append}
use Rattle.gd_map_laws.proofs.Lookup.{records_once}
use Rattle.gd_map_laws.proofs.Maps.{by_lookup}
use Rattle.gd_map_laws.proofs.Slots.{get_or-list_below}
use Rattle.gd_readable.specs.Left.{buckets_left, passing_from, slots_left}
use Rattle.gd_readable.proofs.Passing.{buckets_none, passing_end, slots_none, slots_step}
use Rattle.gd_readable.proofs.Walks.{fields_in, record_in}
use Rattle.gd_lookup.specs.Counting.{behind, have_share, run_of, Begins, IsBlock}
use Rattle.gd_lookup.specs.declared.Successor.TheVariants.{Absent}
use Rattle.gd_open.specs.Files.{IsOpen}
use Rattle.gd_lookup.specs.Order.{first_of, following, successor}
use Rattle.gd_open.proofs.Blocks.{open_dir, open_parts}
use Rattle.gd_lookup.proofs.Counts.{run_is, shares}
use Rattle.gd_lookup.proofs.Runs.{left_step, record_among, records_are, run_of_entry, step}

abbrev Pairs : Type 0
Pairs = List (List ℕ × List ℕ)

-- ---- in a list of pairs

pub absent_after : (key : List ℕ) (pairs : Pairs) → lookup key pairs ≡ None → successor key pairs ≡ Absent
absent_after key [] e = refl
absent_after key ((k, v) ∷ rest) e =
    bool_cases (bytes_eq k key)
    (λ t. let bad : Some v ≡ None = rw t at e in absurd cc)
    (λ f. let more : lookup key rest ≡ None = rw f at e in rw f (absent_after key rest more))

-- behind pairs of other keys
passed_over : (key value : List ℕ) (before rest : Pairs) → count (has_key key) before ≡ 0 → successor key (before ++ (key, value) ∷ rest) ≡ following (first_of rest)
passed_over key value [] rest z = let t = (bytes_eq-Decides key key).1 refl in rw t refl
passed_over key value ((k, v) ∷ before) rest z =
    bool_cases (bytes_eq k key)
    (λ t. let bad : 1 + count (has_key key) before ≡ 0 = rw t at z in absurd (omega (arith, bad)))
    (λ f. let more : 0 + count (has_key key) before ≡ 0 = rw f at z in rw f (passed_over key value before rest (omega (arith, more))))

pub after_record : (key value : List ℕ) (all before rest : Pairs) → count (has_key key) all ≤ 1 → all ≡ before ++ (key, value) ∷ rest → successor key all ≡ following (first_of rest)
after_record key value all before rest once is =
    let here : count (has_key key) (before ++ (key, value) ∷ rest) ≤ 1 = rw is at once in
    let sum = count-append (has_key key) before ((key, value) ∷ rest) in
    let t = (bytes_eq-Decides key key).1 refl in
    let one : count (has_key key) ((key, value) ∷ rest) ≡ 1 + count (has_key key) rest = rw t refl in
    ap (successor key) is ∙ passed_over key value before rest (omega (arith, here, sum, one))

-- ---- in a file

slot_full : (raw : RawSlot) (file key : List ℕ) → is_slot_of file key (slot_of raw) ≡ true → (is_empty_hash raw.hash ≡ false) × (key_of file raw ≡ key)
unfolding slot_of key_of
slot_full raw file key own =
    bool_cases (is_empty_hash raw.hash)
    (λ t. let bad : is_slot_of file key Empty ≡ true = rw t at own in absurd cc)
    (λ f. let here : bytes_eq (bytes_at file (natural raw.at) (natural raw.key_size)) key ≡ true = rw f at own in (f, (bytes_eq-Decides _ _).0 here))

module _ (file : List ℕ) (h : Header) (o : IsOpen file h) where
  -- of a block of the file: its slots' fields and records are right
  pub slot_fields : (block : List ℕ) → IsBlock file h block → (s : ℕ) → s < h.elems → is_full_at block s ≡ true → (are_fields_right (raw_slot_at block s) ≡ true) × (is_record_in (length file) (raw_slot_at block s) ≡ true)
  slot_fields block b s lt full =
      let there : is_full_at (block_of file h b.index) s ≡ true = rw b.block_is at full in
      rw b.block_is (fields_in file h (open_dir file h o) b.index b.within s lt there, record_in file h (open_dir file h o) b.index b.within s lt there)

  pub first_slot : (block : List ℕ) (from s : ℕ) (key : List ℕ) → passing_from (is_full_at block) h.elems from ≡ s ∷ passing_from (is_full_at block) h.elems (s + 1) → key ≡ key_of file (raw_slot_at block s) → first_of (slots_left file h.elems block from) ≡ Some key
  first_slot block from s key e is = ap first_of (slots_step file block h.elems from s e) ∙ ap (λ (k : List ℕ). Some k) (sym is)

  -- what follows the key of a slot
  pub after_slot : (i s : ℕ) (key : List ℕ) → i < entries_of h → s < h.elems → is_slot_of file key (slot_of (raw_slot_at (block_of file h i) s)) ≡ true → successor key (records file) ≡ following (first_of (slots_left file h.elems (block_of file h i) (s + 1) ++ buckets_left file h (behind file h i)))
  unfolding is_full_at
  after_slot i s key lt place own =
      let raw = raw_slot_at (block_of file h i) s in
      let f = slot_full raw file key own in
      let full : is_full_at (block_of file h i) s ≡ true = rw f.0 refl in
      let r = record_among file h o i s lt place full in
      let same : record_of file raw ≡ (key, value_of file raw) = rw f.1 refl in
      after_record key (value_of file raw) (records file) r.0 (slots_left file h.elems (block_of file h i) (s + 1) ++ buckets_left file h (behind file h i)) (records_once file o.readable key) (rw same at r.1)

pub absent_in : (file key : List ℕ) → get (pair_map (records file)) key ≡ None → successor key (records file) ≡ Absent
absent_in file key e = absent_after key (records file) (sym (by_lookup (records file) key) ∙ e)

-- the first of two lists
pub first_before : (xs ys : Pairs) (key : List ℕ) → first_of xs ≡ Some key → first_of (xs ++ ys) ≡ Some key
first_before [] ys key e = absurd cc
first_before ((k, v) ∷ xs) ys key e = e

pub slot_at_place : (block : List ℕ) (n s : ℕ) → s < n → get_or (slots_at block n) s Empty ≡ slot_of (raw_slot_at block s)
slot_at_place block n s lt = get_or-list_below (λ t. slot_of (raw_slot_at block t)) Empty n s lt

-- ---- from run to run

module _ (file : List ℕ) (h : Header) (o : IsOpen file h) where
  module _ (i : ℕ) (lt : i < entries_of h) (b : Begins file h i) (block : List ℕ) (is : block ≡ block_of file h i) where
    left_is : buckets_left file h i ≡ slots_left file h.elems block 0 ++ buckets_left file h (i + run_at file h i)
    left_is = left_step file h i lt (step file h (open_parts file h o) i lt b) ∙ ap (λ (x : List ℕ). slots_left file h.elems x 0 ++ buckets_left file h (i + run_at file h i)) (sym is)

    -- a bucket with a key
    pub first_here : (all : Pairs) (key : List ℕ) → buckets_left file h i ≡ all → first_of (slots_left file h.elems block 0) ≡ Some key → Some key ≡ first_of all
    first_here all key e first = sym (ap first_of (sym e ∙ left_is) ∙ first_before (slots_left file h.elems block 0) (buckets_left file h (i + run_at file h i)) key first)

    -- a bucket without a key
    pub left_on : (all : Pairs) (run : ℕ) → run ≡ run_at file h i → buckets_left file h i ≡ all → passing_from (is_full_at block) h.elems 0 ≡ [] → buckets_left file h (i + run) ≡ all
    left_on all run r e none =
        let empty = slots_none file block h.elems 0 none in
        let here : buckets_left file h i ≡ buckets_left file h (i + run_at file h i) = left_is ∙ ap (λ (l : Pairs). l ++ buckets_left file h (i + run_at file h i)) empty in
        rw r (sym here ∙ e)

    pub begins_next : (run : ℕ) → run ≡ run_at file h i → Begins file h (i + run)
    begins_next run r = rw r ((step file h (open_parts file h o) i lt b).next)

  pub none_left : (i : ℕ) (all : Pairs) → entries_of h ≤ i → buckets_left file h i ≡ all → None ≡ first_of all
  none_left i all le e = ap first_of (sym (buckets_none file h i (passing_end (is_first file h) (entries_of h) i le)) ∙ e)

  pub begins_behind : (i : ℕ) → i < entries_of h → Begins file h (behind file h i)
  begins_behind i lt = let r = run_of_entry file h o i lt in rw r.behind_is ((step file h (open_parts file h o) r.start r.low r.begins).next)

  pub all_firsts : first_of (buckets_left file h 0) ≡ first_of (records file)
  all_firsts = ap first_of (sym (records_are file h o))

  -- of a block of an entry: its counts give the run
  pub counted_run : (i run : ℕ) (block : List ℕ) → i < entries_of h → block ≡ block_of file h i → run ≡ run_of h.dir_bits (counts_at block) → run ≡ run_at file h i
  counted_run i run block lt is e = e ∙ ap (λ (x : List ℕ). run_of h.dir_bits (counts_at x)) is ∙ run_is file h o i lt

  pub no_share : (i : ℕ) (block : List ℕ) → i < entries_of h → block ≡ block_of file h i → have_share h.dir_bits (counts_at block) ≡ false → ⊥
  no_share i block lt is e =
      let s = shares file h o i lt in
      let t = ap (λ (x : List ℕ). have_share h.dir_bits (counts_at x)) is in
      absurd (cc (s, t, e))

  -- behind the last full slot of a bucket
  pub first_past : (i next place : ℕ) (block : List ℕ) (r : Option (List ℕ)) → block ≡ block_of file h i → passing_from (is_full_at block) h.elems place ≡ [] → next ≡ behind file h i → r ≡ first_of (buckets_left file h next) → r ≡ first_of (slots_left file h.elems (block_of file h i) place ++ buckets_left file h (behind file h i))
  first_past i next place block r is none e f =
      let empty : slots_left file h.elems (block_of file h i) place ≡ [] = rw is at (slots_none file block h.elems place none) in
      f ∙ ap (λ (n : ℕ). first_of (buckets_left file h n)) e ∙ ap (λ (l : Pairs). first_of (l ++ buckets_left file h (behind file h i))) (sym empty)

  pub first_same : (i place : ℕ) (block key : List ℕ) → block ≡ block_of file h i → first_of (slots_left file h.elems block place) ≡ Some key → Some key ≡ first_of (slots_left file h.elems (block_of file h i) place ++ buckets_left file h (behind file h i))
  first_same i place block key is e = sym (first_before (slots_left file h.elems (block_of file h i) place) (buckets_left file h (behind file h i)) key (ap (λ (x : List ℕ). first_of (slots_left file h.elems x place)) (sym is) ∙ e))

  -- the slot that was found in the bucket of a key
  pub after_found : (key : List ℕ) (at i place : ℕ) (bucket : Bucket) → i < entries_of h → at ≡ natural (entry_at file h i) → bucket ≡ bucket_at (bytes_at file at h.block) h.elems → place < h.elems → is_slot_of file key (get_or bucket.slots place Empty) ≡ true → successor key (records file) ≡ following (first_of (slots_left file h.elems (block_of file h i) (place + 1) ++ buckets_left file h (behind file h i)))
  unfolding bucket_at block_of
  after_found key at i place bucket lt a is below own =
      let slots : bucket.slots ≡ slots_at (block_of file h i) h.elems = rw (is, a) refl in
      let there : is_slot_of file key (get_or (slots_at (block_of file h i) h.elems) place Empty) ≡ true = rw slots at own in
      let slot : is_slot_of file key (slot_of (raw_slot_at (block_of file h i) place)) ≡ true = rw (slot_at_place (block_of file h i) h.elems place below) at there in
      after_slot file h o i place key lt below slot
