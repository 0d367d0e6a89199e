-- A change of one bucket of a file.
use Rattle.std.proofs.Common.{◌≡◌, ◌≢◌, ℕ, ◌-◌, ◌/◌, ◌^◌, ◌<◌, ◌≤◌, true, ◌&&◌, List, [], ◌++◌, length, refl, sym, ap, ◌∙◌, arith}
use Rattle.std.specs.Prelude.{ℤ, pos, negsuc, nat_le}
use Rattle.std.specs.Ordering.{int_eq}
use Rattle.std.proofs.lemmas.Bool.{le-leb, leb-true}
use Rattle.std.proofs.lemmas.Bool.Decides.{Decides-int_eq}
use Rattle.gd_format.specs.declared.Header.{Header}
use Rattle.gd_format.specs.declared.Slot.{Slot}
use Rattle.gd_format.specs.HeaderFault.{is_within}
use Rattle.gd_format.specs.Bucket.{counts_at, raw_slot_at, slots_at, is_bucket, is_slot_signed_right, is_from_zero}
use Rattle.gd_format.specs.File.{entry_at, entries_of, run_at, block_of, bits_at, is_full_at, are_counts_right, are_fields_right}
use Rattle.gd_format.proofs.Firsts.{and-true, both_true, all_below_from}
use Rattle.gd_file_laws.specs.Parts.{IsBucketRight, HasParts}
use Rattle.gd_file_laws.proofs.Lists.{bool_cases}
use Rattle.gd_file_laws.proofs.Made.{bits_within}
use Rattle.gd_map_laws.specs.Lookup.{lookup, slot_records, index_of, value_at}
use Rattle.gd_map_laws.specs.Slots.{AreSlotsRight}
use Rattle.gd_map_laws.specs.Update.{SlotsChange, SlotsChanged, IsSameShape, IsBucketStill, FileChange, FileChanged}
use Rattle.gd_map_laws.proofs.Lookup.{index_below}
use Rattle.gd_map_laws.proofs.Slots.{of_bucket, of_slots, full_is, empty_is}
use Rattle.gd_map_laws.proofs.Update.{slots_changed, kept_records}

pub within_longer : (z : ℤ) (m n : ℕ) → m ≤ n → is_within z 0 m ≡ true → is_within z 0 n ≡ true
within_longer (pos k) m n le h = let both = and-true (nat_le 0 k) (nat_le k m) h in both_true _ _ both.0 (le-leb k n (let a = leb-true k m both.1 in omega arith))
within_longer (negsuc k) m n le h = absurd cc

-- the fields of a bucket that is right
pub fields_of : (file : List ℕ) (h : Header) (block : List ℕ) (top : ℕ) → h.dir_bits ≤ 24 → IsBucketRight file h block top → is_bucket block h.elems ≡ true
unfolding is_bucket are_counts_right is_slot_signed_right are_fields_right
fields_of file h block top le right =
    let c = and-true (is_within (counts_at block).free 0 6) (is_within (counts_at block).bits 0 h.dir_bits) right.counts in
    both_true _ _ (both_true _ _ c.0 (within_longer (counts_at block).bits h.dir_bits 24 le c.1))
    (all_below_from (λ s. is_slot_signed_right (raw_slot_at block s)) h.elems
    (λ s lt.
    bool_cases (is_full_at block s)
    (λ full.
    let f = (right.slots s lt full).fields in
    let signs = and-true (is_from_zero (raw_slot_at block s).hash && is_from_zero (raw_slot_at block s).at && is_from_zero (raw_slot_at block s).key_size && is_from_zero (raw_slot_at block s).value_size) _ f in
    rw (full_is file block s full) signs.0)
    (λ empty. rw (empty_is file block s empty) refl)))

-- ---- another header of the same shape

module _ (file : List ℕ) (h h' : Header) (shape : IsSameShape h h') where
  pub entry_shape : (i : ℕ) → entry_at file h' i ≡ entry_at file h i
  unfolding entry_at
  entry_shape i = rw shape.dir refl

  pub block_shape : (i : ℕ) → block_of file h' i ≡ block_of file h i
  unfolding block_of
  block_shape i = rw (entry_shape i, shape.block) refl

  run_shape : (i : ℕ) → run_at file h' i ≡ run_at file h i
  unfolding run_at
  run_shape i = rw (block_shape i, shape.bits) refl

  bucket_shape : (block : List ℕ) (top : ℕ) → IsBucketRight file h block top → IsBucketRight file h' block top
  unfolding are_counts_right
  bucket_shape block top right =
      record {
        counts = rw shape.bits right.counts;
        count = rw shape.elems right.count;
        slots = λ s lt full. right.slots s (let e = shape.elems in omega arith) full;
        reached = λ s lt full. rw shape.elems (right.reached s (let e = shape.elems in omega arith) full);
      }

  below_shape : (i : ℕ) → i < entries_of h' → i < entries_of h
  below_shape i lt = rw shape.bits at lt

  pub parts_shape : HasParts file h → HasParts file h'
  parts_shape parts =
      record {
        dir = record {
          block_fits = rw shape.block parts.dir.block_fits;
          in_file = λ i lt. rw (entry_shape i, shape.block) (parts.dir.in_file i (below_shape i lt));
          one_run = λ i j li lj. rw (entry_shape i, entry_shape j, run_shape i) (parts.dir.one_run i j (below_shape i li) (below_shape j lj));
        };
        buckets = λ i lt. rw (block_shape i, run_shape i) (bucket_shape (block_of file h i) (i / run_at file h i) (parts.buckets i (below_shape i lt)));
      }

  index_shape : (key : List ℕ) → index_of h' key ≡ index_of h key
  unfolding index_of
  index_shape key = rw shape.bits refl

  pub value_shape : (key : List ℕ) → value_at file h' key ≡ value_at file h key
  unfolding value_at
  value_shape key =
      ap (λ (i : ℕ). lookup key (slot_records file (slots_at (block_of file h' i) h'.elems))) (index_shape key)
      ∙ ap (λ (block : List ℕ). lookup key (slot_records file (slots_at block h'.elems))) (block_shape (index_of h key))
      ∙ ap (λ (n : ℕ). lookup key (slot_records file (slots_at (block_of file h (index_of h key)) n))) shape.elems

-- ---- the file

module _ (old new : List ℕ) (h : Header) (i : ℕ) (gone come rest : List Slot) (bits_le : h.dir_bits ≤ 24) (parts : HasParts old h) (li : i < entries_of h) (change : FileChange old new h i gone come rest) where
  decide_entry : (j : ℕ) {P : Type 0} → (entry_at old h j ≡ entry_at old h i → P) → (entry_at old h j ≢ entry_at old h i → P) → P
  decide_entry j p q =
      bool_cases (int_eq (entry_at old h j) (entry_at old h i))
      (λ t. p ((Decides-int_eq (entry_at old h j) (entry_at old h i)).0 t))
      (λ f. q (λ e. let t = (Decides-int_eq (entry_at old h j) (entry_at old h i)).1 e in absurd (cc (t, f))))

  old_block : (j : ℕ) → entry_at old h j ≡ entry_at old h i → block_of old h j ≡ block_of old h i
  unfolding block_of
  old_block j e = rw e refl

  new_block : (j : ℕ) → j < entries_of h → entry_at old h j ≡ entry_at old h i → block_of new h j ≡ block_of new h i
  unfolding block_of
  new_block j lj e = rw (change.entries j lj, change.entries i li, e) refl

  bits_same : (j : ℕ) → j < entries_of h → bits_at (block_of new h j) ≡ bits_at (block_of old h j)
  bits_same j lj =
      decide_entry j
      (λ e. ap bits_at (new_block j lj e) ∙ change.bits ∙ sym (ap bits_at (old_block j e)))
      (λ ne. ap bits_at (change.others j lj ne).block)

  run_same : (j : ℕ) → j < entries_of h → run_at new h j ≡ run_at old h j
  unfolding run_at
  run_same j lj = ap (λ (b : ℕ). 2 ^ (h.dir_bits - b)) (bits_same j lj)

  top_same : (j : ℕ) → j < entries_of h → entry_at old h j ≡ entry_at old h i → j / run_at new h j ≡ i / run_at old h i
  unfolding run_at
  top_same j lj e =
      let r : run_at old h j ≡ run_at old h i = ap (λ (block : List ℕ). 2 ^ (h.dir_bits - bits_at block)) (old_block j e) in
      ap (λ (r : ℕ). j / r) (run_same j lj ∙ r) ∙ (parts.dir.one_run i j li lj).0 e

  still_right : (j : ℕ) → j < entries_of h → IsBucketStill old new h j → IsBucketRight new h (block_of old h j) (j / run_at old h j)
  still_right j lj still =
      let right = parts.buckets j lj in
      let slots = of_bucket old h (block_of old h j) (j / run_at old h j) right in
      let here = slots_at (block_of old h j) h.elems in
      let same : SlotsChange old new (bits_at (block_of old h j)) (j / run_at old h j) h.elems here here [] [] here =
      record { before_is = λ p e. refl; after_is = λ p e. refl; kept = still.records; good = refl; once = slots.once; reached = slots.reached } in
      let done = slots_changed old new (bits_at (block_of old h j)) (j / run_at old h j) h.elems here here [] [] here change.longer slots same in
      of_slots new h (block_of old h j) (j / run_at old h j) (fields_of old h (block_of old h j) (j / run_at old h j) bits_le right) right.count (bits_within old h parts j lj) done.right

  done_here : SlotsChanged old new (bits_at (block_of old h i)) (i / run_at old h i) h.elems (slots_at (block_of old h i) h.elems) (slots_at (block_of new h i) h.elems) gone come rest
  done_here = slots_changed old new (bits_at (block_of old h i)) (i / run_at old h i) h.elems (slots_at (block_of old h i) h.elems) (slots_at (block_of new h i) h.elems) gone come rest change.longer (of_bucket old h (block_of old h i) (i / run_at old h i) (parts.buckets i li)) change.slots

  right_here : IsBucketRight new h (block_of new h i) (i / run_at old h i)
  right_here =
      let done = done_here in
      let le : bits_at (block_of new h i) ≤ h.dir_bits = let b = bits_within old h parts i li in let e = change.bits in omega arith in
      let slots : AreSlotsRight new (bits_at (block_of new h i)) (i / run_at old h i) h.elems (slots_at (block_of new h i) h.elems) = rw change.bits done.right in
      of_slots new h (block_of new h i) (i / run_at old h i) change.fields change.number le slots

  pub new_parts : HasParts new h
  new_parts =
      record {
        dir = record {
          block_fits = let a = parts.dir.block_fits in let b = change.longer in omega arith;
          in_file = λ j lj. rw (change.entries j lj) (within_longer (entry_at old h j) (length old - h.block) (length new - h.block) (let b = change.longer in omega arith) (parts.dir.in_file j lj));
          one_run = λ j k lj lk. rw (change.entries j lj, change.entries k lk, run_same j lj) (parts.dir.one_run j k lj lk);
        };
        buckets =
            λ j lj.
            decide_entry j
            (λ e. rw (new_block j lj e, top_same j lj e) right_here)
            (λ ne. let still = change.others j lj ne in rw (still.block, run_same j lj) (still_right j lj still));
      }

  pub new_here : (key : List ℕ) → entry_at old h (index_of h key) ≡ entry_at old h i → value_at new h key ≡ lookup key (slot_records new come ++ slot_records old rest)
  unfolding value_at
  new_here key e =
      let lt = index_below h key bits_le in
      ap (λ (block : List ℕ). lookup key (slot_records new (slots_at block h.elems))) (new_block (index_of h key) lt e) ∙ done_here.new_map key

  pub old_here : (key : List ℕ) → entry_at old h (index_of h key) ≡ entry_at old h i → value_at old h key ≡ lookup key (slot_records old gone ++ slot_records old rest)
  unfolding value_at
  old_here key e =
      ap (λ (block : List ℕ). lookup key (slot_records old (slots_at block h.elems))) (old_block (index_of h key) e) ∙ done_here.old_map key

  pub elsewhere : (key : List ℕ) → entry_at old h (index_of h key) ≢ entry_at old h i → value_at new h key ≡ value_at old h key
  unfolding value_at
  elsewhere key ne =
      let lt = index_below h key bits_le in
      let still = change.others (index_of h key) lt ne in
      ap (λ (block : List ℕ). lookup key (slot_records new (slots_at block h.elems))) still.block
      ∙ ap (lookup key) (kept_records old new (slots_at (block_of old h (index_of h key)) h.elems) still.records)

pub file_changed : (old new : List ℕ) (h h' : Header) (i : ℕ) (gone come rest : List Slot) → h.dir_bits ≤ 24 → HasParts old h → i < entries_of h → IsSameShape h h' → FileChange old new h i gone come rest → FileChanged old new h h' i gone come rest
file_changed old new h h' i gone come rest bits_le parts li shape change =
    record {
      parts = parts_shape new h h' shape (new_parts old new h i gone come rest bits_le parts li change);
      new_map = λ key e. value_shape new h h' shape key ∙ new_here old new h i gone come rest bits_le parts li change key e;
      old_map = λ key e. old_here old new h i gone come rest bits_le parts li change key e;
      other_map = λ key ne. value_shape new h h' shape key ∙ elsewhere old new h i gone come rest bits_le parts li change key ne;
    }
