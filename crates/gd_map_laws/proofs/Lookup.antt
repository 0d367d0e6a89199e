-- A look-up among the records is one through hash, directory and bucket.
use Rattle.std.proofs.Common.{◌≡◌, ℕ, zero, suc, ◌+◌, ◌-◌, ◌/◌, ◌^◌, ◌<◌, ◌≤◌, Bool, true, false, ◌&&◌, not, cond, List, [], ◌∷◌, ◌++◌, map, length, ◌⊎◌, refl, sym, ap, ◌∙◌, inl, inr, add-one, arith}
use Rattle.std.proofs.lemmas.Bool.Decides.{Decides-eqb, Decides-int_eq}
use Rattle.std.proofs.lemmas.List.{map-append, append-nil}
use Rattle.std.proofs.lemmas.Nat.{shr-shr, shr_below, mod_below, pow_pos}
use Rattle.std.proofs.lemmas.Slice.Eq.{bytes_eq-Decides}
use Rattle.std.specs.List.{range_with_len, filter}
use Rattle.std.specs.Str.{bytes_eq}
use Rattle.gd_format.specs.declared.Header.{Header}
use Rattle.gd_format.specs.declared.RawSlot.{RawSlot}
use Rattle.gd_format.specs.First.{all_below}
use Rattle.gd_format.specs.Hash.{hash_of}
use Rattle.gd_format.specs.Bucket.{raw_slot_at, is_empty_hash, slot_of, slots_at}
use Rattle.gd_format.specs.HeaderFault.{natural, is_number, header_of}
use Rattle.gd_format.specs.File.{IsReadable, front_of, entry_at, entries_of, run_at, block_of, is_full_at, is_first, is_key_of, is_key_new, is_other_key, is_other_entry, key_of, value_of, key_at, record_of, bits_at, records, places_of, first_indexes, bucket_records}
use Rattle.gd_format.proofs.Firsts.{and-true, all_below-at}
use Rattle.gd_format.specs.Slots.{count}
use Rattle.gd_file_laws.specs.Parts.{HasParts}
use Rattle.gd_file_laws.proofs.Walk.{readable, same_start}
use Rattle.gd_file_laws.proofs.Made.{bits_within}
use Rattle.gd_file_laws.proofs.Headers.{header_in}
use Rattle.gd_file_laws.proofs.Lists.{bool_cases, filter_more}
use Rattle.gd_map_laws.specs.Lookup.{lookup, has_key, slot_record, slot_records, index_of, value_at}
use Rattle.gd_map_laws.proofs.Lists.{count-append, flat_map-same, lookup-none, joined, lookup_joined, count_joined}
use Rattle.std.proofs.lemmas.Grind.{flat_map-append}
use Rattle.std.proofs.lemmas.List.Folds.{flat_map-map}
use Rattle.gd_format.specs.Field.{bytes_at}
use Rattle.std.specs.Prelude.{ℤ, pos, negsuc}

-- ---- the records of a bucket, by its slots

slot_record_is : (file : List ℕ) (r : RawSlot) → slot_record file (slot_of r) ≡ cond (not (is_empty_hash r.hash)) (record_of file r ∷ []) []
unfolding slot_of key_of value_of
slot_record_is file r = bool_cases (is_empty_hash r.hash) (λ h. rw h refl) (λ h. rw h refl)

map_cond : (g : ℕ → List ℕ × List ℕ) (b : Bool) (n : ℕ) → map g (cond b (n ∷ []) []) ≡ cond b (g n ∷ []) []
map_cond g true n = refl
map_cond g false n = refl

count_one : (key : List ℕ) (b : Bool) (x : List ℕ × List ℕ) → count (has_key key) (cond b (x ∷ []) []) ≡ cond b (cond (bytes_eq x.0 key) 1 0) 0
count_one key true x = omega arith
count_one key false x = refl

module _ (file block : List ℕ) where
  pub slots_more : (n : ℕ) → slot_records file (slots_at block (suc n)) ≡ slot_records file (slots_at block n) ++ cond (is_full_at block n) (record_of file (raw_slot_at block n) ∷ []) []
  unfolding is_full_at
  slots_more n =
      flat_map-append (slot_record file) (slots_at block n) (slot_of (raw_slot_at block n) ∷ [])
      ∙ ap (λ (l : List (List ℕ × List ℕ)). slot_records file (slots_at block n) ++ l) (rw (slot_record_is file (raw_slot_at block n)) (append-nil _))

  bucket_records_to : (n : ℕ) → map (λ s. record_of file (raw_slot_at block s)) (filter (is_full_at block) (range_with_len 0 n)) ≡ slot_records file (slots_at block n)
  bucket_records_to zero = refl
  bucket_records_to (suc n) =
      let g = λ (s : ℕ). record_of file (raw_slot_at block s) in
      let e : filter (is_full_at block) (range_with_len 0 (suc n)) ≡ filter (is_full_at block) (range_with_len 0 n) ++ cond (is_full_at block n) (n ∷ []) [] = rw add-one at (filter_more (is_full_at block) n) in
      ap (map g) e ∙ map-append g (filter (is_full_at block) (range_with_len 0 n)) (cond (is_full_at block n) (n ∷ []) [])
      ∙ ap (λ (l : List (List ℕ × List ℕ)). l ++ map g (cond (is_full_at block n) (n ∷ []) [])) (bucket_records_to n)
      ∙ ap (λ (l : List (List ℕ × List ℕ)). slot_records file (slots_at block n) ++ l) (map_cond g (is_full_at block n) n)
      ∙ sym (slots_more n)

  pub bucket_records_is : (elems : ℕ) → bucket_records file elems block ≡ slot_records file (slots_at block elems)
  unfolding bucket_records
  bucket_records_is elems = bucket_records_to elems

  -- a full slot with the key, and no other
  pub record Found (key : List ℕ) (n : ℕ) : Type 0 where
    pub s : ℕ
    pub below : s < n
    pub full : is_full_at block s ≡ true
    pub same : key_at file block s ≡ key
    pub once : count (has_key key) (slot_records file (slots_at block n)) ≡ 1

  other_tells : (s t : ℕ) → is_key_new file block t ≡ true → s < t → is_full_at block s ≡ true → key_at file block s ≡ key_at file block t → ⊥
  unfolding is_key_new is_other_key
  other_tells s t new lt full e =
      let differs = all_below-at _ t new s lt in
      let same = (bytes_eq-Decides (key_at file block s) (key_at file block t)).1 e in
      let bad : not (true && true) ≡ true = rw (full, same) at differs in
      absurd (cc)

  pub count_more : (key : List ℕ) (n : ℕ) → count (has_key key) (slot_records file (slots_at block (suc n))) ≡ count (has_key key) (slot_records file (slots_at block n)) + cond (is_full_at block n) (cond (bytes_eq (key_at file block n) key) 1 0) 0
  count_more key n =
      ap (count (has_key key)) (slots_more n)
      ∙ count-append (has_key key) (slot_records file (slots_at block n)) (cond (is_full_at block n) (record_of file (raw_slot_at block n) ∷ []) [])
      ∙ ap (λ (x : ℕ). count (has_key key) (slot_records file (slots_at block n)) + x) (count_one key (is_full_at block n) (record_of file (raw_slot_at block n)))

  module _ (key : List ℕ) (elems : ℕ) (new : (s : ℕ) → s < elems → is_full_at block s ≡ true → is_key_new file block s ≡ true) where
    pub found : (n : ℕ) → n ≤ elems → (count (has_key key) (slot_records file (slots_at block n)) ≡ 0) ⊎ Found key n
    found zero le = inl refl
    found (suc n) le =
        let more = count_more key n in
        let ih = found n (omega arith) in
        let same_there : Found key n → count (has_key key) (slot_records file (slots_at block (suc n))) ≡ count (has_key key) (slot_records file (slots_at block n)) → Found key (suc n) =
        λ f e. record { s = f.s; below = let b = f.below in omega arith; full = f.full; same = f.same; once = e ∙ f.once } in
        let stays : count (has_key key) (slot_records file (slots_at block (suc n))) ≡ count (has_key key) (slot_records file (slots_at block n)) → (count (has_key key) (slot_records file (slots_at block (suc n))) ≡ 0) ⊎ Found key (suc n) =
        λ e. elim ih [ inl z ↦ inl (e ∙ z) | inr f ↦ inr (same_there f e) ] in
        bool_cases (is_full_at block n)
        (λ full.
        bool_cases (bytes_eq (key_at file block n) key)
        (λ same.
        let is_key = (bytes_eq-Decides (key_at file block n) key).0 same in
        elim ih [
          | inl z ↦ inr (record { s = n; below = omega arith; full = full; same = is_key; once = let m : count (has_key key) (slot_records file (slots_at block (suc n))) ≡ count (has_key key) (slot_records file (slots_at block n)) + 1 = rw (full, same) at more in omega (arith, m, z) })
          | inr f ↦ absurd (other_tells f.s n (new n (omega arith) full) f.below f.full (f.same ∙ sym is_key))
        ])
        (λ differs. stays (let m : count (has_key key) (slot_records file (slots_at block (suc n))) ≡ count (has_key key) (slot_records file (slots_at block n)) + 0 = rw (full, differs) at more in omega (arith, m))))
        (λ empty. stays (let m : count (has_key key) (slot_records file (slots_at block (suc n))) ≡ count (has_key key) (slot_records file (slots_at block n)) + 0 = rw empty at more in omega (arith, m)))

-- ---- the records of a file

-- the records of the bucket of an entry
unfoldable pub bucket_of : List ℕ → Header → ℕ → List (List ℕ × List ℕ)
bucket_of file h i = slot_records file (slots_at (block_of file h i) h.elems)

pub records_joined : (file : List ℕ) → records file ≡ joined (is_first file (header_of (front_of file))) (bucket_of file (header_of (front_of file))) (entries_of (header_of (front_of file)))
unfolding records places_of first_indexes joined bucket_of block_of
records_joined file =
    let h = header_of (front_of file) in
    flat_map-map (λ at. bucket_records file h.elems (bytes_at file at h.block)) (λ i. natural (entry_at file h i)) (filter (is_first file h) (range_with_len 0 (entries_of h)))
    ∙ flat_map-same (λ i. bucket_records file h.elems (bytes_at file (natural (entry_at file h i)) h.block)) (λ i. slot_records file (slots_at (bytes_at file (natural (entry_at file h i)) h.block) h.elems)) (filter (is_first file h) (range_with_len 0 (entries_of h)))
    (λ i. bucket_records_is file (bytes_at file (natural (entry_at file h i)) h.block) h.elems)

-- the number of a field that is one
pub number_is : (z : ℤ) (n : ℕ) → is_number z n ≡ true → natural z ≡ n
number_is (pos m) n h = (Decides-eqb m n).0 h
number_is (negsuc m) n h = absurd cc

all_below-false : (p : ℕ → Bool) (n : ℕ) → all_below n p ≡ false → (i : ℕ) × (i < n) × (p i ≡ false)
all_below-false p zero e = absurd cc
all_below-false p (suc n) e =
    bool_cases (all_below n p)
    (λ a. let q : p n ≡ false = rw a at e in (n, omega arith, q))
    (λ b. let r = all_below-false p n b in (r.0, let l = r.1 in omega arith, r.2))

not_is-false : (b : Bool) → not b ≡ false → b ≡ true
not_is-false true h = refl
not_is-false false h = absurd cc

hash_below : (key : List ℕ) → hash_of key < 2 ^ 31
unfolding hash_of
hash_below key = mod_below _ (2 ^ 31) (pow_pos 31)

pub index_below : (h : Header) (key : List ℕ) → h.dir_bits ≤ 24 → index_of h key < entries_of h
unfolding index_of
index_below h key le =
    let whole : h.dir_bits + (31 - h.dir_bits) ≡ 31 = omega arith in
    shr_below (hash_of key) h.dir_bits (31 - h.dir_bits) (rw whole (hash_below key))

pub not_first : (file : List ℕ) (h : Header) (i : ℕ) → is_first file h i ≡ false → (j : ℕ) × (j < i) × (entry_at file h j ≡ entry_at file h i)
unfolding is_first is_other_entry
not_first file h i e =
    let r = all_below-false (is_other_entry file h i) i e in
    (r.0, r.1, (Decides-int_eq (entry_at file h r.0) (entry_at file h i)).0 (not_is-false _ r.2))

-- the first entry with an address
pub first_of_entry : (file : List ℕ) (h : Header) (n i : ℕ) → i < n → (k : ℕ) × (k ≤ i) × (is_first file h k ≡ true) × (entry_at file h k ≡ entry_at file h i)
first_of_entry file h zero i lt = absurd (omega arith)
first_of_entry file h (suc n) i lt =
    bool_cases (is_first file h i)
    (λ yes'. (i, omega arith, yes', refl))
    (λ no'. let e = not_first file h i no' in let r = first_of_entry file h n e.0 (let l = e.1 in omega arith) in (r.0, let a = e.1 in let b = r.1 in omega arith, r.2, r.3 ∙ e.2))

module _ (file : List ℕ) (h : Header) (bits_le : h.dir_bits ≤ 24) (parts : HasParts file h) where
  -- the bucket of a key's hash is that of its index
  pub same_top : (key : List ℕ) (i : ℕ) → i < entries_of h → hash_of key / 2 ^ (31 - bits_at (block_of file h i)) ≡ i / run_at file h i → entry_at file h (index_of h key) ≡ entry_at file h i
  unfolding index_of run_at
  same_top key i lt top =
      let le = bits_within file h parts i lt in
      let whole : 31 - h.dir_bits + (h.dir_bits - bits_at (block_of file h i)) ≡ 31 - bits_at (block_of file h i) = omega arith in
      let e : index_of h key / run_at file h i ≡ i / run_at file h i = shr-shr (hash_of key) (31 - h.dir_bits) (h.dir_bits - bits_at (block_of file h i)) ∙ ap (λ (x : ℕ). hash_of key / 2 ^ x) whole ∙ top in
      (parts.dir.one_run i (index_of h key) lt (index_below h key bits_le)).1 e

  -- a bucket with the key is the one of its index
  found_here : (key : List ℕ) (i : ℕ) → i < entries_of h → Found file (block_of file h i) key h.elems → entry_at file h (index_of h key) ≡ entry_at file h i
  unfolding is_key_of
  found_here key i lt f =
      let right = (parts.buckets i lt).slots f.s f.below f.full in
      let a = and-true _ _ right.key in
      let b = and-true _ _ a.0 in
      let is_hash : natural (raw_slot_at (block_of file h i) f.s).hash ≡ hash_of key = number_is _ _ b.0 ∙ ap hash_of f.same in
      let top : natural (raw_slot_at (block_of file h i) f.s).hash / 2 ^ (31 - bits_at (block_of file h i)) ≡ i / run_at file h i = (Decides-eqb _ _).0 b.1 in
      same_top key i lt (rw is_hash at top)

  in_bucket : (key : List ℕ) (i : ℕ) → i < entries_of h → (count (has_key key) (bucket_of file h i) ≡ 0) ⊎ Found file (block_of file h i) key h.elems
  unfolding bucket_of
  in_bucket key i lt = found file (block_of file h i) key h.elems (λ s l full. ((parts.buckets i lt).slots s l full).new) h.elems (omega arith)

  bucket_same : (i j : ℕ) → entry_at file h i ≡ entry_at file h j → bucket_of file h i ≡ bucket_of file h j
  unfolding bucket_of block_of
  bucket_same i j e = rw e refl

  pub look_up : (key : List ℕ) → lookup key (joined (is_first file h) (bucket_of file h) (entries_of h)) ≡ value_at file h key
  unfolding value_at bucket_of
  look_up key =
      let lt = index_below h key bits_le in
      let first = first_of_entry file h (entries_of h) (index_of h key) lt in
      lookup_joined key (is_first file h) (bucket_of file h) (lookup key (bucket_of file h (index_of h key))) (entries_of h)
      (λ i l.
      elim (in_bucket key i l) [
        | inl z ↦ inr (lookup-none key _ z)
        | inr f ↦ inl (ap (lookup key) (bucket_same i (index_of h key) (sym (found_here key i l f))))
      ])
      first.0 (let le = first.1 in omega arith) first.2 (ap (lookup key) (bucket_same first.0 (index_of h key) first.3))

  pub keys_once : (key : List ℕ) → count (has_key key) (joined (is_first file h) (bucket_of file h) (entries_of h)) ≤ 1
  unfolding bucket_of
  keys_once key =
      count_joined (has_key key) (is_first file h) (bucket_of file h) (entries_of h)
      (λ i lt p. elim (in_bucket key i lt) [ inl z ↦ omega (arith, z) | inr f ↦ let o = f.once in omega (arith, o) ])
      (λ i j below lt pi pj some.
      elim (in_bucket key j lt) [
        | inl z ↦ absurd (omega (arith, z, some))
        | inr f ↦ elim (in_bucket key i (omega arith)) [
          | inl z ↦ z
          | inr g ↦ let same : i ≡ j = same_start file h j i pj pi (sym (found_here key i (omega arith) g) ∙ found_here key j lt f) in absurd (omega arith)
        ]
      ])

pub lookup_exact : (file : List ℕ) → IsReadable file → (key : List ℕ) → lookup key (records file) ≡ value_at file (header_of (front_of file)) key
lookup_exact file readable_file key =
    let r = readable file readable_file in
    ap (lookup key) (records_joined file) ∙ look_up file (header_of (front_of file)) (header_in (front_of file) (length file) r.header).bits r.parts key

pub records_once : (file : List ℕ) → IsReadable file → (key : List ℕ) → count (has_key key) (records file) ≤ 1
records_once file readable_file key =
    let r = readable file readable_file in
    rw (records_joined file) (keys_once file (header_of (front_of file)) (header_in (front_of file) (length file) r.header).bits r.parts key)
