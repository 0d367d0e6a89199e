-- Keys whose hashes are too alike for a bucket.
use Rattle.std.proofs.Common.{◌≡◌, ◌≢◌, ℕ, zero, suc, ◌+◌, ◌-◌, ◌/◌, ◌^◌, ◌<◌, ◌≤◌, ◌↔◌, Bool, true, List, [], ◌∷◌, ◌++◌, length, None, refl, sym, ap, ◌∙◌, inl, inr, arith}
use Rattle.std.specs.Prelude.{◌==◌}
use Rattle.std.specs.Str.{bytes_eq}
use Rattle.std.proofs.lemmas.Bool.{cases_eq, cases_lt}
use Rattle.std.proofs.lemmas.Bool.Decides.{Decides-eqb}
use Rattle.std.proofs.lemmas.Nat.{shr-shr}
use Rattle.gd_format.specs.declared.Header.{Header}
use Rattle.gd_format.specs.declared.Slot.{Slot}
use Rattle.gd_format.specs.declared.Slot.TheVariants.{Empty, Full}
use Rattle.gd_format.specs.Hash.{hash_of}
use Rattle.gd_format.specs.Field.{bytes_at}
use Rattle.gd_format.specs.HeaderFault.{header_of}
use Rattle.gd_format.specs.Bucket.{raw_slot_at, slot_of, slots_at}
use Rattle.gd_format.specs.File.{IsReadable, front_of, entries_of, run_at, block_of, bits_at, is_first, records}
use Rattle.gd_format.proofs.Firsts.{and-true, length-list_below}
use Rattle.gd_format.specs.Slots.{count, is_full, SameSlots}
use Rattle.gd_file_laws.specs.Parts.{HasParts}
use Rattle.gd_file_laws.proofs.Lists.{bool_cases}
use Rattle.gd_file_laws.proofs.Made.{bits_within}
use Rattle.gd_file_laws.proofs.Headers.{header_in}
use Rattle.gd_file_laws.proofs.Walk.{readable, same_start}
use Rattle.gd_map_laws.specs.Lookup.{lookup, has_key, slot_records, index_of, value_at}
use Rattle.gd_map_laws.specs.Slots.{is_good, is_bad, is_place_in, is_slot_key}
use Rattle.gd_map_laws.specs.Overflow.{have_top, is_near, is_close}
use Rattle.gd_map_laws.proofs.Lists.{count-append, joined, joined_yes, joined_no, count_none}
use Rattle.gd_map_laws.proofs.Lookup.{bucket_of, records_joined, index_below, first_of_entry, same_top, lookup_exact}
use Rattle.gd_map_laws.proofs.Slots.{of_bucket, not_false}
use Rattle.gd_map_laws.proofs.Update.{count_zero_head}
use Rattle.gd_map_laws.proofs.OneKey.{none_counts}

top_is : (bits a b : ℕ) → have_top bits a b ≡ true → a / 2 ^ (31 - bits) ≡ b / 2 ^ (31 - bits)
unfolding have_top
top_is bits a b e = (Decides-eqb (a / 2 ^ (31 - bits)) (b / 2 ^ (31 - bits))).0 e

is_top : (bits a b : ℕ) → a / 2 ^ (31 - bits) ≡ b / 2 ^ (31 - bits) → have_top bits a b ≡ true
unfolding have_top
is_top bits a b e = (Decides-eqb (a / 2 ^ (31 - bits)) (b / 2 ^ (31 - bits))).1 e

-- fewer bits agree too
fewer : (bits a b : ℕ) → bits ≤ 24 → have_top 24 a b ≡ true → a / 2 ^ (31 - bits) ≡ b / 2 ^ (31 - bits)
fewer bits a b le e =
    let whole : 7 + (24 - bits) ≡ 31 - bits = omega arith in
    let top : a / 2 ^ 7 ≡ b / 2 ^ 7 = top_is 24 a b e in
    sym (shr-shr a 7 (24 - bits) ∙ ap (λ (x : ℕ). a / 2 ^ x) whole) ∙ ap (λ (x : ℕ). x / 2 ^ (24 - bits)) top ∙ shr-shr b 7 (24 - bits) ∙ ap (λ (x : ℕ). b / 2 ^ x) whole

-- what a good slot says of its hash
pub good_hash : (file : List ℕ) (bits top hash : ℕ) (start : List ℕ) (at k v : ℕ) → is_good file bits top (Full hash start at k v) ≡ true → (hash ≡ hash_of (bytes_at file at k)) × (hash / 2 ^ (31 - bits) ≡ top)
unfolding is_slot_key
good_hash file bits top hash start at k v good =
    let g = and-true (is_place_in (length file) at (k + v)) _ good in
    let c = and-true _ _ g.1 in
    let d = and-true (hash == hash_of (bytes_at file at k)) (hash / 2 ^ (31 - bits) == top) c.0 in
    ((Decides-eqb hash (hash_of (bytes_at file at k))).0 d.0, (Decides-eqb (hash / 2 ^ (31 - bits)) top).0 d.1)

pub full_is_close : (file : List ℕ) (top hash : ℕ) (slots : List Slot) → count (is_bad file 24 top) slots ≡ 0 → hash / 2 ^ 7 ≡ top → count (is_close hash) slots ≡ count is_full slots
full_is_close file top hash [] good e = refl
full_is_close file top hash (Empty ∷ slots) good e = let ih = full_is_close file top hash slots (omega (arith, good)) e in omega (arith, ih)
full_is_close file top hash (Full other start at k v ∷ slots) good e =
    let a = count_zero_head (is_bad file 24 top (Full other start at k v)) (count (is_bad file 24 top) slots) good in
    let g = good_hash file 24 top other start at k v (not_false _ a.0) in
    let ih = full_is_close file top hash slots a.1 e in
    rw (is_top 24 other hash (g.1 ∙ sym e)) (omega (arith, ih))

pub others_not_close : (file : List ℕ) (bits top hash : ℕ) (slots : List Slot) → bits ≤ 24 → count (is_bad file bits top) slots ≡ 0 → hash / 2 ^ (31 - bits) ≢ top → count (is_close hash) slots ≡ 0
others_not_close file bits top hash [] le good ne = refl
others_not_close file bits top hash (Empty ∷ slots) le good ne = let ih = others_not_close file bits top hash slots le (omega (arith, good)) ne in omega (arith, ih)
others_not_close file bits top hash (Full other start at k v ∷ slots) le good ne =
    let a = count_zero_head (is_bad file bits top (Full other start at k v)) (count (is_bad file bits top) slots) good in
    let g = good_hash file bits top other start at k v (not_false _ a.0) in
    let ih = others_not_close file bits top hash slots le a.1 ne in
    bool_cases (have_top 24 other hash)
    (λ t. absurd (ne (sym (fewer bits other hash le t) ∙ g.1)))
    (λ f. rw f (omega (arith, ih)))

-- near records are those of close slots, where the key is absent
near_is_close : (file : List ℕ) (bits top : ℕ) (key : List ℕ) (slots : List Slot) → count (is_bad file bits top) slots ≡ 0 → count (has_key key) (slot_records file slots) ≡ 0 → count (is_near key) (slot_records file slots) ≡ count (is_close (hash_of key)) slots
near_is_close file bits top key [] good none = refl
near_is_close file bits top key (Empty ∷ slots) good none = let ih = near_is_close file bits top key slots (omega (arith, good)) none in omega (arith, ih)
near_is_close file bits top key (Full hash start at k v ∷ slots) good none =
    let a = count_zero_head (is_bad file bits top (Full hash start at k v)) (count (is_bad file bits top) slots) good in
    let g = good_hash file bits top hash start at k v (not_false _ a.0) in
    let n = count_zero_head (bytes_eq (bytes_at file at k) key) (count (has_key key) (slot_records file slots)) none in
    let ih = near_is_close file bits top key slots a.1 n.1 in
    let same : have_top 24 (hash_of (bytes_at file at k)) (hash_of key) ≡ have_top 24 hash (hash_of key) = ap (λ (x : ℕ). have_top 24 x (hash_of key)) (sym g.0) in
    rw (n.0, same) (omega (arith, ih))

-- a count over joined lists, of which one alone has such elements
count_at : {A : Type 0} (q : A → Bool) (p : ℕ → Bool) (f : ℕ → List A) (n k : ℕ) → k < n → p k ≡ true → ((i : ℕ) → i < n → p i ≡ true → i ≢ k → count q (f i) ≡ 0) → count q (joined p f n) ≡ count q (f k)
count_at q p f zero k lt pk others = absurd (omega arith)
count_at q p f (suc n) k lt pk others =
    elim (cases_eq k n) [
      | inl same ↦
          let pn : p n ≡ true = rw same at pk in
          let e = ap (count q) (joined_yes p f n pn) ∙ count-append q (joined p f n) (f n) in
          let z = count_none q p f n (λ i l pi. others i (omega arith) pi (λ x. omega (arith, x))) in
          let r : count q (f k) ≡ count q (f n) = ap (λ (x : ℕ). count q (f x)) same in
          omega (arith, e, z, r)
      | inr other ↦
          let ih = count_at q p f n k (omega arith) pk (λ i l pi ne. others i (omega arith) pi ne) in
          bool_cases (p n)
          (λ t.
          let e = ap (count q) (joined_yes p f n t) ∙ count-append q (joined p f n) (f n) in
          let z = others n (omega arith) t (λ x. omega (arith, x)) in
          omega (arith, e, z, ih))
          (λ u. ap (count q) (joined_no p f n u) ∙ ih)
    ]

near_elsewhere : (file : List ℕ) (bits top : ℕ) (key : List ℕ) (slots : List Slot) → bits ≤ 24 → count (is_bad file bits top) slots ≡ 0 → hash_of key / 2 ^ (31 - bits) ≢ top → count (is_near key) (slot_records file slots) ≡ 0
near_elsewhere file bits top key [] le good ne = refl
near_elsewhere file bits top key (Empty ∷ slots) le good ne = near_elsewhere file bits top key slots le (omega (arith, good)) ne
near_elsewhere file bits top key (Full hash start at k v ∷ slots) le good ne =
    let a = count_zero_head (is_bad file bits top (Full hash start at k v)) (count (is_bad file bits top) slots) good in
    let g = good_hash file bits top hash start at k v (not_false _ a.0) in
    let ih = near_elsewhere file bits top key slots le a.1 ne in
    bool_cases (have_top 24 (hash_of (bytes_at file at k)) (hash_of key))
    (λ t. absurd (ne (sym (fewer bits (hash_of (bytes_at file at k)) (hash_of key) le t) ∙ ap (λ (x : ℕ). x / 2 ^ (31 - bits)) (sym g.0) ∙ g.1)))
    (λ f. bool_cases (bytes_eq (bytes_at file at k) key) (λ u. rw u (omega (arith, ih))) (λ u. rw (u, f) (omega (arith, ih))))

count-le : {X : Type 0} (p : X → Bool) (xs : List X) → count p xs ≤ length xs
count-le p [] = omega arith
count-le p (x ∷ xs) = let ih = count-le p xs in bool_cases (p x) (λ t. rw t (omega (arith, ih))) (λ f. rw f (omega (arith, ih)))

module _ (file : List ℕ) (h : Header) (bits_le : h.dir_bits ≤ 24) (parts : HasParts file h) (key : List ℕ) where
  near_in_bucket : count (is_near key) (joined (is_first file h) (bucket_of file h) (entries_of h)) ≡ count (is_near key) (bucket_of file h (index_of h key))
  unfolding bucket_of block_of
  near_in_bucket =
      let lt = index_below h key bits_le in
      let first = first_of_entry file h (entries_of h) (index_of h key) lt in
      count_at (is_near key) (is_first file h) (bucket_of file h) (entries_of h) first.0 (let le = first.1 in omega arith) first.2
      (λ i li pi ne.
      let right = of_bucket file h (block_of file h i) (i / run_at file h i) (parts.buckets i li) in
      let small = bits_within file h parts i li in
      near_elsewhere file (bits_at (block_of file h i)) (i / run_at file h i) key (slots_at (block_of file h i) h.elems) (omega arith) right.good
      (λ e. ne (same_start file h first.0 i first.2 pi (sym (same_top file h bits_le parts key i li e) ∙ sym first.3))))
      ∙ rw first.3 refl

  overflow_is : lookup key (bucket_of file h (index_of h key)) ≡ None → count (is_near key) (bucket_of file h (index_of h key)) ≡ count (is_close (hash_of key)) (slots_at (block_of file h (index_of h key)) h.elems)
  unfolding bucket_of
  overflow_is none =
      let lt = index_below h key bits_le in
      let right = of_bucket file h (block_of file h (index_of h key)) (index_of h key / run_at file h (index_of h key)) (parts.buckets (index_of h key) lt) in
      near_is_close file (bits_at (block_of file h (index_of h key))) (index_of h key / run_at file h (index_of h key)) key (slots_at (block_of file h (index_of h key)) h.elems) right.good
      (none_counts key (slot_records file (slots_at (block_of file h (index_of h key)) h.elems)) none)

  absent_here : value_at file h key ≡ None → lookup key (bucket_of file h (index_of h key)) ≡ None
  unfolding value_at bucket_of
  absent_here e = e

pub overflow_law : (file : List ℕ) → IsReadable file → (key : List ℕ) → lookup key (records file) ≡ None → (header_of (front_of file)).elems ≤ count (is_near key) (records file) ↔ (count (is_close (hash_of key)) (slots_at (block_of file (header_of (front_of file)) (index_of (header_of (front_of file)) key)) (header_of (front_of file)).elems) ≡ (header_of (front_of file)).elems)
overflow_law file readable_file key absent =
    let h = header_of (front_of file) in
    let r = readable file readable_file in
    let bits = (header_in (front_of file) (length file) r.header).bits in
    let here = absent_here file (header_of (front_of file)) bits r.parts key (sym (lookup_exact file readable_file key) ∙ absent) in
    let a = ap (count (is_near key)) (records_joined file) in
    let b = near_in_bucket file (header_of (front_of file)) bits r.parts key in
    let c = overflow_is file (header_of (front_of file)) bits r.parts key here in
    let most = count-le (is_close (hash_of key)) (slots_at (block_of file (header_of (front_of file)) (index_of (header_of (front_of file)) key)) (header_of (front_of file)).elems) in
    let len = length-list_below (λ s. slot_of (raw_slot_at (block_of file (header_of (front_of file)) (index_of (header_of (front_of file)) key)) s)) (header_of (front_of file)).elems in
    (λ e. omega (arith, a, b, c, most, len, e), λ e. omega (arith, a, b, c, most, len, e))

pub close_stays : (file : List ℕ) (bits top hash : ℕ) (before mine its : List Slot) → bits ≤ 24 → SameSlots before (mine ++ its) → count (is_bad file bits top) its ≡ 0 → hash / 2 ^ (31 - bits) ≢ top → count (is_close hash) mine ≡ count (is_close hash) before
close_stays file bits top hash before mine its le same good ne =
    let none = others_not_close file bits top hash its le good ne in
    let all = same (is_close hash) refl in
    let parts = count-append (is_close hash) mine its in
    omega (arith, none, all, parts)

pub full_has_bits : (file : List ℕ) (bits top hash elems : ℕ) (slots : List Slot) → bits ≤ 24 → count (is_bad file bits top) slots ≡ 0 → hash / 2 ^ (31 - bits) ≡ top → count is_full slots ≡ elems → count (is_close hash) slots < elems → bits < 24
full_has_bits file bits top hash elems slots le good at full less =
    elim (cases_lt bits 24) [
      | inl small ↦ small
      | inr large ↦
          let e : bits ≡ 24 = omega arith in
          let g : count (is_bad file 24 top) slots ≡ 0 = rw e at good in
          let t : hash / 2 ^ (31 - 24) ≡ top = rw e at at in
          let c = full_is_close file top hash slots g t in
          absurd (omega (arith, c, full, less))
    ]
