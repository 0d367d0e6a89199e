-- The front of a file by its first block, and the number of its records.
use Rattle.std.proofs.Common.{◌≡◌, ℕ, zero, suc, ◌+◌, ◌-◌, ◌<◌, ◌≤◌, Bool, true, false, cond, List, [], ◌∷◌, length, take, drop, refl, sym, ap, ◌∙◌, arith, length-append}
use Rattle.std.specs.Prelude.{◌==◌}
use Rattle.std.proofs.lemmas.List.{take-take, drop-take}
use Rattle.gd_format.specs.declared.Header.{Header}
use Rattle.gd_format.specs.Field.{bytes_at}
use Rattle.gd_format.specs.First.{count_below}
use Rattle.gd_format.specs.HeaderFault.{natural, header_of}
use Rattle.gd_format.specs.Bucket.{counts_at, slots_at, raw_slot_at}
use Rattle.gd_format.specs.File.{IsReadable, front_of, entries_of, block_of, is_first, is_full_at, is_count_right, record_of, records}
use Rattle.gd_format.specs.Sound.{place_of, table_of}
use Rattle.gd_file_laws.specs.Parts.{HasParts}
use Rattle.gd_file_laws.proofs.Lists.{bool_cases}
use Rattle.gd_file_laws.proofs.Walk.{readable}
use Rattle.gd_map_laws.specs.Lookup.{slot_records}
use Rattle.gd_map_laws.specs.Space.{sum_of}
use Rattle.gd_map_laws.specs.Fronts.{FrontRead}
use Rattle.gd_map_laws.proofs.Lists.{joined, joined_yes, joined_no}
use Rattle.gd_map_laws.proofs.Lookup.{bucket_of, records_joined, slots_more, number_is}

-- ---- the front

place_small : (h : Header) → place_of h ≤ 80
place_small h = bool_cases (h.magic == 0x13579ad1) (λ t. rw t (omega arith)) (λ f. rw f (omega arith))

piece : (block p : ℕ) (xs : List ℕ) → p ≤ block → take (block - p) (drop p (take block xs)) ≡ take (block - p) (drop p xs)
piece block p xs le =
    let whole : p + (block - p) ≡ block = omega arith in
    ap (λ (n : ℕ). take (block - p) (drop p (take n xs))) (sym whole) ∙ ap (take (block - p)) (drop-take p (block - p) xs) ∙ take-take (block - p) (block - p) (drop p xs) (omega arith)

pub front_read : (file front : List ℕ) (h : Header) → 80 ≤ h.block → bytes_at file 0 h.block ≡ front → FrontRead file front h
unfolding table_of
front_read file front h le e =
    let small = place_small h in
    record {
      front_is = sym (ap (take 80) (sym e) ∙ take-take 80 h.block file le);
      table_is = sym (ap (λ (xs : List ℕ). take (h.block - place_of h) (drop (place_of h) xs)) (sym e) ∙ piece h.block (place_of h) file (omega (arith, small, le)));
    }

-- ---- the number of records

length_joined : {A : Type 0} (p : ℕ → Bool) (f : ℕ → List A) (g : ℕ → ℕ) (n : ℕ) → ((k : ℕ) → k < n → length (f k) ≡ g k) → length (joined p f n) ≡ sum_of p g n
unfolding joined
length_joined p f g zero same = refl
length_joined p f g (suc n) same =
    let ih = length_joined p f g n (λ k lt. same k (omega arith)) in
    bool_cases (p n)
    (λ t. let e = ap length (joined_yes p f n t) ∙ length-append (joined p f n) (f n) in let here = same n (omega arith) in rw t (omega (arith, e, ih, here)))
    (λ u. let e = ap length (joined_no p f n u) in rw u (omega (arith, e, ih)))

length_one : {A : Type 0} (b : Bool) (x : A) → length (cond b (x ∷ []) []) ≡ cond b 1 0
length_one true x = refl
length_one false x = refl

slots_count : (file block : List ℕ) (n : ℕ) → length (slot_records file (slots_at block n)) ≡ count_below n (is_full_at block)
slots_count file block zero = refl
slots_count file block (suc n) =
    let e = ap length (slots_more file block n) in
    let ih = slots_count file block n in
    let a = length-append (slot_records file (slots_at block n)) (cond (is_full_at block n) (record_of file (raw_slot_at block n) ∷ []) []) in
    let o = length_one (is_full_at block n) (record_of file (raw_slot_at block n)) in
    omega (arith, e, ih, a, o)

field_is : (file : List ℕ) (h : Header) (parts : HasParts file h) (i : ℕ) → i < entries_of h → length (bucket_of file h i) ≡ natural (counts_at (block_of file h i)).full
unfolding bucket_of is_count_right
field_is file h parts i lt =
    slots_count file (block_of file h i) h.elems ∙ sym (number_is (counts_at (block_of file h i)).full (count_below h.elems (is_full_at (block_of file h i))) (parts.buckets i lt).count)

pub records_count : (file : List ℕ) → IsReadable file → length (records file) ≡ sum_of (is_first file (header_of (front_of file))) (λ i. natural (counts_at (block_of file (header_of (front_of file)) i)).full) (entries_of (header_of (front_of file)))
records_count file readable_file =
    let r = readable file readable_file in
    ap length (records_joined file)
    ∙ length_joined (is_first file (header_of (front_of file))) (bucket_of file (header_of (front_of file))) (λ i. natural (counts_at (block_of file (header_of (front_of file)) i)).full) (entries_of (header_of (front_of file)))
    (λ i lt. field_is file (header_of (front_of file)) r.parts i lt)
