-- A bucket by its block is one by its slots.
use Rattle.std.proofs.Common.{◌≡◌, ℕ, zero, suc, ◌+◌, ◌-◌, ◌%◌, ◌^◌, ◌<◌, ◌≤◌, Bool, true, false, ◌&&◌, ◌||◌, not, cond, List, [], ◌∷◌, ◌++◌, get_or, length, refl, sym, ap, ◌∙◌, inl, inr, arith}
use Rattle.std.specs.Prelude.{ℤ, pos, negsuc, nat_le, ◌==◌}
use Rattle.std.proofs.lemmas.Bool.{cases_eq, le-leb}
use Rattle.std.proofs.lemmas.List.{get_or_append_left, get_or_push}
use Rattle.std.proofs.lemmas.Nat.{mod_below}
use Rattle.std.proofs.lemmas.Slice.Eq.{bytes_eq-Decides}
use Rattle.gd_format.specs.declared.Header.{Header}
use Rattle.gd_format.specs.declared.Slot.TheVariants.{Empty}
use Rattle.gd_format.specs.declared.RawSlot.{RawSlot}
use Rattle.gd_format.specs.First.{list_below, all_below}
use Rattle.gd_format.specs.Bucket.{counts_at, raw_slot_at, is_empty_hash, is_from_zero, slot_of, slots_at, is_bucket, are_slots_right, is_slot_signed_right}
use Rattle.gd_format.specs.HeaderFault.{natural, is_number, is_within}
use Rattle.gd_format.specs.File.{is_full_at, is_count_right, is_reached, is_full_after, is_key_new, is_other_key, is_key_of, are_counts_right, are_fields_right, is_record_in, key_of, key_at, bits_at, size_of}
use Rattle.gd_format.proofs.Firsts.{and-true, both_true, all_below-at, all_below_from, length-list_below}
use Rattle.gd_format.specs.Field.{bytes_at}
use Rattle.gd_format.specs.Hash.{hash_of}
use Rattle.gd_format.specs.Slots.{count, is_full, hash_in, is_full_from, is_reached_in}
use Rattle.gd_file_laws.specs.Parts.{IsSlotRight, IsBucketRight}
use Rattle.gd_file_laws.proofs.Lists.{bool_cases}
use Rattle.gd_map_laws.specs.Lookup.{has_key, slot_records}
use Rattle.gd_map_laws.specs.Slots.{is_slot_key, is_place_in, is_good, is_bad, AreSlotsRight}
use Rattle.gd_map_laws.proofs.Lists.{count-append}
use Rattle.gd_map_laws.proofs.Lookup.{found, count_more}

pub get_or-list_below : {X : Type 0} (f : ℕ → X) (d : X) (n s : ℕ) → s < n → get_or (list_below n f) s d ≡ f s
get_or-list_below f d zero s lt = absurd (omega arith)
get_or-list_below f d (suc n) s lt =
    let len = length-list_below f n in
    elim (cases_eq s n) [
      | inl same ↦ get_or_push (list_below n f) (f n) d s (len ∙ sym same) ∙ sym (ap f same)
      | inr other ↦ get_or_append_left (list_below n f) (f n ∷ []) d s (omega (arith, len)) ∙ get_or-list_below f d n s (omega arith)
    ]

module _ (r : RawSlot) where
  full_slot : is_full (slot_of r) ≡ not (is_empty_hash r.hash)
  unfolding slot_of
  full_slot = bool_cases (is_empty_hash r.hash) (λ h. rw h refl) (λ h. rw h refl)

  hash_slot : is_empty_hash r.hash ≡ false → hash_in (slot_of r) ≡ natural r.hash
  unfolding slot_of
  hash_slot e = rw e refl

  good_empty : (file : List ℕ) (bits top : ℕ) → is_empty_hash r.hash ≡ true → is_good file bits top (slot_of r) ≡ true
  unfolding slot_of
  good_empty file bits top e = rw e refl

  number_of_natural : (z : ℤ) (n : ℕ) → is_from_zero z ≡ true → is_number z n ≡ (natural z == n)
  number_of_natural (pos m) n h = refl
  number_of_natural (negsuc m) n h = absurd cc

  good_full : (file : List ℕ) (bits top : ℕ) → is_empty_hash r.hash ≡ false → are_fields_right r ≡ true → is_record_in (length file) r ≡ true → is_key_of bits top r (key_of file r) ≡ true → is_good file bits top (slot_of r) ≡ true
  unfolding slot_of are_fields_right is_record_in is_key_of key_of is_place_in is_slot_key
  good_full file bits top e fields record_in key =
      let a = and-true _ _ fields in
      let b = and-true _ _ a.0 in
      let c = and-true _ _ b.0 in
      let d = and-true _ _ c.0 in
      let numbers = number_of_natural r.hash (hash_of (bytes_at file (natural r.at) (natural r.key_size))) d.0 in
      rw e (both_true _ _ (both_true _ _ a.1 record_in) (rw numbers at key))

  full_good : (file : List ℕ) (bits top : ℕ) → is_empty_hash r.hash ≡ false → is_slot_signed_right r ≡ true → is_good file bits top (slot_of r) ≡ true → (are_fields_right r ≡ true) × (is_record_in (length file) r ≡ true) × (is_key_of bits top r (key_of file r) ≡ true)
  unfolding slot_of are_fields_right is_record_in is_key_of key_of is_place_in is_slot_key is_slot_signed_right
  full_good file bits top e signs good =
      let s : (is_from_zero r.hash && is_from_zero r.at && is_from_zero r.key_size && is_from_zero r.value_size) ≡ true = rw e at signs in
      let g : ((nat_le (size_of r) (2 ^ 30) && (size_of r == 0 || nat_le (natural r.at + size_of r) (length file))) && _) ≡ true = rw e at good in
      let p = and-true _ _ g in
      let q = and-true _ _ p.0 in
      let c = and-true _ _ s in
      let d = and-true _ _ c.0 in
      let f = and-true _ _ d.0 in
      (both_true _ _ s q.0, q.1, rw (number_of_natural r.hash (hash_of (bytes_at file (natural r.at) (natural r.key_size))) f.0) p.1)

pub bad_if_not : (b : Bool) → b ≡ true → not b ≡ false
bad_if_not true e = refl
bad_if_not false e = absurd cc

pub not_false : (b : Bool) → not b ≡ false → b ≡ true
not_false true h = refl
not_false false h = absurd cc

not_true : (b : Bool) → not b ≡ true → b ≡ false
not_true true h = absurd cc
not_true false h = refl

pub count_push : {X : Type 0} (p : X → Bool) (xs : List X) (x : X) → count p (xs ++ x ∷ []) ≡ count p xs + cond (p x) 1 0
count_push p xs x = let e = count-append p xs (x ∷ []) in omega (arith, e)

pub count-list_below : {X : Type 0} (p : X → Bool) (f : ℕ → X) (n : ℕ) → ((s : ℕ) → s < n → p (f s) ≡ false) → count p (list_below n f) ≡ 0
count-list_below p f zero h = refl
count-list_below p f (suc n) h =
    let ih = count-list_below p f n (λ s lt. h s (omega arith)) in
    let e : count p (list_below n f ++ f n ∷ []) ≡ count p (list_below n f) + 0 = rw (h n (omega arith)) at (count_push p (list_below n f) (f n)) in
    omega (arith, e, ih)

pub count-list_below_at : {X : Type 0} (p : X → Bool) (f : ℕ → X) (n : ℕ) → count p (list_below n f) ≡ 0 → (s : ℕ) → s < n → p (f s) ≡ false
count-list_below_at p f zero e s lt = absurd (omega arith)
count-list_below_at p f (suc n) e s lt =
    let m = count_push p (list_below n f) (f n) in
    elim (cases_eq s n) [
      | inl same ↦ bool_cases (p (f s)) (λ t. let u : p (f n) ≡ true = rw same at t in let k : count p (list_below n f ++ f n ∷ []) ≡ count p (list_below n f) + 1 = rw u at m in absurd (omega (arith, k, e))) (λ f'. f')
      | inr other ↦ count-list_below_at p f n (omega (arith, m, e)) s (omega arith)
    ]

pub all_same : (n : ℕ) (p q : ℕ → Bool) → ((d : ℕ) → p d ≡ q d) → all_below n p ≡ all_below n q
all_same zero p q h = refl
all_same (suc n) p q h = rw (all_same n p q h, h n) refl

module _ (file block : List ℕ) where
  get_slot : (n s : ℕ) → s < n → get_or (slots_at block n) s Empty ≡ slot_of (raw_slot_at block s)
  get_slot n s lt = get_or-list_below (λ t. slot_of (raw_slot_at block t)) Empty n s lt

  full_at : (n s : ℕ) → s < n → is_full (get_or (slots_at block n) s Empty) ≡ is_full_at block s
  unfolding is_full_at
  full_at n s lt = ap is_full (get_slot n s lt) ∙ full_slot (raw_slot_at block s)

  pub full_is : (s : ℕ) → is_full_at block s ≡ true → is_empty_hash (raw_slot_at block s).hash ≡ false
  unfolding is_full_at
  full_is s e = not_true _ e

  pub empty_is : (s : ℕ) → is_full_at block s ≡ false → is_empty_hash (raw_slot_at block s).hash ≡ true
  unfolding is_full_at
  empty_is s e = not_false _ e

  module _ (elems : ℕ) where
    home_at : (s : ℕ) → s < elems → is_full_at block s ≡ true → hash_in (get_or (slots_at block elems) s Empty) ≡ natural (raw_slot_at block s).hash
    home_at s lt full = ap hash_in (get_slot elems s lt) ∙ hash_slot (raw_slot_at block s) (full_is s full)

    reached_same : (s : ℕ) → s < elems → is_full_at block s ≡ true → is_reached_in (slots_at block elems) elems s ≡ is_reached block elems s
    unfolding is_reached is_reached_in is_full_after is_full_from
    reached_same s lt full =
        let positive : 0 < elems = omega arith in
        rw (home_at s lt full)
        (all_same ((s + elems - natural (raw_slot_at block s).hash % elems) % elems)
        (λ d. is_full (get_or (slots_at block elems) ((natural (raw_slot_at block s).hash % elems + d) % elems) Empty))
        (λ d. is_full_at block ((natural (raw_slot_at block s).hash % elems + d) % elems))
        (λ d. full_at elems ((natural (raw_slot_at block s).hash % elems + d) % elems) (mod_below _ elems positive)))

    module _ (h : Header) (top : ℕ) where
      slot_good : (s : ℕ) → (is_full_at block s ≡ true → IsSlotRight file block top s) → is_good file (bits_at block) top (slot_of (raw_slot_at block s)) ≡ true
      slot_good s right =
          bool_cases (is_full_at block s)
          (λ full. let r = right full in good_full (raw_slot_at block s) file (bits_at block) top (full_is s full) r.fields r.record_in r.key)
          (λ empty. good_empty (raw_slot_at block s) file (bits_at block) top (empty_is s empty))

pub of_bucket : (file : List ℕ) (h : Header) (block : List ℕ) (top : ℕ) → IsBucketRight file h block top → AreSlotsRight file (bits_at block) top h.elems (slots_at block h.elems)
of_bucket file h block top right =
    record {
      good = count-list_below (is_bad file (bits_at block) top) (λ s. slot_of (raw_slot_at block s)) h.elems (λ s lt. bad_if_not _ (slot_good file block h.elems h top s (λ full. right.slots s lt full)));
      once = λ key. elim (found file block key h.elems (λ s l full. (right.slots s l full).new) h.elems (omega arith)) [ inl z ↦ omega (arith, z) | inr f ↦ let o = f.once in omega (arith, o) ];
      reached = λ s lt full. let there = sym (full_at file block h.elems s lt) ∙ full in reached_same file block h.elems s lt there ∙ right.reached s lt there;
    }

-- two slots with one key are counted twice
module _ (file block key : List ℕ) where
  counts_grow : (n m : ℕ) → count (has_key key) (slot_records file (slots_at block n)) ≤ count (has_key key) (slot_records file (slots_at block (n + m)))
  counts_grow n zero = let e : n + 0 ≡ n = omega arith in rw e (omega arith)
  counts_grow n (suc m) =
      let ih = counts_grow n m in
      let more = count_more file block key (n + m) in
      let e : n + suc m ≡ suc (n + m) = omega arith in
      rw e (omega (arith, ih, more))

  one_more : (n : ℕ) → is_full_at block n ≡ true → key_at file block n ≡ key → count (has_key key) (slot_records file (slots_at block (suc n))) ≡ count (has_key key) (slot_records file (slots_at block n)) + 1
  one_more n full same =
      let e = (bytes_eq-Decides (key_at file block n) key).1 same in
      rw (full, e) at (count_more file block key n)

  counted_twice : (t s n : ℕ) → t < s → s < n → is_full_at block t ≡ true → is_full_at block s ≡ true → key_at file block t ≡ key → key_at file block s ≡ key → 2 ≤ count (has_key key) (slot_records file (slots_at block n))
  counted_twice t s n lt below ft fs kt ks =
      let a = one_more t ft kt in
      let b = one_more s fs ks in
      let x : suc t + (s - suc t) ≡ s = omega arith in
      let y : suc s + (n - suc s) ≡ n = omega arith in
      let c : count (has_key key) (slot_records file (slots_at block (suc t))) ≤ count (has_key key) (slot_records file (slots_at block s)) = rw x at (counts_grow (suc t) (s - suc t)) in
      let d : count (has_key key) (slot_records file (slots_at block (suc s))) ≤ count (has_key key) (slot_records file (slots_at block n)) = rw y at (counts_grow (suc s) (n - suc s)) in
      omega (arith, a, b, c, d)

negate : (b : Bool) → (b ≡ true → ⊥) → not b ≡ true
negate true f = absurd (f refl)
negate false f = refl

within_of : (z : ℤ) (n : ℕ) → is_within z 0 24 ≡ true → natural z ≤ n → is_within z 0 n ≡ true
within_of (pos m) n h le = both_true _ _ (le-leb 0 m (omega arith)) (le-leb m n le)
within_of (negsuc m) n h le = absurd cc

pub of_slots : (file : List ℕ) (h : Header) (block : List ℕ) (top : ℕ) → is_bucket block h.elems ≡ true → is_count_right block h.elems ≡ true → bits_at block ≤ h.dir_bits → AreSlotsRight file (bits_at block) top h.elems (slots_at block h.elems) → IsBucketRight file h block top
unfolding is_bucket are_counts_right is_key_new is_other_key
of_slots file h block top bucket number bits right =
    let a = and-true _ (are_slots_right block h.elems) bucket in
    let b = and-true (is_within (counts_at block).free 0 6) _ a.0 in
    record {
      counts = both_true _ _ b.0 (within_of (counts_at block).bits h.dir_bits b.1 bits);
      count = number;
      slots =
          λ s lt full.
          let signs = all_below-at (λ t. is_slot_signed_right (raw_slot_at block t)) h.elems a.1 s lt in
          let fine = not_false _ (count-list_below_at (is_bad file (bits_at block) top) (λ t. slot_of (raw_slot_at block t)) h.elems right.good s lt) in
          let r = full_good (raw_slot_at block s) file (bits_at block) top (full_is file block s full) signs fine in
          record {
            fields = r.0;
            record_in = r.1;
            key = r.2;
            new =
                all_below_from _ s
                (λ t below.
                negate _
                (λ both.
                let p = and-true _ _ both in
                let same = (bytes_eq-Decides (key_at file block t) (key_at file block s)).0 p.1 in
                let two = counted_twice file block (key_at file block s) t s h.elems below lt p.0 full same refl in
                let one = right.once (key_at file block s) in
                absurd (omega (arith, two, one))));
          };
      reached = λ s lt full. sym (reached_same file block h.elems s lt full) ∙ right.reached s lt (full_at file block h.elems s lt ∙ full);
    }
