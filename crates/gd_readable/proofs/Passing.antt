-- Steps over the numbers that pass, and over the records that a walk has still to give.
use Rattle.std.proofs.Common.{◌≡◌, ℕ, suc, ◌+◌, ◌-◌, ◌<◌, ◌≤◌, Bool, true, false, List, [], ◌∷◌, ◌++◌, map, refl, sym, ap, ◌∙◌, arith}
use Rattle.std.specs.List.{range_with_len, flat_map, filter}
use Rattle.gd_format.specs.declared.Header.{Header}
use Rattle.gd_format.specs.Bucket.{raw_slot_at}
use Rattle.gd_format.specs.Field.{bytes_at}
use Rattle.gd_format.specs.HeaderFault.{natural, header_of}
use Rattle.gd_format.specs.File.{front_of, entries_of, entry_at, block_of, is_first, is_full_at, record_of, bucket_records, records, places_of, first_indexes}
use Rattle.gd_readable.specs.Left.{passing_from, slots_left, buckets_left}

module _ (p : ℕ → Bool) where
  range_step : (n a : ℕ) → a < n → range_with_len a (n - a) ≡ a ∷ range_with_len (a + 1) (n - (a + 1))
  range_step n a lt =
      let e : n - a ≡ suc (n - (a + 1)) = omega arith in
      rw e refl

  pub passing_yes : (n a : ℕ) → a < n → p a ≡ true → passing_from p n a ≡ a ∷ passing_from p n (a + 1)
  unfolding passing_from
  passing_yes n a lt h = ap (filter p) (range_step n a lt) ∙ rw h refl

  pub passing_no : (n a : ℕ) → a < n → p a ≡ false → passing_from p n a ≡ passing_from p n (a + 1)
  unfolding passing_from
  passing_no n a lt h = ap (filter p) (range_step n a lt) ∙ rw h refl

  pub passing_end : (n a : ℕ) → n ≤ a → passing_from p n a ≡ []
  unfolding passing_from
  passing_end n a le =
      let e : n - a ≡ 0 = omega arith in
      rw e refl

  -- steps of a loop that began at f
  pub passing_on : (n a : ℕ) (f : ℕ) → passing_from p n a ≡ passing_from p n f → a < n → p a ≡ false → passing_from p n (a + 1) ≡ passing_from p n f
  passing_on n a f so_far lt h = sym (passing_no n a lt h) ∙ so_far

  pub passing_found : (n a : ℕ) (f : ℕ) → passing_from p n a ≡ passing_from p n f → a < n → p a ≡ true → passing_from p n f ≡ a ∷ passing_from p n (a + 1)
  passing_found n a f so_far lt h = sym so_far ∙ passing_yes n a lt h

flat_map-map : {X Y A : Type 0} (f : Y → List A) (g : X → Y) (xs : List X) → flat_map f (map g xs) ≡ flat_map (λ x. f (g x)) xs
flat_map-map f g [] = refl
flat_map-map f g (x ∷ xs) = ap (λ (l : List _). f (g x) ++ l) (flat_map-map f g xs)

module _ (file : List ℕ) where
  -- behind the last slot
  pub no_slots : (block : List ℕ) (elems s : ℕ) → elems ≤ s → slots_left file elems block s ≡ []
  unfolding slots_left
  no_slots block elems s le = ap (map (λ t. record_of file (raw_slot_at block t))) (passing_end (is_full_at block) elems s le)

  pub slots_none : (block : List ℕ) (elems s : ℕ) → passing_from (is_full_at block) elems s ≡ [] → slots_left file elems block s ≡ []
  unfolding slots_left
  slots_none block elems s e = ap (map (λ t. record_of file (raw_slot_at block t))) e

  pub slots_step : (block : List ℕ) (elems s t : ℕ) → passing_from (is_full_at block) elems s ≡ t ∷ passing_from (is_full_at block) elems (t + 1) → slots_left file elems block s ≡ record_of file (raw_slot_at block t) ∷ slots_left file elems block (t + 1)
  unfolding slots_left
  slots_step block elems s t e = ap (map (λ u. record_of file (raw_slot_at block u))) e

  whole_bucket : (block : List ℕ) (elems : ℕ) → bucket_records file elems block ≡ slots_left file elems block 0
  unfolding bucket_records slots_left passing_from
  whole_bucket block elems =
      let e : elems ≡ elems - 0 = omega arith in
      ap (λ (n : ℕ). map (λ t. record_of file (raw_slot_at block t)) (filter (is_full_at block) (range_with_len 0 n))) e

  module _ (h : Header) where
    pub buckets_none : (i : ℕ) → passing_from (is_first file h) (entries_of h) i ≡ [] → buckets_left file h i ≡ []
    unfolding buckets_left
    buckets_none i e = ap (flat_map (λ j. bucket_records file h.elems (block_of file h j))) e

    pub buckets_step : (i j : ℕ) → passing_from (is_first file h) (entries_of h) i ≡ j ∷ passing_from (is_first file h) (entries_of h) (j + 1) → buckets_left file h i ≡ slots_left file h.elems (block_of file h j) 0 ++ buckets_left file h (j + 1)
    unfolding buckets_left
    buckets_step i j e =
        ap (flat_map (λ k. bucket_records file h.elems (block_of file h k))) e
        ∙ ap (λ (l : List (List ℕ × List ℕ)). l ++ flat_map (λ k. bucket_records file h.elems (block_of file h k)) (passing_from (is_first file h) (entries_of h) (j + 1))) (whole_bucket (block_of file h j) h.elems)

  -- all records are left at the start
  all_left : buckets_left file (header_of (front_of file)) 0 ≡ records file
  unfolding buckets_left passing_from records places_of first_indexes block_of
  all_left =
      let h = header_of (front_of file) in
      let e : entries_of h - 0 ≡ entries_of h = omega arith in
      rw e (sym (flat_map-map (λ at. bucket_records file h.elems (bytes_at file at h.block)) (λ i. natural (entry_at file h i)) (filter (is_first file h) (range_with_len 0 (entries_of h)))))

  pub starts_whole : (h : Header) (block : List ℕ) → h ≡ header_of (front_of file) → slots_left file h.elems block h.elems ++ buckets_left file h 0 ≡ records file
  starts_whole h block e =
      ap (λ (l : List (List ℕ × List ℕ)). l ++ buckets_left file h 0) (no_slots block h.elems h.elems (omega arith)) ∙ ap (λ (k : Header). buckets_left file k 0) e ∙ all_left
