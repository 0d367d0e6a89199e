-- A file with one bucket and no record is sound and has no records.
use Rattle.std.proofs.Common.{◌≡◌, ℕ, zero, suc, ◌-◌, ◌/◌, ◌^◌, ◌<◌, Bool, true, false, List, [], ◌∷◌, ◌++◌, length, refl, sym, ap, ◌∙◌, arith}
use Rattle.std.specs.Prelude.{ℤ}
use Rattle.std.proofs.lemmas.Bool.{le-leb}
use Rattle.std.proofs.lemmas.Bool.Decides.{Decides-int_eq}
use Rattle.std.proofs.lemmas.Nat.{pow_pos}
use Rattle.std.proofs.Math.Nat.{div-eq_of_lt}
use Rattle.gd_format.specs.declared.Header.{Header}
use Rattle.gd_format.specs.declared.Extent.{Extent}
use Rattle.gd_format.specs.declared.Slot.{Slot}
use Rattle.gd_format.specs.declared.Slot.TheVariants.{Empty, Full}
use Rattle.gd_format.specs.Field.{bytes_at}
use Rattle.gd_format.specs.HeaderFault.{natural, is_within, header_of}
use Rattle.gd_format.specs.Bucket.{slots_at, slot_of, raw_slot_at}
use Rattle.gd_format.specs.Avail.{extents_at}
use Rattle.gd_format.specs.File.{front_of, entry_at, entries_of, run_at, block_of, bits_at, is_first, is_other_entry, records}
use Rattle.gd_format.specs.Slots.{count, is_full}
use Rattle.gd_format.specs.Sound.{IsSound, extent, table_of, is_free_right}
use Rattle.gd_format.specs.Covers.{has_byte, cover}
use Rattle.gd_format.specs.FreeSide.{stack_extents}
use Rattle.gd_format.proofs.Firsts.{both_true, all_below_fails, length-list_below}
use Rattle.gd_file_laws.specs.Parts.{HasParts, IsDirRight, IsBucketRight}
use Rattle.gd_file_laws.proofs.Lists.{bool_cases}
use Rattle.gd_file_laws.proofs.Headers.{header_in}
use Rattle.gd_map_laws.specs.Lookup.{slot_records}
use Rattle.gd_map_laws.specs.Slots.{is_bad, AreSlotsRight}
use Rattle.gd_map_laws.specs.Space.{one_if, slot_has, free_in, free_of, bucket_cover, sum_of, all_cover, IsSpaceRight}
use Rattle.gd_map_laws.specs.Sounds.{IsSoundBy}
use Rattle.gd_map_laws.specs.NewFile.{new_cover, IsNewFile}
use Rattle.gd_map_laws.proofs.Lists.{joined, joined_yes, joined_no}
use Rattle.gd_map_laws.proofs.Lookup.{bucket_of, records_joined}
use Rattle.gd_map_laws.proofs.Slots.{of_slots}
use Rattle.gd_map_laws.proofs.Find.{count_at_least}
use Rattle.gd_map_laws.proofs.Sounds.{makes_sound}

-- ---- empty slots

none_passes : (p : Slot → Bool) (slots : List Slot) → p Empty ≡ false → count is_full slots ≡ 0 → count p slots ≡ 0
none_passes p [] e z = refl
none_passes p (Empty ∷ slots) e z = let ih = none_passes p slots e (omega (arith, z)) in rw e (omega (arith, ih))
none_passes p (Full hash start at k v ∷ slots) e z = absurd (omega (arith, z))

no_records : (file : List ℕ) (slots : List Slot) → count is_full slots ≡ 0 → slot_records file slots ≡ []
no_records file [] z = refl
no_records file (Empty ∷ slots) z = no_records file slots (omega (arith, z))
no_records file (Full hash start at k v ∷ slots) z = absurd (omega (arith, z))

empty_right : (file : List ℕ) (bits top elems : ℕ) (slots : List Slot) → length slots ≡ elems → count is_full slots ≡ 0 → AreSlotsRight file bits top elems slots
empty_right file bits top elems slots len z =
    record {
      good = none_passes (is_bad file bits top) slots refl z;
      once = λ key. rw (no_records file slots z) (omega arith);
      reached = λ s lt full. let one = count_at_least is_full slots Empty s (omega (arith, lt, len)) full in absurd (omega (arith, one, z));
    }

-- ---- sums and joins of which one index passes

one_passes : (p : ℕ → Bool) (f : ℕ → ℕ) (n : ℕ) → p 0 ≡ true → ((k : ℕ) → 0 < k → k < n → p k ≡ false) → 0 < n → sum_of p f n ≡ f 0
one_passes p f zero first others some = absurd (omega arith)
one_passes p f (suc zero) first others some = rw first (omega arith)
one_passes p f (suc (suc n)) first others some =
    let ih = one_passes p f (suc n) first (λ k pos lt. others k pos (omega arith)) (omega arith) in
    let last = others (suc n) (omega arith) (omega arith) in
    rw last (omega (arith, ih))

join_none : {A : Type 0} (p : ℕ → Bool) (f : ℕ → List A) (n : ℕ) → ((k : ℕ) → k < n → f k ≡ []) → joined p f n ≡ []
unfolding joined
join_none p f zero none = refl
join_none p f (suc n) none =
    let ih = join_none p f n (λ k lt. none k (omega arith)) in
    bool_cases (p n)
    (λ t. joined_yes p f n t ∙ rw (ih, none n (omega arith)) refl)
    (λ u. joined_no p f n u ∙ ih)

module _ (file : List ℕ) (at : ℕ) (is_new : IsNewFile file at) where
  abbrev h : Header
  h = header_of (front_of file)

  abbrev block : List ℕ
  block = bytes_at file at h.block

  block_is : (i : ℕ) → i < entries_of h → block_of file h i ≡ block
  unfolding block_of
  block_is i lt = ap (λ (z : ℤ). bytes_at file (natural z) h.block) (is_new.entries i lt)

  run_is : (i : ℕ) → i < entries_of h → run_at file h i ≡ entries_of h
  unfolding run_at
  run_is i lt = ap (λ (b : List ℕ). 2 ^ (h.dir_bits - bits_at b)) (block_is i lt) ∙ ap (λ (n : ℕ). 2 ^ (h.dir_bits - n)) is_new.bits ∙ ap (λ (n : ℕ). 2 ^ n) whole
    where
      whole : h.dir_bits - 0 ≡ h.dir_bits
      whole = omega arith

  top_is : (i j : ℕ) → i < entries_of h → j < entries_of h → j / run_at file h i ≡ 0
  top_is i j li lj = ap (λ (n : ℕ). j / n) (run_is i li) ∙ div-eq_of_lt lj

  dir_right : IsDirRight file h
  dir_right =
      let fits = is_new.in_file in
      record {
        block_fits = omega (arith, fits);
        in_file = λ i lt. ap (λ (z : ℤ). is_within z 0 (length file - h.block)) (is_new.entries i lt) ∙ both_true _ _ (le-leb 0 at (omega arith)) (le-leb at (length file - h.block) (omega (arith, fits)));
        one_run = λ i j li lj. (λ e. top_is i j li lj ∙ sym (top_is i i li li), λ e. is_new.entries j lj ∙ sym (is_new.entries i li));
      }

  bucket_right : (i : ℕ) → i < entries_of h → IsBucketRight file h (block_of file h i) (i / run_at file h i)
  bucket_right i lt =
      let bits = is_new.bits in
      rw (block_is i lt)
      (of_slots file h block (i / run_at file h i) is_new.fields is_new.number (omega (arith, bits))
      (empty_right file (bits_at block) (i / run_at file h i) h.elems (slots_at block h.elems) (length-list_below (λ s. slot_of (raw_slot_at block s)) h.elems) is_new.empty))

  parts : HasParts file h
  parts = record { dir = dir_right; buckets = bucket_right }

  entries_some : 0 < entries_of h
  entries_some = pow_pos h.dir_bits

  not_first : (k : ℕ) → 0 < k → k < entries_of h → is_first file h k ≡ false
  unfolding is_first is_other_entry
  not_first k some lt =
      let same : entry_at file h 0 ≡ entry_at file h k = is_new.entries 0 entries_some ∙ sym (is_new.entries k lt) in
      let e = (Decides-int_eq (entry_at file h 0) (entry_at file h k)).1 same in
      all_below_fails (is_other_entry file h k) k 0 some (rw e refl)

  first_first : is_first file h 0 ≡ true
  unfolding is_first
  first_first = refl

  cover_new : (b : ℕ) → all_cover file h (extents_at (table_of file h) ++ stack_extents []) b ≡ new_cover file at b
  unfolding all_cover bucket_cover free_of block_of new_cover
  cover_new b =
      let s = one_passes (is_first file h) (bucket_cover file h b) (entries_of h) first_first not_first entries_some in
      let e = is_new.entries 0 entries_some in
      let place : one_if (has_byte (extent (natural (entry_at file h 0)) h.block) b) ≡ one_if (has_byte (extent at h.block) b) = ap (λ (z : ℤ). one_if (has_byte (extent (natural z) h.block) b)) e in
      let slots : count (slot_has b) (slots_at (bytes_at file (natural (entry_at file h 0)) h.block) h.elems) ≡ 0 =
      ap (λ (z : ℤ). count (slot_has b) (slots_at (bytes_at file (natural z) h.block) h.elems)) e ∙ none_passes (slot_has b) (slots_at block h.elems) refl is_new.empty in
      let free : cover (free_in (bytes_at file (natural (entry_at file h 0)) h.block)) b ≡ cover (free_in block) b = ap (λ (z : ℤ). cover (free_in (bytes_at file (natural z) h.block)) b) e in
      let pool = ap (λ (l : List Extent). cover (l ++ []) b) is_new.table_empty in
      omega (arith, s, place, slots, free, pool)

  space : IsSpaceRight file h h.next_block (extents_at (table_of file h) ++ stack_extents [])
  space =
      record {
        once = λ b. let c = cover_new b in let o = is_new.once b in omega (arith, c, o);
        below = λ b some. is_new.below b (let c = cover_new b in omega (arith, c, some));
      }

  by : IsSoundBy file h []
  by =
      let sizes = header_in (front_of file) (length file) is_new.header in
      record {
        header = is_new.header;
        header_is = refl;
        file_is = record { bits = sizes.bits; dir = sizes.dir; short = is_new.short; parts = parts; space = space };
        table = is_new.table;
        stack = is_new.no_stack;
        free = λ i lt. ap (λ (z : ℤ). is_free_right file h (natural z)) (is_new.entries i lt) ∙ is_new.free;
      }

  none : records file ≡ []
  unfolding bucket_of
  none =
      records_joined file
      ∙ join_none (is_first file h) (bucket_of file h) (entries_of h)
      (λ k lt. ap (λ (b : List ℕ). slot_records file (slots_at b h.elems)) (block_is k lt) ∙ no_records file (slots_at block h.elems) is_new.empty)

  pub new_sound : IsSound file × (records file ≡ [])
  new_sound = (makes_sound file h [] by, none)
