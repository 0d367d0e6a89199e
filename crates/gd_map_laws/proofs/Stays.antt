-- What stays where only a bucket, its gone records, free space and the header are touched.
use Rattle.std.proofs.Common.{◌≡◌, ◌≢◌, ℕ, ◌+◌, ◌-◌, ◌*◌, ◌^◌, ◌<◌, ◌≤◌, true, false, ◌||◌, List, [], ◌∷◌, ◌++◌, length, take, drop, replicate, append_assoc, refl, sym, ap, ◌∙◌, inl, inr, arith}
use Rattle.std.specs.Prelude.{ℤ, pos, negsuc, ◌/◌, nat_le, ◌==◌}
use Rattle.std.specs.List.{AllByRecursion}
use Rattle.std.proofs.lemmas.Bool.{cases_lt, cases_order, leb-true}
use Rattle.std.proofs.lemmas.Bool.Decides.{nat_tests}
use Rattle.std.proofs.lemmas.List.{take-take, drop-take, drop-drop, append-nil, take-append-drop}
use Rattle.gd_format.specs.declared.Header.{Header}
use Rattle.gd_format.specs.declared.Extent.{Extent}
use Rattle.gd_format.specs.declared.Slot.{Slot}
use Rattle.gd_format.specs.declared.Slot.TheVariants.{Empty, Full}
use Rattle.gd_format.specs.Field.{bytes_at, i64_at, u64_at}
use Rattle.gd_format.specs.HeaderFault.{natural, is_within}
use Rattle.gd_format.specs.Bucket.{slots_at}
use Rattle.gd_format.specs.File.{entry_at, entries_of, block_of, run_at, bits_at, is_first}
use Rattle.gd_format.proofs.Firsts.{and-true}
use Rattle.gd_format.specs.Slots.{count, SameSlots}
use Rattle.gd_format.specs.Sound.{extent}
use Rattle.gd_format.specs.Covers.{has_byte, cover}
use Rattle.gd_file_laws.specs.Parts.{HasParts}
use Rattle.gd_file_laws.specs.Frame.{written, AreApart}
use Rattle.gd_file_laws.proofs.Frame.{bytes_at-written, length-written}
use Rattle.gd_map_laws.specs.Slots.{is_good, is_bad, is_place_in, is_slot_key}
use Rattle.gd_map_laws.specs.Update.{IsRecordKept}
use Rattle.gd_map_laws.specs.Space.{one_if, slot_has, block_has, free_of, bucket_cover, sum_of, all_cover, IsSpaceRight}
use Rattle.gd_map_laws.specs.Frame.{KeepsBut, touched_of, Stays}
use Rattle.gd_map_laws.proofs.Lists.{count-append}
use Rattle.gd_map_laws.proofs.Lookup.{first_of_entry}
use Rattle.gd_map_laws.proofs.Slots.{of_bucket, not_false}
use Rattle.gd_map_laws.proofs.Update.{count_zero_head}
use Rattle.gd_map_laws.proofs.Space.{sum_le, sum_two}

pub has_in : (at n b : ℕ) → at ≤ b → b < at + n → has_byte (extent at n) b ≡ true
has_in at n b le lt = grind (arith, nat_tests)

-- ---- the record of a slot, by its range

record_kept : (old new : List ℕ) (hash : ℕ) (start : List ℕ) (at k v : ℕ) → bytes_at new at (k + v) ≡ bytes_at old at (k + v) → IsRecordKept old new (Full hash start at k v)
record_kept old new hash start at k v e =
    let key : bytes_at new at k ≡ bytes_at old at k = sym (take-take k (k + v) (drop at new) (omega arith)) ∙ ap (take k) e ∙ take-take k (k + v) (drop at old) (omega arith) in
    let value : bytes_at new (at + k) v ≡ bytes_at old (at + k) v =
    ap (take v) (sym (drop-drop k at new)) ∙ sym (drop-take k v (drop at new)) ∙ ap (drop k) e ∙ drop-take k v (drop at old) ∙ ap (take v) (drop-drop k at old) in
    rw (key, value) refl

place_ends : (len at size : ℕ) → is_place_in len at size ≡ true → 0 < size → at + size ≤ len
unfolding is_place_in
place_ends len at size e some =
    let a = and-true (nat_le size (2 ^ 30)) (size == 0 || nat_le (at + size) len) e in
    let z : (size == 0) ≡ false = grind (arith, nat_tests) in
    let r : (false || nat_le (at + size) len) ≡ true = rw z at a.1 in
    leb-true (at + size) len r

module _ (touched : ℕ → ℕ) (old new : List ℕ) (keeps : KeepsBut touched old new) (bits top : ℕ) where
  slot_kept : (slot : Slot) → is_good old bits top slot ≡ true → ((b : ℕ) → slot_has b slot ≡ true → touched b ≡ 0) → IsRecordKept old new slot
  slot_kept Empty good free = refl
  slot_kept (Full hash start at k v) good free =
      elim (cases_lt 0 (k + v)) [
        | inl some ↦
            let a = and-true (is_place_in (length old) at (k + v)) (is_slot_key bits top hash start (bytes_at old at k)) good in
            record_kept old new hash start at k v (keeps.bytes at (k + v) (place_ends (length old) at (k + v) a.0 some) (λ b le lt. free b (has_in at (k + v) b le lt)))
        | inr none ↦
            let z : k + v ≡ 0 = omega arith in
            record_kept old new hash start at k v (rw z refl)
      ]

  pub slots_kept : (slots : List Slot) → count (is_bad old bits top) slots ≡ 0 → ((b : ℕ) → 0 < count (slot_has b) slots → touched b ≡ 0) → AllByRecursion (IsRecordKept old new) slots
  slots_kept [] good free = tt
  slots_kept (x ∷ xs) good free =
      let parts = count_zero_head (is_bad old bits top x) (count (is_bad old bits top) xs) good in (
        slot_kept x (not_false (is_good old bits top x) parts.0) (λ b has. free b (rw has (omega arith))),
        slots_kept xs parts.1 (λ b some. free b (omega (arith, some))),
      )

-- ---- what is touched meets nothing else

module _ (old : List ℕ) (h : Header) (i next : ℕ) (pool : List Extent) (gone rest : List Slot) (li : i < entries_of h) (right : IsSpaceRight old h next pool) (before : SameSlots (slots_at (block_of old h i) h.elems) (gone ++ rest)) (b : ℕ) where
  bucket_at_first : (k j : ℕ) → entry_at old h k ≡ entry_at old h j → bucket_cover old h b k ≡ bucket_cover old h b j
  unfolding bucket_cover free_of block_of
  bucket_at_first k j e = rw e refl

  pub touched-le : touched_of old h i pool gone b + count (slot_has b) rest ≡ one_if (has_byte (extent 0 h.block) b) + bucket_cover old h b i + cover pool b
  unfolding touched_of bucket_cover
  touched-le = let e = before (slot_has b) refl in let f = count-append (slot_has b) gone rest in omega (arith, e, f)

  pub bucket_in_all : bucket_cover old h b i ≤ sum_of (is_first old h) (bucket_cover old h b) (entries_of h)
  bucket_in_all =
      let first = first_of_entry old h (entries_of h) i li in
      let e = bucket_at_first first.0 i first.3 in
      let s = sum_le (is_first old h) (bucket_cover old h b) (entries_of h) first.0 (let le = first.1 in omega arith) first.2 in
      omega (arith, e, s)

  pub two_in_all : (j : ℕ) → j < entries_of h → entry_at old h j ≢ entry_at old h i → bucket_cover old h b i + bucket_cover old h b j ≤ sum_of (is_first old h) (bucket_cover old h b) (entries_of h)
  two_in_all j lj ne =
      let x = first_of_entry old h (entries_of h) i li in
      let y = first_of_entry old h (entries_of h) j lj in
      let ex = bucket_at_first x.0 i x.3 in
      let ey = bucket_at_first y.0 j y.3 in
      let lx : x.0 < entries_of h = let le = x.1 in omega arith in
      let ly : y.0 < entries_of h = let le = y.1 in omega arith in
      elim (cases_order x.0 y.0) [
        | inl same ↦ absurd (ne (sym y.3 ∙ ap (entry_at old h) (sym same) ∙ x.3))
        | inr other ↦ elim other [
          | inl lt ↦ let s = sum_two (is_first old h) (bucket_cover old h b) (entries_of h) x.0 y.0 lt ly x.2 y.2 in omega (arith, ex, ey, s)
          | inr gt ↦ let s = sum_two (is_first old h) (bucket_cover old h b) (entries_of h) y.0 x.0 gt lx y.2 x.2 in omega (arith, ex, ey, s)
        ]
      ]

  dir_free : has_byte (extent h.dir (8 * entries_of h)) b ≡ true → touched_of old h i pool gone b ≡ 0
  unfolding all_cover
  dir_free has =
      let o = right.once b in
      let t = touched-le in
      let s = bucket_in_all in
      let d : one_if (has_byte (extent h.dir (8 * entries_of h)) b) ≡ 1 = rw has refl in
      omega (arith, o, t, s, d)

  other_free : (j : ℕ) → j < entries_of h → entry_at old h j ≢ entry_at old h i → 0 < bucket_cover old h b j → touched_of old h i pool gone b ≡ 0
  unfolding all_cover
  other_free j lj ne some =
      let o = right.once b in
      let t = touched-le in
      let s = two_in_all j lj ne in
      omega (arith, o, t, s)

  rest_free : 0 < count (slot_has b) rest → touched_of old h i pool gone b ≡ 0
  unfolding all_cover
  rest_free some =
      let o = right.once b in
      let t = touched-le in
      let s = bucket_in_all in
      omega (arith, o, t, s)

  pub block_counts : (j : ℕ) → block_has old h j b ≡ true → 0 < bucket_cover old h b j
  unfolding bucket_cover
  block_counts j has = let e : one_if (block_has old h j b) ≡ 1 = rw has refl in omega (arith, e)

  pub slots_count : (j : ℕ) → 0 < count (slot_has b) (slots_at (block_of old h j) h.elems) → 0 < bucket_cover old h b j
  unfolding bucket_cover
  slots_count j some = omega arith

pub within_ends : (z : ℤ) (n : ℕ) → is_within z 0 n ≡ true → natural z ≤ n
within_ends (pos m) n e = leb-true m n (and-true (nat_le 0 m) (nat_le m n) e).1
within_ends (negsuc m) n e = omega arith

-- the entry j lies in the directory
entry_in : (d n j b : ℕ) → j < n → d + 8 * j ≤ b → b < d + 8 * j + 8 → (d ≤ b) × (b < d + 8 * n)
entry_in d n j b lt le below = (omega arith, omega arith)

module _ (old new : List ℕ) (h : Header) (i next : ℕ) (pool : List Extent) (gone rest : List Slot) (li : i < entries_of h) (dir_in : h.dir + 8 * entries_of h ≤ length old) (parts : HasParts old h) (right : IsSpaceRight old h next pool) (before : SameSlots (slots_at (block_of old h i) h.elems) (gone ++ rest)) (keeps : KeepsBut (touched_of old h i pool gone) old new) where
  entry_stays : (j : ℕ) → j < entries_of h → entry_at new h j ≡ entry_at old h j
  unfolding entry_at i64_at u64_at
  entry_stays j lj =
      let e = keeps.bytes (h.dir + 8 * j) 8 (omega arith)
      (λ b le lt. let r = entry_in h.dir (entries_of h) j b lj le lt in dir_free old h i next pool gone rest li right before b (has_in h.dir (8 * entries_of h) b r.0 r.1)) in
      rw e refl

  block_stays : (j : ℕ) → j < entries_of h → entry_at old h j ≢ entry_at old h i → block_of new h j ≡ block_of old h j
  unfolding block_of
  block_stays j lj ne =
      let ends = within_ends (entry_at old h j) (length old - h.block) (parts.dir.in_file j lj) in
      let fits = parts.dir.block_fits in
      rw (entry_stays j lj)
      (keeps.bytes (natural (entry_at old h j)) h.block (omega arith)
      (λ b le lt. other_free old h i next pool gone rest li right before b j lj ne (block_counts old h i next pool gone rest li right before b j (has_in (natural (entry_at old h j)) h.block b le lt))))

  pub stays : Stays old new h i rest
  stays =
      record {
        entries = entry_stays;
        others =
            λ j lj ne.
            record {
              block = block_stays j lj ne;
              records =
                  slots_kept (touched_of old h i pool gone) old new keeps (bits_at (block_of old h j)) (j / run_at old h j) (slots_at (block_of old h j) h.elems)
                  (of_bucket old h (block_of old h j) (j / run_at old h j) (parts.buckets j lj)).good
                  (λ b some. other_free old h i next pool gone rest li right before b j lj ne (slots_count old h i next pool gone rest li right before b j some));
            };
        kept =
            slots_kept (touched_of old h i pool gone) old new keeps (bits_at (block_of old h i)) (i / run_at old h i) rest
            (let g = (of_bucket old h (block_of old h i) (i / run_at old h i) (parts.buckets i li)).good in
            let e = before (is_bad old (bits_at (block_of old h i)) (i / run_at old h i)) refl in
            let f = count-append (is_bad old (bits_at (block_of old h i)) (i / run_at old h i)) gone rest in
            omega (arith, g, e, f))
            (λ b some. rest_free old h i next pool gone rest li right before b some);
      }

-- ---- how such changes are made

pub keeps_join : (f g t : ℕ → ℕ) (a b c : List ℕ) → ((x : ℕ) → x < length a → t x ≡ 0 → (f x ≡ 0) × (g x ≡ 0)) → KeepsBut f a b → KeepsBut g b c → KeepsBut t a c
keeps_join f g t a b c both x y =
    record {
      longer = let p = x.longer in let q = y.longer in omega arith;
      bytes =
          λ at n le free.
          y.bytes at n (let p = x.longer in omega arith) (λ k low high. (both k (omega arith) (free k low high)).1)
          ∙ x.bytes at n le (λ k low high. (both k (omega arith) (free k low high)).0);
    }

no_common : (a n at m : ℕ) → 0 < m → ((b : ℕ) → a ≤ b → b < a + n → one_if (has_byte (extent at m) b) ≡ 0) → 0 < n → AreApart a n at m
no_common a n at m some free part =
    elim (cases_lt at (a + n)) [
      | inl l ↦ elim (cases_lt a (at + m)) [
        | inl k ↦ elim (cases_lt a at) [
          | inl below ↦ let has = has_in at m at (omega arith) (omega arith) in let z = free at (omega arith) (omega arith) in let o : one_if (has_byte (extent at m) at) ≡ 1 = rw has refl in absurd (omega (arith, z, o))
          | inr above ↦ let has = has_in at m a (omega arith) (omega arith) in let z = free a (omega arith) (omega arith) in let o : one_if (has_byte (extent at m) a) ≡ 1 = rw has refl in absurd (omega (arith, z, o))
        ]
        | inr k ↦ inr k
      ]
      | inr l ↦ inl l
    ]

none_written : (file : List ℕ) (at : ℕ) → at ≤ length file → written file at [] ≡ file
unfolding written
none_written file at le =
    let z : at + 0 ≡ at = omega arith in
    let r : at - length file ≡ 0 = omega arith in
    rw (append_assoc (take at (file ++ replicate (at - length file) 0)) [] (drop (at + 0) file), r, z, append-nil file) (take-append-drop at file)

pub write_keeps : (file : List ℕ) (at : ℕ) (bs : List ℕ) → KeepsBut (λ b. one_if (has_byte (extent at (length bs)) b)) file (written file at bs)
write_keeps file at [] =
    record {
      longer = length-written file [] at;
      bytes =
          λ a n fits free.
          elim (cases_lt at (length file)) [
            | inl inside ↦ ap (λ (l : List ℕ). bytes_at l a n) (none_written file at (omega arith))
            | inr past ↦ bytes_at-written file [] at a n fits (inl (omega arith))
          ];
    }
write_keeps file at (x ∷ xs) =
    record {
      longer = length-written file (x ∷ xs) at;
      bytes =
          λ a n fits free.
          elim (cases_lt 0 n) [
            | inl part ↦ bytes_at-written file (x ∷ xs) at a n fits (no_common a n at (length (x ∷ xs)) (omega arith) free part)
            | inr none ↦ let z : n ≡ 0 = omega arith in rw z refl
          ];
    }
