-- What is written beside the buckets keeps the list of the records.
use Rattle.std.proofs.Common.{◌≡◌, ℕ, zero, suc, ◌+◌, ◌-◌, ◌*◌, ◌/◌, ◌^◌, ◌<◌, ◌≤◌, Bool, true, List, [], ◌++◌, length, refl, sym, ap, ◌∙◌, inl, inr, arith}
use Rattle.std.specs.Prelude.{ℤ}
use Rattle.std.specs.List.{AllByRecursion}
use Rattle.std.proofs.lemmas.Bool.{cases_lt}
use Rattle.std.proofs.lemmas.List.{append-nil}
use Rattle.gd_format.specs.declared.Header.{Header}
use Rattle.gd_format.specs.declared.Extent.{Extent}
use Rattle.gd_format.specs.Field.{bytes_at, i64_at, u64_at}
use Rattle.gd_format.specs.HeaderFault.{natural, header_of}
use Rattle.gd_format.specs.Bucket.{slots_at}
use Rattle.gd_format.specs.Avail.{extents_at}
use Rattle.gd_format.specs.File.{front_of, entry_at, entries_of, block_of, run_at, bits_at, is_first, records}
use Rattle.gd_format.specs.Slots.{count}
use Rattle.gd_format.specs.Sound.{IsSound, extent, table_of, is_free_right}
use Rattle.gd_format.specs.Covers.{has_byte, cover}
use Rattle.gd_format.specs.FreeSide.{StackBlock, stack_extents}
use Rattle.gd_file_laws.specs.Parts.{HasParts}
use Rattle.gd_file_laws.proofs.Lists.{bool_cases}
use Rattle.gd_file_laws.proofs.Made.{bits_within}
use Rattle.gd_map_laws.specs.Lookup.{slot_records}
use Rattle.gd_map_laws.specs.Update.{IsSameShape, IsRecordKept}
use Rattle.gd_map_laws.specs.Space.{one_if, free_of, bucket_cover, all_cover, grown, IsSpaceRight}
use Rattle.gd_map_laws.specs.Frame.{KeepsBut}
use Rattle.gd_map_laws.specs.Change.{IsSoundFile}
use Rattle.gd_map_laws.specs.Sounds.{pool_of}
use Rattle.gd_map_laws.specs.WholeSplit.{SpaceWritten}
use Rattle.gd_map_laws.specs.Beside.{BesideChange}
use Rattle.gd_map_laws.proofs.Lists.{joined, joined_yes, joined_no}
use Rattle.gd_map_laws.proofs.Lookup.{bucket_of, records_joined}
use Rattle.gd_map_laws.proofs.Slots.{of_bucket}
use Rattle.gd_map_laws.proofs.Update.{kept_records}
use Rattle.gd_map_laws.proofs.FileUpdate.{within_longer, entry_shape, block_shape, parts_shape}
use Rattle.gd_map_laws.proofs.Stays.{has_in, bucket_in_all, slots_kept, within_ends, block_counts, slots_count}
use Rattle.gd_map_laws.proofs.Space.{sum_same, first_same, grown-le, grown-some}
use Rattle.gd_map_laws.proofs.Split.{still_right}
use Rattle.gd_map_laws.proofs.Change.{space_shape, same_first}
use Rattle.gd_map_laws.proofs.Whole.{same_free}
use Rattle.gd_map_laws.proofs.WholeSplit.{file_is, old_free, sound_from}

joined_same : {A : Type 0} (p q : ℕ → Bool) (f g : ℕ → List A) (n : ℕ) → ((k : ℕ) → k < n → p k ≡ q k) → ((k : ℕ) → k < n → f k ≡ g k) → joined p f n ≡ joined q g n
unfolding joined
joined_same p q f g zero pq fg = refl
joined_same p q f g (suc n) pq fg =
    let ih = joined_same p q f g n (λ k lt. pq k (omega arith)) (λ k lt. fg k (omega arith)) in
    let e = pq n (omega arith) in
    bool_cases (p n)
    (λ t. joined_yes p f n t ∙ rw (ih, fg n (omega arith)) refl ∙ sym (joined_yes q g n (sym e ∙ t)))
    (λ u. joined_no p f n u ∙ ih ∙ sym (joined_no q g n (sym e ∙ u)))

module _ (old new : List ℕ) (h : Header) (next next' : ℕ) (pool pool' : List Extent) (file : IsSoundFile old h next pool) (change : BesideChange old new h next next' pool pool') where
  touched : ℕ → ℕ
  touched b = one_if (has_byte (extent 0 h.block) b) + cover pool b

  bucket_in : (j : ℕ) → j < entries_of h → (b : ℕ) → bucket_cover old h b j + touched b ≤ all_cover old h pool b
  unfolding all_cover touched
  bucket_in j lj b =
      let s = bucket_in_all old h j next pool (slots_at (block_of old h j) h.elems) [] lj file.space (λ p e. ap (count p) (sym (append-nil (slots_at (block_of old h j) h.elems)))) b in
      omega (arith, s)

  bucket_free : (j : ℕ) → j < entries_of h → (b : ℕ) → 0 < bucket_cover old h b j → touched b ≡ 0
  bucket_free j lj b some = let o = file.space.once b in let c = bucket_in j lj b in omega (arith, o, c, some)

  dir_free : (b : ℕ) → has_byte (extent h.dir (8 * entries_of h)) b ≡ true → touched b ≡ 0
  unfolding all_cover touched
  dir_free b has =
      let o = file.space.once b in
      let d : one_if (has_byte (extent h.dir (8 * entries_of h)) b) ≡ 1 = rw has refl in
      omega (arith, o, d)

  keeps : KeepsBut touched old new
  unfolding touched
  keeps = change.keeps

  entries : (j : ℕ) → j < entries_of h → entry_at new h j ≡ entry_at old h j
  unfolding entry_at i64_at u64_at
  entries j lj =
      let d = file.dir in
      let same = keeps.bytes (h.dir + 8 * j) 8 (omega (arith, d, lj)) (λ b low high. dir_free b (has_in h.dir (8 * entries_of h) b (omega (arith, low)) (omega (arith, high, lj)))) in
      rw same refl

  blocks_same : (j : ℕ) → j < entries_of h → block_of new h j ≡ block_of old h j
  unfolding block_of
  blocks_same j lj =
      let ends = within_ends (entry_at old h j) (length old - h.block) (file.parts.dir.in_file j lj) in
      let fits = file.parts.dir.block_fits in
      ap (λ (z : ℤ). bytes_at new (natural z) h.block) (entries j lj)
      ∙ keeps.bytes (natural (entry_at old h j)) h.block (omega (arith, ends, fits))
      (λ b low high. bucket_free j lj b (block_counts old h j next pool [] (slots_at (block_of old h j) h.elems) lj file.space (λ p e. refl) b j (has_in (natural (entry_at old h j)) h.block b low high)))

  records_same : (j : ℕ) → j < entries_of h → AllByRecursion (IsRecordKept old new) (slots_at (block_of old h j) h.elems)
  records_same j lj =
      slots_kept touched old new keeps (bits_at (block_of old h j)) (j / run_at old h j) (slots_at (block_of old h j) h.elems)
      (of_bucket old h (block_of old h j) (j / run_at old h j) (file.parts.buckets j lj)).good
      (λ b some. bucket_free j lj b (slots_count old h j next pool [] (slots_at (block_of old h j) h.elems) lj file.space (λ p e. refl) b j some))

  runs_same : (j : ℕ) → j < entries_of h → run_at new h j ≡ run_at old h j
  unfolding run_at
  runs_same j lj = ap (λ (x : List ℕ). 2 ^ (h.dir_bits - bits_at x)) (blocks_same j lj)

  pub parts_new : HasParts new h
  parts_new =
      let longer = keeps.longer in
      record {
        dir = record {
          block_fits = let a = file.parts.dir.block_fits in omega (arith, a, longer);
          in_file = λ j lj. rw (entries j lj) (within_longer (entry_at old h j) (length old - h.block) (length new - h.block) (omega (arith, longer)) (file.parts.dir.in_file j lj));
          one_run = λ i j li lj. rw (entries i li, entries j lj, runs_same i li) (file.parts.dir.one_run i j li lj);
        };
        buckets =
            λ j lj.
            rw (blocks_same j lj, runs_same j lj)
            (still_right old new h (block_of old h j) (j / run_at old h j) file.bits longer (bits_within old h file.parts j lj) (file.parts.buckets j lj) (records_same j lj));
      }

  covers_same : (b j : ℕ) → j < entries_of h → bucket_cover new h b j ≡ bucket_cover old h b j
  unfolding bucket_cover free_of
  covers_same b j lj = rw (entries j lj, blocks_same j lj) refl

  bounded : (b : ℕ) → all_cover new h pool' b ≤ all_cover old h pool b + grown next next' b
  unfolding all_cover
  bounded b =
      let s = sum_same (is_first new h) (is_first old h) (bucket_cover new h b) (bucket_cover old h b) (entries_of h) (first_same old new h entries) (λ j lj p. covers_same b j lj) in
      let m = change.moves b in
      omega (arith, s, m)

  pub space_new : IsSpaceRight new h next' pool'
  space_new =
      record {
        once =
            λ b.
            let bound = bounded b in
            let o = file.space.once b in
            let g = grown-le next next' b in
            elim (cases_lt 0 (grown next next' b)) [
              | inl some ↦
                  let past = grown-some next next' b some in
                  elim (cases_lt 0 (all_cover old h pool b)) [
                    | inl there ↦ let lt = file.space.below b there in absurd (omega (arith, past, lt))
                    | inr none ↦ omega (arith, bound, g, none)
                  ]
              | inr none ↦ omega (arith, bound, o, none)
            ];
        below =
            λ b some.
            let bound = bounded b in
            let grows = change.grows in
            elim (cases_lt 0 (all_cover old h pool b)) [
              | inl there ↦ let lt = file.space.below b there in omega (arith, lt, grows)
              | inr none ↦ let past = grown-some next next' b (omega (arith, bound, some, none)) in past.1
            ];
      }

  pub lists_same : (h' : Header) → IsSameShape h h' → joined (is_first new h') (bucket_of new h') (entries_of h') ≡ joined (is_first old h) (bucket_of old h) (entries_of h)
  unfolding bucket_of
  lists_same h' shape =
      let e = ap (λ (n : ℕ). joined (is_first new h') (bucket_of new h') (2 ^ n)) shape.bits in
      e
      ∙ joined_same (is_first new h') (is_first old h) (bucket_of new h') (bucket_of old h) (entries_of h) (λ k lt. same_first new h h' shape k ∙ first_same old new h entries k lt)
      (λ k lt.
      ap (λ (b : List ℕ). slot_records new (slots_at b h'.elems)) (block_shape new h h' shape k ∙ blocks_same k lt)
      ∙ ap (λ (n : ℕ). slot_records new (slots_at (block_of old h k) n)) shape.elems
      ∙ kept_records old new (slots_at (block_of old h k) h.elems) (records_same k lt))

module _ (old new : List ℕ) (blocks : List StackBlock) (sound : IsSound old) (wrote : SpaceWritten new blocks) (shape : IsSameShape (header_of (front_of old)) (header_of (front_of new))) (change : BesideChange old new (header_of (front_of old)) (header_of (front_of old)).next_block (header_of (front_of new)).next_block (pool_of old (header_of (front_of old))) (extents_at (table_of new (header_of (front_of new))) ++ stack_extents blocks)) where
  abbrev h : Header
  h = header_of (front_of old)

  abbrev h' : Header
  h' = header_of (front_of new)

  abbrev pool' : List Extent
  pool' = extents_at (table_of new h') ++ stack_extents blocks

  file : IsSoundFile old h h.next_block (pool_of old h)
  file = file_is old sound

  free_beside : (j : ℕ) → j < entries_of h' → is_free_right new h' (natural (entry_at new h' j)) ≡ true
  unfolding block_of
  free_beside j lt =
      let lj : j < entries_of h = let e = ap (λ (n : ℕ). 2 ^ n) shape.bits in omega (arith, lt, e) in
      let e : entry_at new h' j ≡ entry_at old h j = entry_shape new h h' shape j ∙ entries old new h h.next_block h'.next_block (pool_of old h) pool' file change j lj in
      let f : bytes_at new (natural (entry_at new h j)) h.block ≡ bytes_at old (natural (entry_at old h j)) h.block = blocks_same old new h h.next_block h'.next_block (pool_of old h) pool' file change j lj in
      let g : bytes_at new (natural (entry_at old h j)) h'.block ≡ bytes_at old (natural (entry_at old h j)) h.block =
      ap (bytes_at new (natural (entry_at old h j))) shape.block
      ∙ ap (λ (z : ℤ). bytes_at new (natural z) h.block) (sym (entries old new h h.next_block h'.next_block (pool_of old h) pool' file change j lj)) ∙ f in
      ap (λ (z : ℤ). is_free_right new h' (natural z)) e ∙ same_free old new h h' (natural (entry_at old h j)) g ∙ old_free old sound j lj

  pub beside_sound : IsSound new × (records new ≡ records old)
  beside_sound = (
    sound_from new blocks wrote (parts_shape new h h' shape (parts_new old new h h.next_block h'.next_block (pool_of old h) pool' file change))
        (space_shape new h h' shape h'.next_block pool' (space_new old new h h.next_block h'.next_block (pool_of old h) pool' file change)) free_beside,
    records_joined new ∙ lists_same old new h h.next_block h'.next_block (pool_of old h) pool' file change h' shape ∙ sym (records_joined old),
  )
