-- A table that was recut, with the bucket that gave room for what was pushed: both are written, and the file is sound.
use Rattle.std.proofs.Common.{◌≡◌, ◌≢◌, ℕ, zero, suc, ◌+◌, ◌-◌, ◌/◌, ◌^◌, ◌<◌, ◌≤◌, Bool, true, false, List, [], ◌∷◌, ◌++◌, length, None, refl, sym, ap, subst, ◌∙◌, inl, inr, arith}
use Rattle.std.specs.Prelude.{ℤ, nat_le, nat_lt, ◌&&◌}
use Rattle.std.specs.List.{AllByRecursion}
use Rattle.std.proofs.lemmas.Bool.{cases_lt}
use Rattle.std.proofs.lemmas.Bool.Decides.{nat_tests}
use Rattle.std.proofs.lemmas.List.Elements.{All-from_recursion}
use Rattle.gd_format.specs.declared.Extent.{Extent}
use Rattle.gd_format.specs.declared.Header.{Header}
use Rattle.gd_format.specs.declared.Slot.{Slot}
use Rattle.gd_format.specs.Field.{bytes_at}
use Rattle.gd_format.specs.HeaderFault.{natural, header_of, header_fault_of}
use Rattle.gd_format.specs.Bucket.{Bucket, bucket_at, slots_at, is_bucket}
use Rattle.gd_format.specs.Avail.{Avail, avail_at, extents_at, next_at, is_avail}
use Rattle.gd_format.specs.File.{front_of, entry_at, entries_of, block_of, run_at, bits_at, is_first, is_count_right, records}
use Rattle.gd_format.specs.Slots.{count, AreReached}
use Rattle.gd_format.specs.Sound.{IsSound, extent, table_of, top_of, most_of, is_free_right, lost_total}
use Rattle.gd_format.specs.Covers.{has_byte, cover, size_sum}
use Rattle.gd_format.specs.FreeSide.{StackBlock, IsBelow, IsStack, IsFreeSide, stack_extents, free_extents}
use Rattle.gd_format.proofs.Covers.{all-left, all-right, cover-append}
use Rattle.gd_layout.specs.Fits.{FitsExtent, IsHeaderOf}
use Rattle.gd_file_laws.specs.Frame.{written}
use Rattle.gd_file_laws.specs.Parts.{HasParts}
use Rattle.gd_file_laws.proofs.Headers.{header_in}
use Rattle.gd_file_laws.proofs.Lists.{bool_cases}
use Rattle.gd_space.specs.Calls.{free_lists}
use Rattle.gd_space.specs.Effect as space
use Rattle.gd_space.proofs.Sides.{cover-past}
use Rattle.gd_map_laws.specs.Lookup.{slot_records}
use Rattle.gd_map_laws.specs.Slots.{AreSlotsRight}
use Rattle.gd_map_laws.specs.Update.{IsSameShape, FileChange}
use Rattle.gd_map_laws.specs.Space.{one_if, free_in, free_of, block_has, all_cover, grown, IsSpaceRight, SpaceChange}
use Rattle.gd_map_laws.specs.Frame.{KeepsBut, touched_of, Stays}
use Rattle.gd_map_laws.specs.Change.{IsSoundFile, place_of}
use Rattle.gd_map_laws.specs.Sounds.{IsSoundBy, pool_of}
use Rattle.gd_map_laws.specs.Sums.{sum_below}
use Rattle.gd_map_laws.specs.Writes.{LastWrites, WritesRead}
use Rattle.gd_map_laws.proofs.Lists.{joined, joined_yes, joined_no}
use Rattle.gd_map_laws.proofs.Lookup.{bucket_of, records_joined}
use Rattle.gd_map_laws.proofs.Slots.{of_bucket}
use Rattle.gd_map_laws.proofs.Update.{kept_records}
use Rattle.gd_map_laws.proofs.FileUpdate.{entry_shape, block_shape, file_changed}
use Rattle.gd_map_laws.proofs.OneKey.{entry_cases}
use Rattle.gd_map_laws.proofs.Space.{first_same, space_changed, whole, grown-some}
use Rattle.gd_map_laws.proofs.Find.{grown_is_extent}
use Rattle.gd_map_laws.proofs.Stays.{stays, keeps_join, write_keeps, touched-le, bucket_in_all}
use Rattle.gd_map_laws.proofs.Change.{keeps_weaker, same_first, space_shape, all_shape}
use Rattle.gd_map_laws.proofs.Side.{side_kept}
use Rattle.gd_map_laws.proofs.Sounds.{sound_blocks, makes_sound, below_is_right, stack_pool, cover_is}
use Rattle.gd_map_laws.proofs.Sums.{sum_add, sum_even, cover_sum, held_sum}
use Rattle.gd_map_laws.proofs.Whole.{same_free}
use Rattle.gd_map_laws.proofs.WholeSplit.{old_free}
use Rattle.gd_map_laws.proofs.Writes.{writes_read}
use Rattle.gd_map_laws.proofs.Fronts.{front_read}
use Rattle.gd_numsync.specs.Open.{AreFit, IsOpenOn}
use Rattle.gd_numsync.specs.Spells.{SpellsFront}
use Rattle.gd_numsync.proofs.Fronts.{lost_is}

joined_same : {A : Type 0} (p q : ℕ → Bool) (f g : ℕ → List A) (n : ℕ) → ((k : ℕ) → k < n → p k ≡ q k) → ((k : ℕ) → k < n → f k ≡ g k) → joined p f n ≡ joined q g n
unfolding joined
joined_same p q f g zero pq fg = refl
joined_same p q f g (suc n) pq fg =
    let ih = joined_same p q f g n (λ k lt. pq k (omega arith)) (λ k lt. fg k (omega arith)) in
    let e = pq n (omega arith) in
    bool_cases (p n)
    (λ t. joined_yes p f n t ∙ rw (ih, fg n (omega arith)) refl ∙ sym (joined_yes q g n (sym e ∙ t)))
    (λ u. joined_no p f n u ∙ ih ∙ sym (joined_no q g n (sym e ∙ u)))

none_in : (b : ℕ) → one_if (has_byte (extent 0 0) b) ≡ 0
none_in b = let e : (nat_le 0 b && nat_lt b 0) ≡ false = grind (arith, nat_tests) in rw e refl

fit_below : (next : ℕ) (es : List Extent) → next ≤ 2 ^ 46 → AllByRecursion (IsBelow next) es → AllByRecursion FitsExtent es
fit_below next [] le below = below
fit_below next (e ∷ es) le below =
    let ends = below.0.ends in
    (record { some = below.0.some; size = below.0.fits; at = omega (arith, ends, le) }, fit_below next es le below.1)

module _ (file mid block front : List ℕ) (h1 : Header) (i : ℕ) (table' : Avail) (bucket' : Bucket) (blocks' : List StackBlock) (lost : ℕ) (sound : IsSound file) (li : i < entries_of (header_of (front_of file)))
    (change : space.Change file mid (header_of (front_of file)) h1 (top_of file (header_of (front_of file))) table'.next_block (free_lists (extents_at (table_of file (header_of (front_of file)))) (sound_blocks file sound).0 (free_of file (header_of (front_of file)) i)) (free_lists table'.extents blocks' bucket'.free) [] [] lost)
    (shape : IsSameShape (header_of (front_of file)) h1) (block_size : length block ≡ (header_of (front_of file)).block) (front_size : length front ≡ h1.block) where
  abbrev h : Header
  h = header_of (front_of file)

  abbrev blocks : List StackBlock
  blocks = (sound_blocks file sound).0

  by : IsSoundBy file h blocks
  by = (sound_blocks file sound).1

  abbrev pool : List Extent
  pool = extents_at (table_of file h) ++ stack_extents blocks

  abbrev pool' : List Extent
  pool' = table'.extents ++ stack_extents blocks'

  abbrev slots : List Slot
  slots = slots_at (block_of file h i) h.elems

  abbrev new : List ℕ
  new = written (written mid (place_of file h i) block) 0 front

  before_cover : (b : ℕ) → cover (free_extents (free_lists (extents_at (table_of file h)) blocks (free_of file h i))) b ≡ cover pool b + cover (free_of file h i) b
  before_cover b = cover-append pool (free_of file h i) b

  after_cover : (b : ℕ) → cover (free_extents (free_lists table'.extents blocks' bucket'.free)) b ≡ cover pool' b + cover bucket'.free b
  after_cover b = cover-append pool' bucket'.free b

  writes : LastWrites file mid h i h.next_block h1.next_block pool [] slots block front 0 []
  writes = record {
    sound = by.file_is;
    below = li;
    before = λ p e. refl;
    keeps = record {
      longer = change.keeps.longer;
      bytes = λ at n fits clear. change.keeps.bytes at n fits (λ b low high.
          let z = clear b low high in
          let a = cover-append (free_extents (free_lists (extents_at (table_of file h)) blocks (free_of file h i))) [] b in
          let c = before_cover b in
          omega (arith, z, a, c));
    };
    block_size = block_size;
    front_size = front_size ∙ shape.block;
    reads = refl;
    free = λ b. let z = none_in b in omega (arith, z);
  }

  read : WritesRead file mid new h i pool [] block front 0 []
  read = writes_read file mid h i h.next_block h1.next_block pool [] slots block front 0 [] writes

  st : Stays file new h i slots
  st = stays file new h i h.next_block pool [] slots li by.file_is.dir by.file_is.parts by.file_is.space (λ p e. refl) read.keeps

  block_new : block_of new h i ≡ block
  unfolding block_of
  block_new = ap (λ (z : ℤ). bytes_at new (natural z) h.block) (st.entries i li) ∙ read.block_reads

  moves : (b : ℕ) → cover pool' b + cover bucket'.free b ≤ cover pool b + cover (free_of file h i) b + grown h.next_block h1.next_block b
  moves b =
      let m = change.moves.bytes b in
      let g = grown_is_extent h.next_block h1.next_block b change.moves.grows in
      let c = before_cover b in
      let d = after_cover b in
      omega (arith, m, g, c, d)

  module _ (reads : bucket_at block h.elems ≡ bucket') (right : is_bucket block h.elems ≡ true) (number : is_count_right block h.elems ≡ true) (slots_same : bucket'.slots ≡ slots_at (block_of file h i) h.elems) (bits_same : bucket'.bits ≡ bits_at (block_of file h i)) where
    free_new : free_of new h i ≡ bucket'.free
    unfolding free_of bucket_at
    free_new = ap free_in block_new ∙ ap (λ (x : Bucket). x.free) reads

    slots_new : slots_at (block_of new h i) h.elems ≡ slots
    unfolding bucket_at
    slots_new = ap (λ (x : List ℕ). slots_at x h.elems) block_new ∙ ap (λ (x : Bucket). x.slots) reads ∙ slots_same

    bits_new : bits_at (block_of new h i) ≡ bits_at (block_of file h i)
    unfolding bucket_at
    bits_new = ap bits_at block_new ∙ ap (λ (x : Bucket). x.bits) reads ∙ bits_same

    space_change : SpaceChange file new h i [] [] slots h.next_block h1.next_block pool pool'
    space_change = record {
      entries = st.entries;
      others = λ j lj ne. (st.others j lj ne).block;
      before_is = λ p e. refl;
      after_is = λ p e. ap (count p) slots_new;
      grows = change.moves.grows;
      moves = λ b. let m = moves b in let f = ap (λ (l : List Extent). cover l b) free_new in omega (arith, m, f);
    }

    space_now : IsSpaceRight new h h1.next_block pool'
    space_now = space_changed file new h i [] [] slots h.next_block h1.next_block pool pool' li by.file_is.space space_change

    was : AreSlotsRight file (bits_at (block_of file h i)) (i / run_at file h i) h.elems slots
    was = of_bucket file h (block_of file h i) (i / run_at file h i) (by.file_is.parts.buckets i li)

    file_change : FileChange file new h i [] [] slots
    file_change = record {
      longer = read.keeps.longer;
      entries = st.entries;
      others = st.others;
      bits = bits_new;
      fields = ap (λ (x : List ℕ). is_bucket x h.elems) block_new ∙ right;
      number = ap (λ (x : List ℕ). is_count_right x h.elems) block_new ∙ number;
      slots = record {
        before_is = λ p e. refl;
        after_is = λ p e. ap (count p) slots_new;
        kept = st.kept;
        good = refl;
        once = was.once;
        reached = subst (λ (l : List Slot). AreReached l h.elems) (sym slots_new) was.reached;
      };
    }

    parts : HasParts new h1
    parts = (file_changed file new h h1 i [] [] slots by.file_is.bits by.file_is.parts li shape file_change).parts

    -- ---- the records

    records_at : (k : ℕ) → k < entries_of h → slot_records new (slots_at (block_of new h k) h.elems) ≡ slot_records file (slots_at (block_of file h k) h.elems)
    unfolding block_of
    records_at k lk =
        entry_cases (entry_at file h k) (entry_at file h i)
        (λ same.
        let a : block_of new h k ≡ block_of new h i = ap (λ (z : ℤ). bytes_at new (natural z) h.block) (st.entries k lk ∙ same ∙ sym (st.entries i li)) in
        let c : block_of file h k ≡ block_of file h i = ap (λ (z : ℤ). bytes_at file (natural z) h.block) same in
        ap (λ (x : List ℕ). slot_records new (slots_at x h.elems)) a ∙ ap (slot_records new) slots_new ∙ kept_records file new slots st.kept
        ∙ ap (λ (x : List ℕ). slot_records file (slots_at x h.elems)) (sym c))
        (λ ne.
        ap (λ (x : List ℕ). slot_records new (slots_at x h.elems)) (st.others k lk ne).block
        ∙ kept_records file new (slots_at (block_of file h k) h.elems) (st.others k lk ne).records)

    lists_same : joined (is_first new h1) (bucket_of new h1) (entries_of h1) ≡ joined (is_first file h) (bucket_of file h) (entries_of h)
    unfolding bucket_of
    lists_same =
        ap (λ (n : ℕ). joined (is_first new h1) (bucket_of new h1) (2 ^ n)) shape.bits
        ∙ joined_same (is_first new h1) (is_first file h) (bucket_of new h1) (bucket_of file h) (entries_of h) (λ k lk. same_first new h h1 shape k ∙ first_same file new h st.entries k lk)
        (λ k lk.
        ap (λ (x : List ℕ). slot_records new (slots_at x h1.elems)) (block_shape new h h1 shape k)
        ∙ ap (λ (n : ℕ). slot_records new (slots_at (block_of new h k) n)) shape.elems ∙ records_at k lk)

    -- ---- the header's block

    module _ (spells : SpellsFront h1 table' front) (fit : AreFit h1 table' (length front)) where
      large : 80 ≤ h1.block
      large = let s = (header_in (front_of file) (length file) by.header).least in let b = shape.block in omega (arith, s, b)

      front_reads : bytes_at new 0 h1.block ≡ front
      front_reads = ap (bytes_at new 0) shape.block ∙ read.front_reads

      of_file : IsHeaderOf h1 (length new)
      of_file =
          let longer = read.keeps.longer in
          let fits = by.file_is.parts.dir.block_fits in
          let b = shape.block in
          let d = by.file_is.dir in
          let at = shape.dir in
          let bits = ap (λ (n : ℕ). 2 ^ n) shape.bits in
          record { header = fit.header; magic = fit.native; block = omega (arith, longer, fits, b); dir = omega (arith, longer, d, at, bits) }

      no_fault : header_fault_of (front_of new) (length new) ≡ None
      no_fault = ap (λ (x : List ℕ). header_fault_of x (length new)) (front_read new front h1 large front_reads).front_is ∙ spells.fault (length new) of_file

      header_new : header_of (front_of new) ≡ h1
      header_new = ap header_of (front_read new front h1 large front_reads).front_is ∙ spells.reads

      table_at : table_of new h1 ≡ table_of front h1
      table_at = (front_read new front h1 large front_reads).table_is

      extents_new : extents_at (table_of new h1) ≡ table'.extents
      unfolding avail_at
      extents_new = ap extents_at table_at ∙ ap (λ (a : Avail). a.extents) spells.table_is

      top_new : top_of new h1 ≡ table'.next_block
      unfolding avail_at
      top_new = ap next_at table_at ∙ ap (λ (a : Avail). a.next_block) spells.table_is

      table_new : table' ≡ avail_at (table_of new h1) (most_of h1)
      table_new = sym (ap (λ (xs : List ℕ). avail_at xs (most_of h1)) table_at ∙ ap (avail_at (table_of front h1)) (sym fit.table_room) ∙ spells.table_is)

      below_all : AllByRecursion (IsBelow h1.next_block) pool'
      below_all = all-left (IsBelow h1.next_block) pool' bucket'.free change.side.below

      table_right : is_avail (table_of new h1) h1.avail_size ≡ true
      table_right =
          let low = fit.header.next_block in
          let fits = fit_below h1.next_block table'.extents (omega (arith, low)) (all-left (IsBelow h1.next_block) table'.extents (stack_extents blocks') below_all) in
          ap (λ (x : List ℕ). is_avail x h1.avail_size) table_at ∙ spells.right (All-from_recursion FitsExtent table'.extents fits) h1.avail_size fit.table_fits

      -- what was written behind the recut
      two_keep : KeepsBut (λ b. one_if (block_has file h i b) + one_if (has_byte (extent 0 h.block) b)) mid new
      two_keep =
          keeps_weaker (λ b. one_if (has_byte (extent (place_of file h i) (length block)) b) + one_if (has_byte (extent 0 (length front)) b)) _ mid new
          (λ x lt z.
          let here = ap (λ (n : ℕ). one_if (has_byte (extent (place_of file h i) n) x)) block_size in
          let head = ap (λ (n : ℕ). one_if (has_byte (extent 0 n) x)) (front_size ∙ shape.block) in
          omega (arith, z, here, head))
          (keeps_join (λ b. one_if (has_byte (extent (place_of file h i) (length block)) b)) (λ b. one_if (has_byte (extent 0 (length front)) b)) _ mid (written mid (place_of file h i) block) new
          (λ x lt z. (omega (arith, z), omega (arith, z))) (write_keeps mid (place_of file h i) block) (write_keeps (written mid (place_of file h i) block) 0 front))

      -- no extent of the free side meets it
      two_free : (b : ℕ) → 0 < cover (free_extents (free_lists table'.extents blocks' bucket'.free)) b → one_if (block_has file h i b) + one_if (has_byte (extent 0 h.block) b) ≡ 0
      unfolding all_cover touched_of
      two_free b some =
          let m = moves b in
          let d = after_cover b in
          let o = by.file_is.space.once b in
          let t = touched-le file h i h.next_block pool [] slots li by.file_is.space (λ p e. refl) b in
          let s = bucket_in_all file h i h.next_block pool [] slots li by.file_is.space (λ p e. refl) b in
          elim (cases_lt 0 (cover pool b + cover (free_of file h i) b)) [
            | inl there ↦ omega (arith, o, t, s, there)
            | inr none ↦
                let past = grown-some h.next_block h1.next_block b (omega (arith, m, d, some, none)) in
                elim (cases_lt 0 (all_cover file h pool b)) [
                  | inl used ↦ let lt = by.file_is.space.below b used in let low = past.0 in absurd (omega (arith, lt, low))
                  | inr unused ↦ omega (arith, unused, t, s)
                ]
          ]

      most_same : most_of h1 ≡ most_of h
      most_same = ap (λ (n : ℕ). (n - 56) / 16) shape.block

      short : length new ≤ h1.next_block
      short = let a = read.size in let b = change.side.short in omega (arith, a, b)

      side_new : IsFreeSide new h1 table'.next_block (free_lists table'.extents blocks' bucket'.free)
      side_new = side_kept (λ b. one_if (block_has file h i b) + one_if (has_byte (extent 0 h.block) b)) mid new h1 table'.next_block (free_lists table'.extents blocks' bucket'.free) two_keep two_free short change.side

      place_at : bytes_at new (place_of file h i) h1.block ≡ block
      place_at = ap (bytes_at new (place_of file h i)) shape.block ∙ read.block_reads

      free_here : is_free_right new h1 (place_of file h i) ≡ true
      unfolding free_of bucket_at
      free_here =
          let low = fit.header.next_block in
          below_is_right new h1 (place_of file h i) h1.next_block (omega (arith, low))
          (subst (AllByRecursion (IsBelow h1.next_block)) (sym (ap free_in place_at ∙ ap (λ (x : Bucket). x.free) reads)) (all-right (IsBelow h1.next_block) pool' bucket'.free change.side.below))

      free_there : (j : ℕ) → j < entries_of h → entry_at file h j ≢ entry_at file h i → is_free_right new h1 (natural (entry_at file h j)) ≡ true
      unfolding block_of
      free_there j lj ne =
          let e : bytes_at new (natural (entry_at file h j)) h1.block ≡ bytes_at file (natural (entry_at file h j)) h.block =
          ap (bytes_at new (natural (entry_at file h j))) shape.block
          ∙ ap (λ (z : ℤ). bytes_at new (natural z) h.block) (sym (st.entries j lj)) ∙ (st.others j lj ne).block in
          same_free file new h h1 (natural (entry_at file h j)) e ∙ old_free file sound j lj

      free_all : (j : ℕ) → j < entries_of h1 → is_free_right new h1 (natural (entry_at new h1 j)) ≡ true
      free_all j lt =
          let lj : j < entries_of h = let e = ap (λ (n : ℕ). 2 ^ n) shape.bits in omega (arith, lt, e) in
          ap (λ (z : ℤ). is_free_right new h1 (natural z)) (entry_shape new h h1 shape j ∙ st.entries j lj)
          ∙ entry_cases (entry_at file h j) (entry_at file h i)
          (λ same. ap (λ (z : ℤ). is_free_right new h1 (natural z)) same ∙ free_here)
          (λ ne. free_there j lj ne)

      pools_are : pool' ≡ extents_at (table_of new h1) ++ stack_extents blocks'
      pools_are = ap (λ (l : List Extent). l ++ stack_extents blocks') (sym extents_new)

      stack_new : IsStack new (most_of h1) (top_of new h1) blocks'
      stack_new = subst (λ (t : ℕ). IsStack new (most_of h1) t blocks') (sym top_new) side_new.stack

      sound_by : IsSoundBy new h1 blocks'
      sound_by =
          let bits = by.file_is.bits in
          let e = shape.bits in
          let d = of_file.dir in
          record {
            header = no_fault;
            header_is = header_new;
            file_is = subst (λ (p : List Extent). IsSoundFile new h1 h1.next_block p) pools_are
                (record { bits = omega (arith, bits, e); dir = omega (arith, d); short = short; parts = parts; space = space_shape new h h1 shape h1.next_block pool' space_now });
            table = table_right;
            stack = stack_new;
            free = free_all;
          }

      sound_new : IsSound new
      sound_new = makes_sound new h1 blocks' sound_by

      records_same : records new ≡ records file
      records_same =
          records_joined new
          ∙ ap (λ (k : Header). joined (is_first new k) (bucket_of new k) (entries_of k)) header_new
          ∙ lists_same ∙ sym (records_joined file)

      pub is_open : IsOpenOn h1 table' new
      is_open = record { sound = sound_new; header = sym header_new; table_is = table_new }

      pub same : records new ≡ records file
      same = records_same

      -- ---- what is lost

      in_first : (b : ℕ) → 0 < cover (free_extents (free_lists (extents_at (table_of file h)) blocks (free_of file h i))) b → b < h1.next_block
      unfolding all_cover touched_of
      in_first b some =
          let c = before_cover b in
          let t = touched-le file h i h.next_block pool [] slots li by.file_is.space (λ p e. refl) b in
          let s = bucket_in_all file h i h.next_block pool [] slots li by.file_is.space (λ p e. refl) b in
          let grows = change.moves.grows in
          let lt = by.file_is.space.below b (omega (arith, c, some, t, s)) in
          omega (arith, lt, grows)

      in_second : (b : ℕ) → 0 < cover (free_extents (free_lists table'.extents blocks' bucket'.free)) b → b < h1.next_block
      in_second b some =
          elim (cases_lt b h1.next_block) [
            | inl lt ↦ lt
            | inr past ↦ let z = cover-past h1.next_block (free_extents (free_lists table'.extents blocks' bucket'.free)) b change.side.below past in absurd (omega (arith, z, some))
          ]

      at_byte : (b : ℕ) → all_cover new h pool' b + cover (free_extents (free_lists (extents_at (table_of file h)) blocks (free_of file h i))) b ≡ all_cover file h pool b + cover (free_extents (free_lists table'.extents blocks' bucket'.free)) b
      at_byte b =
          let w = whole file new h i [] [] slots h.next_block h1.next_block pool pool' li by.file_is.space space_change b in
          let c = before_cover b in
          let d = after_cover b in
          let f = ap (λ (l : List Extent). cover l b) free_new in
          omega (arith, w, c, d, f)

      sums : sum_below (all_cover new h pool') h1.next_block + size_sum (free_extents (free_lists (extents_at (table_of file h)) blocks (free_of file h i)))
          ≡ sum_below (all_cover file h pool) h1.next_block + size_sum (free_extents (free_lists table'.extents blocks' bucket'.free))
      sums =
          let grows = change.moves.grows in
          let one = cover_sum (free_extents (free_lists (extents_at (table_of file h)) blocks (free_of file h i))) h1.next_block (λ b some. in_first b some) in
          let two = cover_sum (free_extents (free_lists table'.extents blocks' bucket'.free)) h1.next_block (λ b some. in_second b some) in
          let left = sum_add (all_cover new h pool') (cover (free_extents (free_lists (extents_at (table_of file h)) blocks (free_of file h i)))) h1.next_block in
          let right_ = sum_add (all_cover file h pool) (cover (free_extents (free_lists table'.extents blocks' bucket'.free))) h1.next_block in
          let even = sum_even (λ b. all_cover new h pool' b + cover (free_extents (free_lists (extents_at (table_of file h)) blocks (free_of file h i))) b) (λ b. all_cover file h pool b + cover (free_extents (free_lists table'.extents blocks' bucket'.free)) b) h1.next_block (λ b. at_byte b) in
          omega (arith, one, two, left, right_, even)

      pub lost_most : lost_total new ≤ lost_total file + lost
      lost_most =
          let pools_new : pool_of new h1 ≡ pool' = stack_pool new h1 blocks' stack_new (λ b. let o = change.side.once b in let d = after_cover b in let a = cover-append table'.extents (stack_extents blocks') b in omega (arith, o, d, a)) ∙ sym pools_are in
          let a = lost_is new h1 pool' sound_new header_new pools_new in
          let b = lost_is file h pool sound refl (sound_blocks file sound).2 in
          let s = sums in
          let m = change.moves.most in
          let grows = change.moves.grows in
          let shapes = sum_even (all_cover new h1 pool') (all_cover new h pool') h1.next_block (λ x. all_shape new h h1 shape pool' x) in
          let held = held_sum file h h.next_block pool by.file_is.space (λ x. cover_is file h x ∙ ap (λ (l : List Extent). all_cover file h l x) (sound_blocks file sound).2) in
          let wide = held h1.next_block grows in
          let near = held h.next_block (omega arith) in
          omega (arith, a, b, s, m, grows, shapes, wide, near)
