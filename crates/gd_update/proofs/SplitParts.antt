-- A split by what it writes.
use Rattle.std.proofs.Common.{◌≡◌, ◌≢◌, ℕ, ◌+◌, ◌-◌, ◌*◌, ◌^◌, ◌<◌, ◌≤◌, List, [], length, refl, sym, ap, ◌∙◌, inl, inr, arith}
use Rattle.std.specs.Prelude.{ℤ, pos, ◌/◌, ◌%◌}
use Rattle.std.specs.List.{AllByRecursion}
use Rattle.std.proofs.lemmas.Bool.{cases_lt, cases_eq}
use Rattle.std.proofs.lemmas.Bool.Decides.{nat_tests}
use Rattle.gd_file_laws.proofs.Lists.{bool_cases}
use Rattle.std.proofs.lemmas.Nat.{shr-shr, pow-add, pow_pos, div-mul-add, div-add-mod'}
use Rattle.std.proofs.Math.Nat.{div-lt_iff_lt-mul}
use Rattle.gd_format.specs.declared.Extent.{Extent}
use Rattle.gd_format.specs.declared.Header.{Header}
use Rattle.gd_format.specs.Field.{bytes_at, i64_at, u64_at}
use Rattle.gd_format.specs.HeaderFault.{natural}
use Rattle.gd_format.specs.Bucket.{Bucket, bucket_at, slots_at, is_bucket}
use Rattle.gd_format.specs.File.{bits_at, entry_at, entries_of, run_at, block_of, is_count_right}
use Rattle.gd_format.specs.Slots.{count, AreReached, is_astray}
use Rattle.gd_format.specs.Sound.{extent}
use Rattle.gd_format.specs.Covers.{has_byte, cover}
use Rattle.gd_format.specs.FreeSide.{FreeLists, IsBelow, IsFreeSide, free_extents}
use Rattle.gd_file_laws.specs.Frame.{written}
use Rattle.gd_map_laws.specs.Update.{IsSameShape}
use Rattle.gd_map_laws.specs.Space.{one_if, free_in, free_of, block_has, bucket_cover, all_cover, grown, IsSpaceRight}
use Rattle.gd_map_laws.specs.Frame.{KeepsBut, touched_of}
use Rattle.gd_map_laws.specs.Change.{place_of, IsSoundFile}
use Rattle.gd_map_laws.specs.Split.{SplitChange, MapStays}
use Rattle.gd_map_laws.specs.SplitSpace.{SplitMoves}
use Rattle.gd_map_laws.specs.SplitWrites.{HalfMade, SplitWritten}
use Rattle.gd_map_laws.proofs.Stays.{has_in, keeps_join, write_keeps, bucket_in_all, within_ends}
use Rattle.gd_map_laws.proofs.Change.{keeps_weaker, grown-none, space_shape, all_shape}
use Rattle.gd_map_laws.proofs.Space.{grown-some, grown-le}
use Rattle.gd_map_laws.proofs.Find.{grown_is_extent}
use Rattle.gd_map_laws.proofs.Put.{written_size, written_stays}
use Rattle.gd_map_laws.proofs.SplitWrites.{split_change}
use Rattle.gd_map_laws.proofs.Split.{split_stays}
use Rattle.gd_map_laws.proofs.SplitSpace.{split_space_right}
use Rattle.gd_map_laws.proofs.SplitSpace as splits
use Rattle.gd_map_laws.proofs.FileUpdate.{entry_shape, parts_shape, value_shape}
use Rattle.gd_map_laws.proofs.Side.{side_kept}
use Rattle.gd_map_laws.proofs.OneKey.{entry_cases}
use Rattle.gd_space.proofs.Tooks.{below-more}
use Rattle.gd_space.proofs.Sides.{cover-past}
use Rattle.gd_map_laws.specs.Sums.{sum_below}
use Rattle.gd_map_laws.proofs.Sums.{sum_add, sum_even, some_sum}
use Rattle.gd_update.specs.Held.{IsHeld, IsBucketOf, index_at, lost_in}
use Rattle.gd_open.specs.Spells.{SpellsBucket}
use Rattle.gd_update.specs.Halves.{next_bit}
use Rattle.gd_update.specs.Steps.{IsNext}
use Rattle.gd_update.specs.SplitLaws.{half_of, half_start, SplitMade, SplitGives}
use Rattle.gd_update.proofs.Pools.{sum_all, below_sum, cover_without, size_without, below_bucket, side_without, without, keeps_free}

-- a bucket as its block reads
pub bits_read : (block : List ℕ) (elems : ℕ) (b : Bucket) → bucket_at block elems ≡ b → bits_at block ≡ b.bits
unfolding bucket_at
bits_read block elems b e = ap (λ (x : Bucket). x.bits) e

pub free_read : (block : List ℕ) (elems : ℕ) (b : Bucket) → bucket_at block elems ≡ b → free_in block ≡ b.free
unfolding bucket_at
free_read block elems b e = ap (λ (x : Bucket). x.free) e

pub slots_read : (block : List ℕ) (elems : ℕ) (b : Bucket) → bucket_at block elems ≡ b → slots_at block elems ≡ b.slots
unfolding bucket_at
slots_read block elems b e = ap (λ (x : Bucket). x.slots) e

pub index_in : (h : Header) (hash : ℕ) → h.dir_bits ≤ 24 → hash < 2 ^ 31 → index_at h hash < entries_of h
index_in h hash le small =
    let p = pow_pos (31 - h.dir_bits) in
    let whole : h.dir_bits + (31 - h.dir_bits) ≡ 31 = omega arith in
    let all : 2 ^ h.dir_bits * 2 ^ (31 - h.dir_bits) ≡ 2 ^ 31 = sym (pow-add 2 h.dir_bits (31 - h.dir_bits)) ∙ ap (λ (x : ℕ). 2 ^ x) whole in
    let below : hash < 2 ^ h.dir_bits * 2 ^ (31 - h.dir_bits) = rw all small in
    (div-lt_iff_lt-mul {k = 2 ^ (31 - h.dir_bits)} {x = hash} {y = 2 ^ h.dir_bits} p).1 below

-- a half as its block reads
half_made : (h : Header) (bits side : ℕ) (old half : Bucket) (block : List ℕ) → length half.slots ≡ h.elems → half.bits ≡ bits + 1 → count (is_astray bits side) half.slots ≡ 0 → AreReached half.slots (length half.slots) → SpellsBucket half (length half.slots) block → HalfMade h bits side block
half_made h bits side old half block elems more parted reached spells =
    let reads : bucket_at block h.elems ≡ half = ap (bucket_at block) (sym elems) ∙ spells.reads in
    let slots = slots_read block h.elems half reads in
    record {
      bits_more = bits_read block h.elems half reads ∙ more;
      fields = ap (is_bucket block) (sym elems) ∙ spells.right;
      number = ap (is_count_right block) (sym elems) ∙ spells.count;
      parted = ap (count (is_astray bits side)) slots ∙ parted;
      reached = rw (slots, ← elems) reached;
    }

module _ (old mid new : List ℕ) (h h' : Header) (top top' : ℕ) (s s' : FreeLists) (hash at second_at : ℕ) (bucket first second : Bucket) (one two : List ℕ) (large : 512 ≤ h.block) (made : SplitMade old mid new h h' top top' s s' hash at second_at bucket first second one two) where
  abbrev i : ℕ
  i = index_at h hash

  abbrev bits : ℕ
  bits = bucket.bits

  abbrev half : ℕ
  half = half_of h bits

  abbrev start : ℕ
  start = half_start h hash bits

  abbrev q : ℕ
  q = hash / 2 ^ (31 - bits)

  abbrev next : ℕ
  next = h.next_block

  abbrev next' : ℕ
  next' = h'.next_block

  abbrev pool : List Extent
  pool = free_extents s

  abbrev pool' : List Extent
  pool' = free_extents (without s')

  taken : ℕ → ℕ
  taken b = one_if (has_byte (extent second_at h.block) b)

  here : ℕ → ℕ
  here b = one_if (has_byte (extent at h.block) b)

  run : ℕ → ℕ
  run b = one_if (has_byte (extent (h.dir + 8 * start) (8 * half)) b)

  dir : ℕ → ℕ
  dir b = one_if (has_byte (extent h.dir (8 * entries_of h)) b)

  file : IsSoundFile old h h.next_block (free_extents s)
  file = made.held.file_is

  li : index_at h hash < entries_of h
  li = index_in h hash file.bits made.small

  entry_here : entry_at old h (index_at h hash) ≡ pos at
  entry_here = made.bucket_is.entry

  block_here : block_of old h (index_at h hash) ≡ bytes_at old at h.block
  unfolding block_of
  block_here = ap (λ (z : ℤ). bytes_at old (natural z) h.block) made.bucket_is.entry

  bits_here : bits_at (block_of old h (index_at h hash)) ≡ bucket.bits
  bits_here = ap bits_at block_here ∙ bits_read (bytes_at old at h.block) h.elems bucket made.bucket_is.block

  free_here : free_of old h (index_at h hash) ≡ bucket.free
  unfolding free_of
  free_here = ap free_in block_here ∙ free_read (bytes_at old at h.block) h.elems bucket made.bucket_is.block

  slots_here : slots_at (block_of old h (index_at h hash)) h.elems ≡ bucket.slots
  slots_here = ap (λ (x : List ℕ). slots_at x h.elems) block_here ∙ slots_read (bytes_at old at h.block) h.elems bucket made.bucket_is.block

  place_here : (b : ℕ) → one_if (block_has old h (index_at h hash) b) ≡ here b
  unfolding here
  place_here b = ap (λ (z : ℤ). one_if (has_byte (extent (natural z) h.block) b)) made.bucket_is.entry

  half_pos : 0 < half
  half_pos = pow_pos (h.dir_bits - (bucket.bits + 1))

  run_twice : 2 ^ (h.dir_bits - bits) ≡ half * 2
  run_twice =
      let l = made.less in
      let e : h.dir_bits - bucket.bits ≡ h.dir_bits - (bucket.bits + 1) + 1 = omega (arith, l) in
      ap (λ (x : ℕ). 2 ^ x) e ∙ pow-add 2 (h.dir_bits - (bucket.bits + 1)) 1

  -- the place of the hash in the run
  q_is : index_at h hash / run_at old h (index_at h hash) ≡ q
  unfolding run_at
  q_is =
      let l = made.less in
      let d = file.bits in
      let whole : 31 - h.dir_bits + (h.dir_bits - bucket.bits) ≡ 31 - bucket.bits = omega (arith, l, d) in
      ap (λ (x : ℕ). index_at h hash / 2 ^ (h.dir_bits - x)) bits_here
      ∙ shr-shr hash (31 - h.dir_bits) (h.dir_bits - bucket.bits) ∙ ap (λ (x : ℕ). hash / 2 ^ x) whole

  half_index : index_at h hash / half ≡ hash / 2 ^ (31 - (bits + 1))
  half_index =
      let l = made.less in
      let d = file.bits in
      let whole : 31 - h.dir_bits + (h.dir_bits - (bucket.bits + 1)) ≡ 31 - (bucket.bits + 1) = omega (arith, l, d) in
      shr-shr hash (31 - h.dir_bits) (h.dir_bits - (bucket.bits + 1)) ∙ ap (λ (x : ℕ). hash / 2 ^ x) whole

  q_half : hash / 2 ^ (31 - (bits + 1)) / 2 ≡ q
  q_half =
      let l = made.less in
      let d = file.bits in
      let whole : 31 - (bucket.bits + 1) + 1 ≡ 31 - bucket.bits = omega (arith, l, d) in
      shr-shr hash (31 - (bucket.bits + 1)) 1 ∙ ap (λ (x : ℕ). hash / 2 ^ x) whole

  -- the half lies in the directory
  start_in : start + half ≤ entries_of h
  start_in =
      let l = made.less in
      let small = made.small in
      let d = file.bits in
      let p = pow_pos (31 - bucket.bits) in
      let w1 : bucket.bits + (31 - bucket.bits) ≡ 31 = omega (arith, l, d) in
      let a1 : 2 ^ bucket.bits * 2 ^ (31 - bucket.bits) ≡ 2 ^ 31 = sym (pow-add 2 bucket.bits (31 - bucket.bits)) ∙ ap (λ (x : ℕ). 2 ^ x) w1 in
      let below : hash < 2 ^ bucket.bits * 2 ^ (31 - bucket.bits) = rw a1 small in
      let qb : hash / 2 ^ (31 - bucket.bits) < 2 ^ bucket.bits = (div-lt_iff_lt-mul {k = 2 ^ (31 - bucket.bits)} {x = hash} {y = 2 ^ bucket.bits} p).1 below in
      let w2 : bucket.bits + (h.dir_bits - bucket.bits) ≡ h.dir_bits = omega (arith, l) in
      let a2 : 2 ^ bucket.bits * 2 ^ (h.dir_bits - bucket.bits) ≡ entries_of h = sym (pow-add 2 bucket.bits (h.dir_bits - bucket.bits)) ∙ ap (λ (x : ℕ). 2 ^ x) w2 in
      row_in (hash / 2 ^ (31 - bucket.bits)) (2 ^ bucket.bits) half (entries_of h) qb (ap (λ (x : ℕ). 2 ^ bucket.bits * x) (sym run_twice) ∙ a2)
    where
      row_in : (k n m all : ℕ) → k < n → n * (m * 2) ≡ all → (2 * k + 1) * m + m ≤ all
      row_in k n m all lt e = grind (arith, lt, e)

  -- ---- what is touched

  -- a byte of free space, or behind it, is of no directory, bucket or front
  fresh : (b : ℕ) → 0 < cover (free_extents s) b + grown h.next_block h'.next_block b → (dir b ≡ 0) × (here b ≡ 0) × (one_if (has_byte (extent 0 h.block) b) ≡ 0)
  unfolding all_cover bucket_cover dir
  fresh b some =
      let o = file.space.once b in
      let l = file.space.below b in
      let p = place_here b in
      let sum = bucket_in_all old h (index_at h hash) h.next_block (free_extents s) [] (slots_at (block_of old h (index_at h hash)) h.elems) li file.space (λ p e. refl) b in
      elim (cases_lt b h.next_block) [
        | inl below ↦
            let z = grown-none h.next_block h'.next_block b below in
            (omega (arith, o, sum, z, some), omega (arith, o, sum, z, some, p), omega (arith, o, sum, z, some))
        | inr past ↦
            elim (cases_lt 0 (all_cover old h (free_extents s) b)) [
              | inl there ↦ let lt = l there in absurd (omega (arith, lt, past))
              | inr none ↦ (omega (arith, none, sum), omega (arith, none, sum, p), omega (arith, none, sum))
            ]
      ]

  moved : (b : ℕ) → cover (free_extents s') b + taken b ≤ cover (free_extents s) b + grown h.next_block h'.next_block b
  unfolding taken
  moved b =
      let m = made.taken.moves.bytes b in
      let g = grown_is_extent h.next_block h'.next_block b made.taken.moves.grows in
      omega (arith, m, g)

  taken_fresh : (b : ℕ) → taken b ≡ 1 → (dir b ≡ 0) × (here b ≡ 0) × (one_if (has_byte (extent 0 h.block) b) ≡ 0)
  taken_fresh b one_ = let m = moved b in fresh b (omega (arith, m, one_))

  run_in : (b : ℕ) → run b ≤ dir b
  unfolding run dir
  run_in b =
      let fits = start_in in
      bool_cases (has_byte (extent (h.dir + 8 * half_start h hash bucket.bits) (8 * half_of h bucket.bits)) b)
      (λ t.
      let low : h.dir + 8 * half_start h hash bucket.bits ≤ b = grind (arith, nat_tests, t) in
      let high : b < h.dir + 8 * half_start h hash bucket.bits + 8 * half_of h bucket.bits = grind (arith, nat_tests, t) in
      let has = has_in h.dir (8 * entries_of h) b (omega (arith, low)) (omega (arith, high, fits)) in
      rw (t, has) (omega arith))
      (λ f. rw f (omega arith))

  -- a bucket is not in the directory
  here_apart : (b : ℕ) → here b ≡ 1 → dir b ≡ 0
  unfolding all_cover bucket_cover dir
  here_apart b one_ =
      let o = file.space.once b in
      let p = place_here b in
      let sum = bucket_in_all old h (index_at h hash) h.next_block (free_extents s) [] (slots_at (block_of old h (index_at h hash)) h.elems) li file.space (λ p e. refl) b in
      omega (arith, o, p, sum, one_)

  dir_apart : (b : ℕ) → dir b ≡ 1 → (cover (free_extents s) b ≡ 0) × (here b ≡ 0) × (b < h.next_block)
  unfolding all_cover bucket_cover dir
  dir_apart b one_ =
      let o = file.space.once b in
      let p = place_here b in
      let sum = bucket_in_all old h (index_at h hash) h.next_block (free_extents s) [] (slots_at (block_of old h (index_at h hash)) h.elems) li file.space (λ p e. refl) b in
      (omega (arith, o, sum, one_), omega (arith, o, p, sum, one_), file.space.below b (omega (arith, one_)))

  abbrev with_second : List ℕ
  with_second = written mid second_at two

  abbrev with_both : List ℕ
  with_both = written (written mid second_at two) at one

  taken_is : (b : ℕ) → one_if (has_byte (extent second_at (length two)) b) ≡ taken b
  unfolding taken
  taken_is b = ap (λ (n : ℕ). one_if (has_byte (extent second_at n) b)) made.sizes.1

  here_is : (b : ℕ) → one_if (has_byte (extent at (length one)) b) ≡ here b
  unfolding here
  here_is b = ap (λ (n : ℕ). one_if (has_byte (extent at n) b)) made.sizes.0

  run_keeps : KeepsBut run with_both new
  unfolding run
  run_keeps = made.run.keeps

  last_keeps : KeepsBut (λ b. here b + run b) with_second new
  last_keeps =
      keeps_join (λ b. one_if (has_byte (extent at (length one)) b)) run (λ b. here b + run b) with_second with_both new
      (λ x lt z. let e = here_is x in (omega (arith, e, z), omega (arith, z)))
      (write_keeps with_second at one) run_keeps

  after_keeps : KeepsBut (λ b. taken b + here b + run b) mid new
  after_keeps =
      keeps_join (λ b. one_if (has_byte (extent second_at (length two)) b)) (λ b. here b + run b) (λ b. taken b + here b + run b) mid with_second new
      (λ x lt z. let e = taken_is x in (omega (arith, e, z), omega (arith, z)))
      (write_keeps mid second_at two) last_keeps

  all_keeps : KeepsBut (λ b. cover (free_extents s) b + taken b + here b + run b) old new
  all_keeps =
      keeps_join (cover (free_extents s)) (λ b. taken b + here b + run b) (λ b. cover (free_extents s) b + taken b + here b + run b) old mid new
      (λ x lt z. (omega (arith, z), omega (arith, z)))
      (keeps_free (free_extents s) [] old mid refl made.taken.keeps) after_keeps

  -- what was taken lies in free space, as far as the old file goes
  taken_old : (b : ℕ) → b < length old → taken b ≤ cover (free_extents s) b
  taken_old b lt = let short = file.short in let m = moved b in let z = grown-none h.next_block h'.next_block b (omega (arith, lt, short)) in omega (arith, m, z)

  keeps : KeepsBut (λ b. one_if (has_byte (extent h.dir (8 * entries_of h)) b) + touched_of old h (index_at h hash) (free_extents s) [] b) old new
  unfolding touched_of dir
  keeps =
      keeps_weaker (λ b. cover (free_extents s) b + taken b + here b + run b) _ old new
      (λ x lt z. let t = taken_old x lt in let p = place_here x in let r = run_in x in omega (arith, z, t, p, r))
      all_keeps

  first_reads : bytes_at new at h.block ≡ one
  first_reads =
      ap (bytes_at new at) (sym made.sizes.0)
      ∙ written_stays run with_second new at one run_keeps
      (λ b low high.
      let e = here_is b in
      let o : one_if (has_byte (extent at (length one)) b) ≡ 1 = rw (has_in at (length one) b low high) refl in
      let z = here_apart b (omega (arith, e, o)) in
      let r = run_in b in
      omega (arith, z, r))

  second_reads : bytes_at new second_at h.block ≡ two
  second_reads =
      ap (bytes_at new second_at) (sym made.sizes.1)
      ∙ written_stays (λ b. here b + run b) mid new second_at two last_keeps
      (λ b low high.
      let e = taken_is b in
      let o : one_if (has_byte (extent second_at (length two)) b) ≡ 1 = rw (has_in second_at (length two) b low high) refl in
      let z = taken_fresh b (omega (arith, e, o)) in
      let r = run_in b in
      omega (arith, z, r))

  -- ---- the entries

  entry_same : (j : ℕ) → j < entries_of h → ((b : ℕ) → h.dir + 8 * j ≤ b → b < h.dir + 8 * j + 8 → run b ≡ 0) → entry_at new h j ≡ entry_at old h j
  unfolding entry_at i64_at u64_at dir
  entry_same j lj free =
      let d = file.dir in
      let short = file.short in
      let same =
      all_keeps.bytes (h.dir + 8 * j) 8 (omega (arith, d, lj))
      (λ b low high.
      let has : one_if (has_byte (extent h.dir (8 * entries_of h)) b) ≡ 1 = rw (has_in h.dir (8 * entries_of h) b (omega (arith, low)) (omega (arith, high, lj))) refl in
      let a = dir_apart b has in
      let t = taken_old b (omega (arith, high, d, lj)) in
      let r = free b low high in
      omega (arith, a, t, r))
      in
      rw same refl

  run_not : (b : ℕ) → (h.dir + 8 * start ≤ b → b < h.dir + 8 * start + 8 * half → ⊥) → run b ≡ 0
  unfolding run
  run_not b away =
      bool_cases (has_byte (extent (h.dir + 8 * half_start h hash bucket.bits) (8 * half_of h bucket.bits)) b)
      (λ t. absurd (away (grind (arith, nat_tests, t)) (grind (arith, nat_tests, t))))
      (λ f. rw f refl)

  quotient_in : (j : ℕ) → start ≤ j → j < start + half → j / half ≡ 2 * q + 1
  quotient_in j low high =
      let e : (2 * q + 1) * half + (j - start) ≡ j = omega (arith, low) in
      ap (λ (x : ℕ). x / half) (sym e) ∙ div-mul-add (2 * q + 1) half (j - start) (omega (arith, low, high))

  quotient_out : (j : ℕ) → j / half ≡ 2 * q + 1 → (start ≤ j) × (j < start + half)
  quotient_out j e =
      let w : j / half * half + j % half ≡ j = div-add-mod' j half in
      let f : j / half * half ≡ (2 * q + 1) * half = ap (λ (x : ℕ). x * half) e in
      let p = half_pos in
      let r : j % half < half = omega (arith, p) in
      (omega (arith, w, f), omega (arith, w, f, r))

  low_entries : (j : ℕ) → j < entries_of h → j / half ≢ 2 * q + 1 → entry_at new h j ≡ entry_at old h j
  low_entries j lj ne =
      entry_same j lj
      (λ b low high.
      run_not b
      (λ l m.
      let first : half_start h hash bucket.bits ≤ j = omega (arith, l, high) in
      let last : j < half_start h hash bucket.bits + half_of h bucket.bits = omega (arith, m, low) in
      ne (quotient_in j first last)))

  high_entries : (j : ℕ) → j < entries_of h → j / half ≡ 2 * q + 1 → entry_at new h j ≡ pos second_at
  unfolding entry_at
  high_entries j lj e =
      let o = quotient_out j e in
      let k : h.dir + 8 * start + 8 * (j - start) ≡ h.dir + 8 * j = omega (arith, o) in
      ap (i64_at new) (sym k) ∙ made.run.entries (j - start) (omega (arith, o))

  -- ---- free space

  first_elems : length first.slots ≡ h.elems
  first_elems = made.halves.low.elems ∙ made.elems

  second_elems : length second.slots ≡ h.elems
  second_elems = made.halves.high.elems ∙ made.elems

  first_block : bucket_at (bytes_at new at h.block) h.elems ≡ first
  first_block = ap (λ (x : List ℕ). bucket_at x h.elems) first_reads ∙ ap (bucket_at one) (sym first_elems) ∙ made.spells.0.reads

  second_block : bucket_at (bytes_at new second_at h.block) h.elems ≡ second
  second_block = ap (λ (x : List ℕ). bucket_at x h.elems) second_reads ∙ ap (bucket_at two) (sym second_elems) ∙ made.spells.1.reads

  place_is : place_of old h (index_at h hash) ≡ at
  place_is = ap natural entry_here

  first_free : free_in (bytes_at new (place_of old h (index_at h hash)) h.block) ≡ bucket.free
  first_free =
      ap (λ (x : ℕ). free_in (bytes_at new x h.block)) place_is
      ∙ free_read (bytes_at new at h.block) h.elems first first_block ∙ made.first_free

  second_free : free_in (bytes_at new second_at h.block) ≡ s'.bucket
  second_free = free_read (bytes_at new second_at h.block) h.elems second second_block ∙ made.second_free

  moves : SplitMoves old new h (index_at h hash) second_at h.next_block h'.next_block (free_extents s) (free_extents (without s'))
  unfolding taken
  moves =
      record {
        grows = made.taken.moves.grows;
        moves =
            λ b.
            let m = moved b in
            let w = cover_without s' b in
            let x = ap (λ (l : List Extent). cover l b) first_free in
            let y = ap (λ (l : List Extent). cover l b) second_free in
            let z = ap (λ (l : List Extent). cover l b) free_here in
            omega (arith, m, w, x, y, z);
      }

  size_mid : length mid ≤ h'.next_block
  size_mid = made.taken.side.short

  taken_below : second_at + h.block ≤ h'.next_block
  unfolding taken
  taken_below =
      let last = second_at + (h.block - 1) in
      let has : one_if (has_byte (extent second_at h.block) (second_at + (h.block - 1))) ≡ 1 = rw (has_in second_at h.block (second_at + (h.block - 1)) (omega arith) (omega (arith, large))) refl in
      let m = moved (second_at + (h.block - 1)) in
      let grows = made.taken.moves.grows in
      let below : second_at + (h.block - 1) < h'.next_block =
      elim (cases_lt (second_at + (h.block - 1)) h.next_block) [
        | inl lt ↦ omega (arith, lt, grows)
        | inr past ↦
            let z = cover-past h.next_block (free_extents s) (second_at + (h.block - 1)) made.held.side.below past in
            let g = grown-some h.next_block h'.next_block (second_at + (h.block - 1)) (omega (arith, m, has, z)) in
            g.1
      ] in
      omega (arith, below, large)

  second_in : second_at + h.block ≤ length new
  second_in =
      let a = written_size mid second_at two in
      let b = written_size with_second at one in
      let c = made.run.size in
      let d = made.sizes.1 in
      omega (arith, a, b, c, d)

  place_in : at + h.block ≤ length old
  place_in =
      let ends = within_ends (entry_at old h (index_at h hash)) (length old - h.block) (file.parts.dir.in_file (index_at h hash) li) in
      let fits = file.parts.dir.block_fits in
      let e = place_is in
      omega (arith, ends, fits, e)

  short : length new ≤ h'.next_block
  short =
      let a = written_size mid second_at two in
      let b = written_size with_second at one in
      let c = made.run.size in
      let d = made.sizes in
      let e = size_mid in
      let t = taken_below in
      let p = place_in in
      let f = file.short in
      let grows = made.taken.moves.grows in
      omega (arith, a, b, c, d, e, t, p, f, grows)

  writes : SplitWritten old new h (index_at h hash) second_at bucket.bits half q h.next_block h'.next_block (free_extents s) (free_extents (without s'))
  writes =
      let e = ap (λ (x : ℕ). bytes_at new x h.block) place_is in
      record {
        bits_is = bits_here;
        less = made.less;
        half_is = refl;
        q_is = q_is;
        keeps = keeps;
        low = low_entries;
        high = high_entries;
        second_in = second_in;
        moves = moves;
        first = rw (e, first_reads) (half_made h bucket.bits 0 bucket first one first_elems made.halves.low.bits made.halves.low.parted made.halves.low.reached made.spells.0);
        second = rw second_reads (half_made h bucket.bits 1 bucket second two second_elems made.halves.high.bits made.halves.high.parted made.halves.high.reached made.spells.1);
        same = rw (slots_here, e, slots_read (bytes_at new at h.block) h.elems first first_block, slots_read (bytes_at new second_at h.block) h.elems second second_block) made.halves.slots;
      }

  change : SplitChange old new h (index_at h hash) second_at bucket.bits half q
  change = split_change old new h (index_at h hash) second_at bucket.bits half q h.next_block h'.next_block (free_extents s) (free_extents (without s')) (omega (arith, large)) file li writes

  stays : MapStays old new h h
  stays = split_stays old new h (index_at h hash) second_at bucket.bits half q file.bits file.parts li change

  space : IsSpaceRight new h h'.next_block (free_extents (without s'))
  space = split_space_right old new h (index_at h hash) second_at bucket.bits half q h.next_block h'.next_block (free_extents s) (free_extents (without s')) file.bits file.parts li change file.space moves

  -- ---- the new state

  shape : IsSameShape h h'
  shape =
      let e = made.header in
      record { block = ap (λ (x : Header). x.block) e; dir = ap (λ (x : Header). x.dir) e; bits = ap (λ (x : Header). x.dir_bits) e; elems = ap (λ (x : Header). x.elems) e }

  side : IsFreeSide new h' top' (without s')
  side =
      side_kept (λ b. taken b + here b + run b) mid new h' top' (without s') after_keeps
      (λ b some.
      let m = moved b in
      let w = cover_without s' b in
      let o = made.held.side.once b in
      let f = fresh b (omega (arith, m, w, some)) in
      let r = run_in b in
      elim (cases_lt b h.next_block) [
        | inl below ↦ let z = grown-none h.next_block h'.next_block b below in omega (arith, m, w, o, f, r, z, some)
        | inr past ↦
            let z = cover-past h.next_block (free_extents s) b made.held.side.below past in
            let g = grown-le h.next_block h'.next_block b in
            omega (arith, m, w, f, r, z, g, some)
      ])
      short (side_without mid h' top' s' made.taken.side)

  place_of_entry : (j : ℕ) → j < entries_of h → {P : Type 0} → (entry_at new h j ≡ pos second_at → P) → (entry_at new h j ≡ pos at → P) → (entry_at new h j ≡ entry_at old h j → entry_at old h j ≢ entry_at old h (index_at h hash) → P) → P
  place_of_entry j lj two_ one_ other =
      elim (cases_eq (j / half) (2 * q + 1)) [
        | inl high ↦ two_ (high_entries j lj high)
        | inr low ↦ entry_cases (entry_at old h j) (entry_at old h (index_at h hash)) (λ same. one_ (low_entries j lj low ∙ same ∙ entry_here)) (λ ne. other (low_entries j lj low) ne)
      ]

  free_by : (j : ℕ) (z : ℤ) → entry_at new h j ≡ z → free_of new h' j ≡ free_in (bytes_at new (natural z) h.block)
  unfolding free_of block_of
  free_by j z e =
      ap (λ (x : ℤ). free_in (bytes_at new (natural x) h'.block)) (entry_shape new h h' shape j ∙ e)
      ∙ ap (λ (n : ℕ). free_in (bytes_at new (natural z) n)) shape.block

  old_free : (j : ℕ) → free_in (block_of old h j) ≡ free_of old h j
  unfolding free_of
  old_free j = refl

  free_right : (j : ℕ) → j < entries_of h' → AllByRecursion (IsBelow h'.next_block) (free_of new h' j)
  free_right j lt =
      let grows = made.taken.moves.grows in
      let lj : j < entries_of h = let e = ap (λ (n : ℕ). 2 ^ n) shape.bits in omega (arith, lt, e) in
      place_of_entry j lj
      (λ e. rw (free_by j (pos second_at) e, second_free) (below_bucket h'.next_block s' made.taken.side.below))
      (λ e.
      rw (free_by j (pos at) e, free_read (bytes_at new at h.block) h.elems first first_block, made.first_free, ← free_here)
      (below-more h.next_block h'.next_block (free_of old h (index_at h hash)) grows (made.held.free (index_at h hash) li)))
      (λ e ne.
      rw (free_by j (entry_at old h j) e, change.others j lj ne, old_free j)
      (below-more h.next_block h'.next_block (free_of old h j) grows (made.held.free j lj)))

  held : IsHeld new h' top' (without s')
  held =
      let d = file.dir in
      let longer = keeps.longer in
      let e = shape.bits in
      let p = ap (λ (n : ℕ). 2 ^ n) shape.bits in
      let f = shape.dir in
      record {
        file_is = record {
          bits = let b = file.bits in omega (arith, b, e);
          dir = omega (arith, d, longer, p, f);
          short = short;
          parts = parts_shape new h h' shape stays.parts;
          space = space_shape new h h' shape h'.next_block (free_extents (without s')) space;
        };
        side = side;
        free = free_right;
      }

  lost : lost_in new h' (free_extents (without s')) ≤ lost_in old h (free_extents s) + 32
  unfolding taken
  lost =
      let n = h'.next_block in
      let grows = made.taken.moves.grows in
      let even = sum_even
      (λ b. all_cover new h (free_extents (without s')) b + cover (free_of old h (index_at h hash)) b + cover (free_extents s) b)
      (λ b. all_cover old h (free_extents s) b + one_if (has_byte (extent second_at h.block) b) + cover (free_in (bytes_at new (place_of old h (index_at h hash)) h.block)) b + cover (free_in (bytes_at new second_at h.block)) b + cover (free_extents (without s')) b) h'.next_block
      (λ b. splits.whole old new h (index_at h hash) second_at bucket.bits half q file.bits file.parts li change b (free_extents s) (free_extents (without s'))) in
      let l1 = sum_add (λ b. all_cover new h (free_extents (without s')) b + cover (free_of old h (index_at h hash)) b) (cover (free_extents s)) h'.next_block in
      let l2 = sum_add (all_cover new h (free_extents (without s'))) (cover (free_of old h (index_at h hash))) h'.next_block in
      let r1 = sum_add (λ b. all_cover old h (free_extents s) b + one_if (has_byte (extent second_at h.block) b) + cover (free_in (bytes_at new (place_of old h (index_at h hash)) h.block)) b + cover (free_in (bytes_at new second_at h.block)) b) (cover (free_extents (without s'))) h'.next_block in
      let r2 = sum_add (λ b. all_cover old h (free_extents s) b + one_if (has_byte (extent second_at h.block) b) + cover (free_in (bytes_at new (place_of old h (index_at h hash)) h.block)) b) (cover (free_in (bytes_at new second_at h.block))) h'.next_block in
      let r3 = sum_add (λ b. all_cover old h (free_extents s) b + one_if (has_byte (extent second_at h.block) b)) (cover (free_in (bytes_at new (place_of old h (index_at h hash)) h.block))) h'.next_block in
      let r4 = sum_add (all_cover old h (free_extents s)) (λ b. one_if (has_byte (extent second_at h.block) b)) h'.next_block in
      let shaped = sum_even (all_cover new h' (free_extents (without s'))) (all_cover new h (free_extents (without s'))) h'.next_block (λ b. all_shape new h h' shape (free_extents (without s')) b) in
      let a = sum_all old h h.next_block h'.next_block (free_extents s) file.space grows in
      let c = below_sum h'.next_block (free_extents s) (below-more h.next_block h'.next_block (free_extents s) grows made.held.side.below) in
      let d = below_sum h'.next_block (free_extents (without s')) side.below in
      let e = below_sum h'.next_block s'.bucket (below_bucket h'.next_block s' made.taken.side.below) in
      let x = ap (λ (l : List Extent). sum_below (cover l) h'.next_block) first_free in
      let y = ap (λ (l : List Extent). sum_below (cover l) h'.next_block) second_free in
      let z = ap (λ (l : List Extent). sum_below (cover l) h'.next_block) free_here in
      let k = some_sum second_at h.block h'.next_block
      (λ b some. let t = taken_below in let high : b < second_at + h.block = in_extent second_at h.block b some in omega (arith, t, high)) in
      let w = size_without s' in
      let m = made.taken.moves.most in
      omega (arith, grows, even, l1, l2, r1, r2, r3, r4, shaped, a, c, d, e, x, y, z, k, w, m)
    where
      in_extent : (place n b : ℕ) → 0 < one_if (has_byte (extent place n) b) → b < place + n
      in_extent place n b some = bool_cases (has_byte (extent place n) b) (λ t. grind (arith, nat_tests, t)) (λ f. absurd (let z : one_if (has_byte (extent place n) b) ≡ 0 = rw f refl in omega (arith, z, some)))

  -- ---- the bucket of the hash

  half_is : (side : ℕ) → next_bit bits hash ≡ side → index_at h hash / half ≡ 2 * q + side
  half_is side e =
      let a = half_index in
      let b = q_half in
      let c : hash / 2 ^ (31 - (bucket.bits + 1)) % 2 ≡ side = e in
      let d : hash / 2 ^ (31 - (bucket.bits + 1)) ≡ 2 * (hash / 2 ^ (31 - (bucket.bits + 1)) / 2) + hash / 2 ^ (31 - (bucket.bits + 1)) % 2 = omega arith in
      a ∙ d ∙ omega (arith, b, c)

  same_index : index_at h' hash ≡ index_at h hash
  same_index = ap (λ (n : ℕ). hash / 2 ^ (31 - n)) shape.bits

  bucket_by : (place : ℕ) (b : Bucket) → entry_at new h (index_at h hash) ≡ pos place → bucket_at (bytes_at new place h.block) h.elems ≡ b → IsBucketOf new h' hash place b
  bucket_by place b e r = record {
    entry = ap (entry_at new h') same_index ∙ entry_shape new h h' shape (index_at h hash) ∙ e;
    block = ap (λ (n : ℕ). bucket_at (bytes_at new place n) h'.elems) shape.block ∙ ap (bucket_at (bytes_at new place h.block)) shape.elems ∙ r;
  }

  next_bucket : IsNext new h' hash at second_at bucket.bits first second
  next_bucket = record {
    low = λ z. bucket_by at first (low_entries (index_at h hash) li (λ e. let a = half_is 0 z in omega (arith, a, e)) ∙ entry_here) first_block;
    high = λ z. bucket_by second_at second (high_entries (index_at h hash) li (half_is 1 z)) second_block;
  }

  pub split_gives : SplitGives old new h h' top' s s' hash at second_at bucket.bits first second
  split_gives = record {
    step = record { held = held; map = λ key. value_shape new h h' shape key ∙ stays.map key; lost = lost };
    next = next_bucket;
  }

pub split_holds :
    (old mid new : List ℕ) (h h' : Header) (top top' : ℕ) (s s' : FreeLists) (hash at second_at : ℕ) (bucket first second : Bucket) (one two : List ℕ) → 512 ≤ h.block → h'.next_block ≤ 2 ^ 46
    → SplitMade old mid new h h' top top' s s' hash at second_at bucket first second one two → SplitGives old new h h' top' s s' hash at second_at bucket.bits first second
split_holds old mid new h h' top top' s s' hash at second_at bucket first second one two large small made =
    split_gives old mid new h h' top top' s s' hash at second_at bucket first second one two large made
