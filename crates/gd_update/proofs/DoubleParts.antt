-- A doubling by what it writes.
use Rattle.std.proofs.Common.{◌≡◌, ℕ, ◌+◌, ◌-◌, ◌*◌, ◌^◌, ◌<◌, ◌≤◌, List, [], ◌∷◌, length, refl, sym, ap, ◌∙◌, inl, inr, arith}
use Rattle.std.specs.Prelude.{ℤ, ◌/◌}
use Rattle.std.specs.List.{AllByRecursion}
use Rattle.std.proofs.lemmas.Bool.{cases_lt}
use Rattle.std.proofs.lemmas.Bool.Decides.{nat_tests}
use Rattle.std.proofs.lemmas.Nat.{shr-shr, pow-add, pow_pos}
use Rattle.std.proofs.Math.Nat.{pow-le-pow_right}
use Rattle.gd_format.specs.declared.Header.{Header}
use Rattle.gd_format.specs.Field.{bytes_at, i64_at, u64_at}
use Rattle.gd_format.specs.HeaderFault.{natural, dir_size_of}
use Rattle.gd_format.specs.Bucket.{Bucket, bucket_at, slots_at}
use Rattle.gd_format.specs.File.{bits_at, entry_at, entries_of, run_at, block_of}
use Rattle.gd_format.specs.Sound.{extent}
use Rattle.gd_format.specs.Covers.{has_byte, cover}
use Rattle.gd_format.specs.FreeSide.{FreeLists, IsFreeSide, free_extents}
use Rattle.gd_file_laws.proofs.Lists.{bool_cases}
use Rattle.gd_map_laws.specs.Update.{IsRecordKept}
use Rattle.gd_map_laws.specs.Space.{one_if, free_in, free_of, bucket_cover, all_cover, grown, IsSpaceRight}
use Rattle.gd_map_laws.specs.Frame.{KeepsBut}
use Rattle.gd_map_laws.specs.Change.{IsSoundFile}
use Rattle.gd_map_laws.specs.Split.{DoubleChange, MapStays}
use Rattle.gd_map_laws.specs.SplitSpace.{DoubleMoves}
use Rattle.gd_map_laws.proofs.Stays.{has_in, keeps_join, bucket_in_all, within_ends, block_counts, slots_count, slots_kept}
use Rattle.gd_map_laws.proofs.Change.{keeps_weaker, grown-none}
use Rattle.gd_map_laws.proofs.Space.{grown-some, grown-le}
use Rattle.gd_map_laws.proofs.Find.{grown_is_extent, grown-add}
use Rattle.gd_map_laws.proofs.Slots.{of_bucket}
use Rattle.gd_map_laws.proofs.Side.{side_kept}
use Rattle.gd_map_laws.proofs.Double.{double_stays, half_below, block_is}
use Rattle.gd_map_laws.proofs.DoubleSpace as doubles
use Rattle.gd_space.specs.Effect.{CanBeGiven}
use Rattle.gd_space.proofs.Tooks.{below-more}
use Rattle.gd_space.proofs.Sides.{cover-past}
use Rattle.gd_update.specs.Held.{IsHeld, IsBucketOf, index_at, lost_in}
use Rattle.gd_update.specs.Steps.{IsStep}
use Rattle.gd_update.specs.SplitLaws.{DoubleMade}
use Rattle.gd_update.specs.Runs.{IsDoubled}
use Rattle.gd_space.specs.Effect.{Change}
use Rattle.gd_map_laws.proofs.Sums.{sum_add, sum_even, some_sum}
use Rattle.gd_update.proofs.Pools.{sum_all, below_sum, keeps_free}
use Rattle.gd_update.proofs.SplitParts.{index_in}

-- ---- after the room was taken

module _ (old mid : List ℕ) (h h1 : Header) (top top1 : ℕ) (s s1 : FreeLists) (at : ℕ) (held : IsHeld old h top s) (taken : Change old mid h h1 top top1 s s1 [] (extent at (2 * dir_size_of h.dir_bits) ∷ []) 32) where
  new_dir : ℕ → ℕ
  new_dir b = one_if (has_byte (extent at (2 * dir_size_of h.dir_bits)) b)

  old_dir : ℕ → ℕ
  old_dir b = one_if (has_byte (extent h.dir (8 * entries_of h)) b)

  moved : (b : ℕ) → cover (free_extents s1) b + new_dir b ≤ cover (free_extents s) b + grown h.next_block h1.next_block b
  unfolding new_dir
  moved b =
      let m = taken.moves.bytes b in
      let g = grown_is_extent h.next_block h1.next_block b taken.moves.grows in
      omega (arith, m, g)

  free_once : (b : ℕ) → cover (free_extents s) b + grown h.next_block h1.next_block b ≤ 1
  free_once b =
      let o = held.side.once b in
      let g = grown-le h.next_block h1.next_block b in
      elim (cases_lt b h.next_block) [
        | inl below ↦ let z = grown-none h.next_block h1.next_block b below in omega (arith, o, z)
        | inr past ↦ let z = cover-past h.next_block (free_extents s) b held.side.below past in omega (arith, g, z)
      ]

  dir_apart : (b : ℕ) → old_dir b ≡ 1 → (cover (free_extents s) b + grown h.next_block h1.next_block b ≡ 0) × (b < h.next_block)
  unfolding all_cover old_dir
  dir_apart b one_ =
      let o = held.file_is.space.once b in
      let l = held.file_is.space.below b (omega (arith, one_)) in
      let z = grown-none h.next_block h1.next_block b l in
      (omega (arith, o, one_, z), l)

  -- the new place is apart from the old one
  pub apart : (b : ℕ) → h.dir ≤ b → b < h.dir + 8 * entries_of h → at ≤ b → b < at + 2 * dir_size_of h.dir_bits → ⊥
  unfolding new_dir old_dir
  apart b l m p q =
      let one_ : one_if (has_byte (extent h.dir (8 * entries_of h)) b) ≡ 1 = rw (has_in h.dir (8 * entries_of h) b l m) refl in
      let two_ : one_if (has_byte (extent at (2 * dir_size_of h.dir_bits)) b) ≡ 1 = rw (has_in at (2 * dir_size_of h.dir_bits) b p q) refl in
      let a = dir_apart b one_ in
      let n = moved b in
      omega (arith, a, n, two_)

  pub ends : at + 2 * dir_size_of h.dir_bits ≤ h1.next_block
  unfolding new_dir
  ends =
      let p = pow_pos h.dir_bits in
      let last = at + 2 * dir_size_of h.dir_bits - 1 in
      let has : one_if (has_byte (extent at (2 * dir_size_of h.dir_bits)) last) ≡ 1 = rw (has_in at (2 * dir_size_of h.dir_bits) last (omega (arith, p)) (omega (arith, p))) refl in
      let m = moved last in
      let grows = taken.moves.grows in
      let below : last < h1.next_block =
      elim (cases_lt last h.next_block) [
        | inl lt ↦ omega (arith, lt, grows)
        | inr past ↦
            let z = cover-past h.next_block (free_extents s) last held.side.below past in
            let g = grown-some h.next_block h1.next_block last (omega (arith, m, has, z)) in
            g.1
      ] in
      omega (arith, below, p)

  mid_keeps : KeepsBut (cover (free_extents s)) old mid
  mid_keeps = keeps_free (free_extents s) [] old mid refl taken.keeps

  pub old_entries : (k : ℕ) → k < entries_of h → i64_at mid (h.dir + 8 * k) ≡ entry_at old h k
  unfolding entry_at i64_at u64_at old_dir
  old_entries k lt =
      let d = held.file_is.dir in
      let same =
      mid_keeps.bytes (h.dir + 8 * k) 8 (omega (arith, d, lt))
      (λ b low high.
      let one_ : one_if (has_byte (extent h.dir (8 * entries_of h)) b) ≡ 1 = rw (has_in h.dir (8 * entries_of h) b (omega (arith, low)) (omega (arith, high, lt))) refl in
      let a = dir_apart b one_ in
      omega (arith, a))
      in
      rw same refl

  module _ (copied : List ℕ) (copy : IsDoubled h.dir at (entries_of h) mid copied) where
    twice_size : 16 * entries_of h ≡ 2 * dir_size_of h.dir_bits
    twice_size = omega arith

    copy_keeps : KeepsBut new_dir mid copied
    unfolding new_dir
    copy_keeps = keeps_weaker (λ b. one_if (has_byte (extent at (16 * entries_of h)) b)) (λ b. one_if (has_byte (extent at (2 * dir_size_of h.dir_bits)) b)) mid copied
        (λ x lt z. ap (λ (n : ℕ). one_if (has_byte (extent at n) x)) twice_size ∙ z) copy.keeps

    pub copied_short : length copied ≤ h1.next_block
    copied_short = let a = copy.size in let e = ends in let t = twice_size in let m = taken.side.short in omega (arith, a, e, t, m)

    -- the free side is still right
    pub copied_side : IsFreeSide copied h1 top1 s1
    copied_side =
        side_kept new_dir mid copied h1 top1 s1 copy_keeps
        (λ b some. let m = moved b in let o = free_once b in omega (arith, m, o, some))
        copied_short taken.side

    -- and the old place may be given
    pub may_give : h.dir_bits < 24 → 0 < h.block → CanBeGiven h1.next_block (free_extents s1) (extent h.dir (dir_size_of h.dir_bits))
    unfolding old_dir all_cover
    may_give less large =
        let d = held.file_is.dir in
        let short = held.file_is.short in
        let grows = taken.moves.grows in
        let few : 2 ^ h.dir_bits ≤ 2 ^ 24 = pow-le-pow_right {n = 2} (omega arith) {i = h.dir_bits} {j = 24} (omega (arith, less)) in
        record {
          start = (λ some.
              elim (cases_lt 0 h.dir) [
                | inl positive ↦ positive
                | inr none ↦
                    let z : h.dir ≡ 0 = omega (arith, none) in
                    let p = pow_pos h.dir_bits in
                    let head : one_if (has_byte (extent 0 h.block) 0) ≡ 1 = rw (has_in 0 h.block 0 (omega arith) (omega (arith, large))) refl in
                    let dir : one_if (has_byte (extent h.dir (8 * entries_of h)) 0) ≡ 1 = rw (has_in h.dir (8 * entries_of h) 0 (omega (arith, z)) (omega (arith, z, p))) refl in
                    let o = held.file_is.space.once 0 in
                    absurd (omega (arith, o, head, dir))
              ]);
          fits = omega (arith, few);
          ends = omega (arith, d, short, grows);
          once = λ b.
              let m = moved b in
              let o = free_once b in
              bool_cases (has_byte (extent h.dir (8 * entries_of h)) b)
              (λ t. let one_ : one_if (has_byte (extent h.dir (8 * entries_of h)) b) ≡ 1 = rw t refl in let a = dir_apart b one_ in omega (arith, m, a, one_))
              (λ f. let none_ : one_if (has_byte (extent h.dir (8 * entries_of h)) b) ≡ 0 = rw f refl in omega (arith, m, o, none_));
        }

-- ---- the whole doubling

module _ (old mid copied new : List ℕ) (h h1 h2 : Header) (top top1 top2 : ℕ) (s s1 s2 : FreeLists) (at : ℕ) (large : 512 ≤ h.block) (made : DoubleMade old mid copied new h h1 h2 top top1 top2 s s1 s2 at) where
  file : IsSoundFile old h h.next_block (free_extents s)
  file = made.held.file_is

  bits_new : h2.dir_bits ≡ h.dir_bits + 1
  bits_new = ap (λ (x : Header). x.dir_bits) made.end ∙ ap (λ (x : Header). x.dir_bits + 1) made.header

  dir_new : h2.dir ≡ at
  dir_new = ap (λ (x : Header). x.dir) made.end

  block_new : h2.block ≡ h.block
  block_new = ap (λ (x : Header). x.block) made.end ∙ ap (λ (x : Header). x.block) made.header

  elems_new : h2.elems ≡ h.elems
  elems_new = ap (λ (x : Header). x.elems) made.end ∙ ap (λ (x : Header). x.elems) made.header

  bits_le : h2.dir_bits ≤ 24
  bits_le = let e = bits_new in let l = made.less in omega (arith, e, l)

  size_new : 8 * entries_of h2 ≡ 2 * dir_size_of h.dir_bits
  size_new = let e = ap (λ (x : ℕ). 2 ^ x) bits_new ∙ pow-add 2 h.dir_bits 1 in omega (arith, e)

  abbrev fresh : ℕ → ℕ
  fresh b = one_if (has_byte (extent at (2 * dir_size_of h.dir_bits)) b)

  first_moved : (b : ℕ) → cover (free_extents s1) b + fresh b ≤ cover (free_extents s) b + grown h.next_block h1.next_block b
  first_moved b =
      let m = made.taken.moves.bytes b in
      let g = grown_is_extent h.next_block h1.next_block b made.taken.moves.grows in
      omega (arith, m, g)

  second_moved : (b : ℕ) → cover (free_extents s2) b ≤ cover (free_extents s1) b + one_if (has_byte (extent h.dir (8 * entries_of h)) b) + grown h1.next_block h2.next_block b
  second_moved b =
      let m = made.given.moves.bytes b in
      let g = grown_is_extent h1.next_block h2.next_block b made.given.moves.grows in
      omega (arith, m, g)

  given_keeps : KeepsBut (cover (free_extents s1)) copied new
  given_keeps = record { longer = made.given.keeps.longer; bytes = made.given.keeps.bytes }

  copy_kept : KeepsBut fresh mid copied
  copy_kept = keeps_weaker (λ b. one_if (has_byte (extent at (16 * entries_of h)) b)) fresh mid copied
      (λ x lt z. let e : 16 * entries_of h ≡ 2 * dir_size_of h.dir_bits = omega arith in ap (λ (n : ℕ). one_if (has_byte (extent at n) x)) e ∙ z) made.copy.keeps

  keeps : KeepsBut (cover (free_extents s)) old new
  keeps =
      keeps_weaker (λ b. cover (free_extents s) b + (fresh b + cover (free_extents s1) b)) (cover (free_extents s)) old new
      (λ x lt z.
      let m = first_moved x in
      let short = file.short in
      let g = grown-none h.next_block h1.next_block x (omega (arith, lt, short)) in
      omega (arith, m, z, g))
      (keeps_join (cover (free_extents s)) (λ b. fresh b + cover (free_extents s1) b) (λ b. cover (free_extents s) b + (fresh b + cover (free_extents s1) b)) old mid new
      (λ x lt z. (omega (arith, z), omega (arith, z)))
      (keeps_free (free_extents s) [] old mid refl made.taken.keeps)
      (keeps_join fresh (cover (free_extents s1)) (λ b. fresh b + cover (free_extents s1) b) mid copied new (λ x lt z. (omega (arith, z), omega (arith, z))) copy_kept given_keeps))

  bucket_free : (j : ℕ) → j < entries_of h → (b : ℕ) → 0 < bucket_cover old h b j → cover (free_extents s) b ≡ 0
  unfolding all_cover
  bucket_free j lj b some =
      let o = file.space.once b in
      let sum = bucket_in_all old h j h.next_block (free_extents s) [] (slots_at (block_of old h j) h.elems) lj file.space (λ p e. refl) b in
      omega (arith, o, sum, some)

  blocks : (j : ℕ) → j < entries_of h → bytes_at new (natural (entry_at old h j)) h.block ≡ block_of old h j
  unfolding block_of
  blocks j lj =
      let e = within_ends (entry_at old h j) (length old - h.block) (file.parts.dir.in_file j lj) in
      let fits = file.parts.dir.block_fits in
      keeps.bytes (natural (entry_at old h j)) h.block (omega (arith, e, fits))
      (λ b low high. bucket_free j lj b (block_counts old h j h.next_block (free_extents s) [] (slots_at (block_of old h j) h.elems) lj file.space (λ p f. refl) b j (has_in (natural (entry_at old h j)) h.block b low high)))

  records : (j : ℕ) → j < entries_of h → AllByRecursion (IsRecordKept old new) (slots_at (block_of old h j) h.elems)
  records j lj =
      slots_kept (cover (free_extents s)) old new keeps (bits_at (block_of old h j)) (j / run_at old h j) (slots_at (block_of old h j) h.elems)
      (of_bucket old h (block_of old h j) (j / run_at old h j) (file.parts.buckets j lj)).good
      (λ b some. bucket_free j lj b (slots_count old h j h.next_block (free_extents s) [] (slots_at (block_of old h j) h.elems) lj file.space (λ p f. refl) b j some))

  -- what stands in the new place stays there
  fresh_free : (b : ℕ) → fresh b ≡ 1 → cover (free_extents s1) b ≡ 0
  fresh_free b one_ = let m = first_moved b in let o = free_once old mid h h1 top top1 s s1 at made.held made.taken b in omega (arith, m, o, one_)

  entries : (j : ℕ) → j < entries_of h2 → entry_at new h2 j ≡ entry_at old h (j / 2)
  unfolding entry_at i64_at u64_at
  entries j lj =
      let size = size_new in
      let p = pow_pos h.dir_bits in
      let reaches = made.copy.reaches (omega (arith, p)) in
      let same =
      given_keeps.bytes (at + 8 * j) 8 (omega (arith, reaches, size, lj))
      (λ b low high. fresh_free b (rw (has_in at (2 * dir_size_of h.dir_bits) b (omega (arith, low)) (omega (arith, high, size, lj))) refl)) in
      let there : i64_at new (at + 8 * j) ≡ i64_at copied (at + 8 * j) = rw same refl in
      let lk : j / 2 < entries_of h = omega (arith, size, lj) in
      ap (λ (x : ℕ). i64_at new (x + 8 * j)) dir_new ∙ there ∙ made.copy.entries j (omega (arith, size, lj))
      ∙ old_entries old mid h h1 top top1 s s1 at made.held made.taken (j / 2) lk

  change : DoubleChange old new h h2
  change = record { block = block_new; bits = bits_new; elems = elems_new; longer = keeps.longer; entries = entries; blocks = blocks; records = records }

  moves : DoubleMoves h h2 h.next_block h2.next_block (free_extents s) (free_extents s2)
  moves =
      record {
        grows = let a = made.taken.moves.grows in let b = made.given.moves.grows in omega (arith, a, b);
        moves =
            λ b.
            let one_ = first_moved b in
            let two_ = second_moved b in
            let g = grown-add h.next_block h1.next_block h2.next_block b made.taken.moves.grows made.given.moves.grows in
            let e = ap (λ (n : ℕ). one_if (has_byte (extent h2.dir n) b)) size_new in
            let f = ap (λ (n : ℕ). one_if (has_byte (extent n (2 * dir_size_of h.dir_bits)) b)) dir_new in
            omega (arith, one_, two_, g, e, f);
      }

  stays : MapStays old new h h2
  stays = double_stays old new h h2 bits_le file.parts change

  space : IsSpaceRight new h2 h2.next_block (free_extents s2)
  space = doubles.double_space_right old new h h2 h.next_block h2.next_block (free_extents s) (free_extents s2) bits_le file.parts change file.space moves

  side : IsFreeSide new h2 top2 s2
  side = made.given.side (may_give old mid h h1 top top1 s s1 at made.held made.taken copied made.copy made.less (omega (arith, large)))

  free_by : (j : ℕ) → j < entries_of h2 → free_of new h2 j ≡ free_of old h (j / 2)
  unfolding free_of
  free_by j lj = ap free_in (block_is old new h h2 bits_le file.parts change j lj)

  held : IsHeld new h2 top2 s2
  held =
      let longer = keeps.longer in
      let e = bits_le in
      let size = size_new in
      let p = pow_pos h.dir_bits in
      let reaches = made.copy.reaches (omega (arith, p)) in
      let more = given_keeps.longer in
      let d = dir_new in
      record {
        file_is = record { bits = e; dir = omega (arith, size, reaches, more, d); short = side.short; parts = stays.parts; space = space };
        side = side;
        free = λ j lj.
            rw (free_by j lj)
            (below-more h.next_block h2.next_block (free_of old h (j / 2)) moves.grows (made.held.free (j / 2) (half_below old new h h2 bits_le file.parts change j lj)));
      }

  in_extent : (place n b : ℕ) → 0 < one_if (has_byte (extent place n) b) → b < place + n
  in_extent place n b some = bool_cases (has_byte (extent place n) b) (λ t. grind (arith, nat_tests, t)) (λ f. absurd (let z : one_if (has_byte (extent place n) b) ≡ 0 = rw f refl in omega (arith, z, some)))

  lost : lost_in new h2 (free_extents s2) ≤ lost_in old h (free_extents s) + 64
  lost =
      let grows = moves.grows in
      let even = sum_even
      (λ b. all_cover new h2 (free_extents s2) b + one_if (has_byte (extent h.dir (8 * entries_of h)) b) + cover (free_extents s) b)
      (λ b. all_cover old h (free_extents s) b + one_if (has_byte (extent h2.dir (8 * entries_of h2)) b) + cover (free_extents s2) b) h2.next_block
      (λ b. doubles.whole old new h h2 bits_le file.parts change b (free_extents s) (free_extents s2)) in
      let l1 = sum_add (λ b. all_cover new h2 (free_extents s2) b + one_if (has_byte (extent h.dir (8 * entries_of h)) b)) (cover (free_extents s)) h2.next_block in
      let l2 = sum_add (all_cover new h2 (free_extents s2)) (λ b. one_if (has_byte (extent h.dir (8 * entries_of h)) b)) h2.next_block in
      let r1 = sum_add (λ b. all_cover old h (free_extents s) b + one_if (has_byte (extent h2.dir (8 * entries_of h2)) b)) (cover (free_extents s2)) h2.next_block in
      let r2 = sum_add (all_cover old h (free_extents s)) (λ b. one_if (has_byte (extent h2.dir (8 * entries_of h2)) b)) h2.next_block in
      let a = sum_all old h h.next_block h2.next_block (free_extents s) file.space grows in
      let c = below_sum h2.next_block (free_extents s) (below-more h.next_block h2.next_block (free_extents s) grows made.held.side.below) in
      let d = below_sum h2.next_block (free_extents s2) side.below in
      let dir = file.dir in
      let short = file.short in
      let x = some_sum h.dir (8 * entries_of h) h2.next_block (λ b some. let high = in_extent h.dir (8 * entries_of h) b some in omega (arith, dir, short, grows, high)) in
      let y = some_sum h2.dir (8 * entries_of h2) h2.next_block
      (λ b some. let high = in_extent h2.dir (8 * entries_of h2) b some in let fits = held.file_is.dir in let t = side.short in omega (arith, high, fits, t)) in
      let size = size_new in
      let m = made.taken.moves.most in
      let n = made.given.moves.most in
      let p = made.taken.moves.grows in
      let q = made.given.moves.grows in
      omega (arith, grows, even, l1, l2, r1, r2, a, c, d, x, y, size, m, n, p, q)

  buckets : (hash place : ℕ) (bucket : Bucket) → hash < 2 ^ 31 → IsBucketOf old h hash place bucket → IsBucketOf new h2 hash place bucket
  unfolding block_of
  buckets hash place bucket small is =
      let less = made.less in
      let e = bits_new in
      let whole : 31 - h2.dir_bits + 1 ≡ 31 - h.dir_bits = omega (arith, e, less) in
      let half : index_at h2 hash / 2 ≡ index_at h hash = shr-shr hash (31 - h2.dir_bits) 1 ∙ ap (λ (x : ℕ). hash / 2 ^ x) whole in
      let l2 = index_in h2 hash bits_le small in
      let l = index_in h hash file.bits small in
      record {
        entry = entries (index_at h2 hash) l2 ∙ ap (entry_at old h) half ∙ is.entry;
        block =
            ap (λ (n : ℕ). bucket_at (bytes_at new place n) h2.elems) block_new ∙ ap (bucket_at (bytes_at new place h.block)) elems_new
            ∙ ap (λ (z : ℤ). bucket_at (bytes_at new (natural z) h.block) h.elems) (sym is.entry)
            ∙ ap (λ (x : List ℕ). bucket_at x h.elems) (blocks (index_at h hash) l)
            ∙ ap (λ (z : ℤ). bucket_at (bytes_at old (natural z) h.block) h.elems) is.entry ∙ is.block;
      }

  pub double_gives : IsStep old new h h2 top2 s s2 64
  double_gives = record { held = held; map = stays.map; lost = lost }

  pub double_buckets : (hash place : ℕ) (bucket : Bucket) → hash < 2 ^ 31 → IsBucketOf old h hash place bucket → IsBucketOf new h2 hash place bucket
  double_buckets = buckets

pub double_holds :
    (old mid copied new : List ℕ) (h h1 h2 : Header) (top top1 top2 : ℕ) (s s1 s2 : FreeLists) (at : ℕ) → 512 ≤ h.block → h2.next_block ≤ 2 ^ 46
    → DoubleMade old mid copied new h h1 h2 top top1 top2 s s1 s2 at
    → IsStep old new h h2 top2 s s2 64 × ((hash place : ℕ) (bucket : Bucket) → hash < 2 ^ 31 → IsBucketOf old h hash place bucket → IsBucketOf new h2 hash place bucket)
double_holds old mid copied new h h1 h2 top top1 top2 s s1 s2 at large small made = (
  double_gives old mid copied new h h1 h2 top top1 top2 s s1 s2 at large made,
  double_buckets old mid copied new h h1 h2 top top1 top2 s s1 s2 at large made,
)
