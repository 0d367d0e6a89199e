-- The free side of a patched file that keeps the points.
use Rattle.std.proofs.Common.{◌≡◌, ℕ, ◌+◌, ◌-◌, ◌*◌, ◌<◌, ◌≤◌, true, List, ◌++◌, length, refl, ap, subst, ◌∙◌, inl, inr, arith}
use Rattle.std.specs.Prelude.{ℤ, pos}
use Rattle.std.specs.List.{AllByRecursion}
use Rattle.std.proofs.lemmas.Bool.{cases_lt}
use Rattle.gd_format.specs.declared.Header.{Header}
use Rattle.gd_format.specs.declared.Extent.{Extent}
use Rattle.gd_format.specs.HeaderFault.{natural, header_of}
use Rattle.gd_format.specs.Bucket.{Bucket, slots_at}
use Rattle.gd_format.specs.Avail.{Avail, extents_at}
use Rattle.gd_format.specs.File.{front_of, entry_at, entries_of, block_of, is_first}
use Rattle.gd_format.specs.Slots.{count}
use Rattle.gd_format.specs.Sound.{extent, most_of, table_of, top_of, extents_held}
use Rattle.gd_format.specs.Covers.{has_byte, cover}
use Rattle.gd_format.specs.FreeSide.{StackBlock, stack_extents, FreeLists, free_extents, IsBelow, IsFreeSide}
use Rattle.gd_file_laws.specs.Cover.{extents_in}
use Rattle.gd_file_laws.specs.Points.{HasPoints}
use Rattle.gd_file_laws.specs.Sizes.{IsHeaderIn}
use Rattle.gd_file_laws.specs.Stack.{IsWholeStack}
use Rattle.gd_file_laws.proofs.Covers.{cover-append, end_by_cover, has_in}
use Rattle.gd_file_laws.proofs.Frame.{within_ends}
use Rattle.gd_file_laws.proofs.Headers.{header_in}
use Rattle.gd_file_laws.proofs.Lists.{all-append}
use Rattle.gd_file_laws.proofs.Points.{all_some, by_points}
use Rattle.gd_file_laws.proofs.Stacks.{has_blocks, shown}
use Rattle.gd_map_laws.specs.Space.{one_if, slot_has, block_has, free_of, bucket_cover, sum_of, all_cover, IsSpaceRight}
use Rattle.gd_map_laws.specs.Sounds.{pool_of}
use Rattle.gd_map_laws.proofs.Lookup.{first_of_entry}
use Rattle.gd_map_laws.proofs.Side.{side_kept}
use Rattle.gd_map_laws.proofs.Sounds.{cover_is}
use Rattle.gd_map_laws.proofs.Space.{sum_le}
use Rattle.gd_space.specs.Calls.{free_lists}
use Rattle.gd_space.proofs.Fits.{bounds}
use Rattle.gd_space_laws.specs.Patched.{patched, AreSpelled, IsPatch}
use Rattle.gd_map_laws.proofs.Sized.{IsSized, avail_sized, free_sized, stack_sized, below_from}
use Rattle.gd_space_laws.proofs.Spelled.{two_blocks, length-patched, keeps_back, header_is, table_holds, top_is, free_is, free_reads}

-- the cover of a bucket is part of the sum over all
pub in_sum : (file : List ℕ) (h : Header) (i b : ℕ) → i < entries_of h → bucket_cover file h b i ≤ sum_of (is_first file h) (bucket_cover file h b) (entries_of h)
unfolding bucket_cover free_of block_of
in_sum file h i b li =
    let first = first_of_entry file h (entries_of h) i li in
    let e : bucket_cover file h b first.0 ≡ bucket_cover file h b i = rw first.3 refl in
    let s = sum_le (is_first file h) (bucket_cover file h b) (entries_of h) first.0 (let le = first.1 in omega arith) first.2 in
    omega (arith, e, s)

-- the header's block, the directory, the bucket's block with its records and its free extents, and the rest are parts of all
pub parts_of : (file : List ℕ) (h : Header) (table : Avail) (i at : ℕ) (bucket : Bucket) (block front : List ℕ) (pool : List Extent) (b : ℕ) → AreSpelled h table bucket block front → 512 ≤ h.block → h.block ≤ at → at + h.block ≤ length file → i < entries_of h → entry_at (patched file at block front) h i ≡ pos at
    → two_blocks h at b + one_if (has_byte (extent h.dir (8 * entries_of h)) b) + count (slot_has b) (slots_at (block_of (patched file at block front) h i) h.elems) + cover (pool ++ bucket.free) b ≤ all_cover (patched file at block front) h pool b
unfolding all_cover bucket_cover two_blocks
parts_of file h table i at bucket block front pool b spelled least behind inside li place =
    let s = in_sum (patched file at block front) h i b li in
    let a = cover-append pool bucket.free b in
    let k : one_if (block_has (patched file at block front) h i b) ≡ one_if (has_byte (extent at h.block) b) = ap (λ (z : ℤ). one_if (has_byte (extent (natural z) h.block) b)) place in
    let f = ap (λ (l : List Extent). cover l b) (free_is file h table at bucket block front spelled least behind inside i place) in
    omega (arith, s, a, k, f)

module _ (file : List ℕ) (h : Header) (table : Avail) (i at : ℕ) (bucket : Bucket) (block front : List ℕ) (patch : IsPatch file h table i at bucket block front) where
  abbrev p : List ℕ
  p = patched file at block front

  pub least : 512 ≤ h.block
  least = (bounds h patch.sizes).least

  pub large : h.block ≤ 1048576
  large = (bounds h patch.sizes).most

  pub inside : at + h.block ≤ length file
  inside =
      let ends : natural (pos at) ≤ length file - h.block = within_ends (pos at) (length file - h.block) (rw patch.place at (patch.buckets_in i patch.entry)) in
      let fits = patch.block_in in
      omega (arith, ends, fits)

  pub points : HasPoints p h
  points = (by_points p h (let l = least in omega (arith, l))).0 patch.points

  once_all : (b : ℕ) → all_cover p h (pool_of p h) b ≤ 1
  once_all b = let o = points.once b in let c = cover_is p h b in omega (arith, o, c)

  block_at : (b : ℕ) → block_has p h i b ≡ has_byte (extent at h.block) b
  block_at b = ap (λ (z : ℤ). has_byte (extent (natural z) h.block) b) patch.place

  -- the bucket stands behind the header's block
  pub behind : h.block ≤ at
  unfolding all_cover bucket_cover
  behind =
      elim (cases_lt at h.block) [
        | inl before ↦
            let o = once_all at in
            let s = in_sum p h i at patch.entry in
            let low = least in
            let one : one_if (has_byte (extent 0 h.block) at) ≡ 1 = ap one_if (has_in 0 h.block at (omega arith) (omega (arith, before))) in
            let two : one_if (block_has p h i at) ≡ 1 = ap one_if (block_at at ∙ has_in at h.block at (omega arith) (omega (arith, low))) in
            absurd (omega (arith, o, s, one, two))
        | inr after ↦ after
      ]

  pub length-is : length p ≡ length file
  length-is = length-patched file h table at bucket block front patch.spelled least behind inside

  pub front_header : header_of (front_of p) ≡ h
  front_header = header_is file h table at bucket block front patch.spelled least behind inside

  pub sizes_in : IsHeaderIn h (length p)
  sizes_in = subst (λ (g : Header). IsHeaderIn g (length p)) front_header (header_in (front_of p) (length p) patch.header)

  -- ---- the stack as blocks

  pub stack : (blocks : List StackBlock) × IsWholeStack p (most_of h) (top_of p h) blocks
  stack = has_blocks p (most_of h) (top_of p h) (let l = least in let n = length-is in let f = patch.block_in in omega (arith, l, n, f)) points.stack

  pub blocks : List StackBlock
  blocks = stack.0

  pub pool_is : pool_of p h ≡ table.extents ++ stack_extents blocks
  unfolding pool_of blocks
  pool_is =
      ap (λ (l : List Extent). extents_at (table_of p h) ++ l) (shown p (most_of h) (top_of p h) stack.0 stack.1).extents
      ∙ ap (λ (l : List Extent). l ++ stack_extents stack.0) (table_holds file h table at bucket block front patch.spelled least behind inside)

  pub space : IsSpaceRight p h h.next_block (table.extents ++ stack_extents blocks)
  space =
      let some = least in
      let sized = all_some p h (omega (arith, some)) points.table points.stack points.free in
      let ends = (end_by_cover h.next_block (extents_in (extents_held p h)) sized).0 points.ends in
      let covers = λ (x : ℕ). cover_is p h x ∙ ap (λ (l : List Extent). all_cover p h l x) pool_is in
      record {
        once = λ x. let o = points.once x in let c = covers x in omega (arith, o, c);
        below = λ x many. ends x (let c = covers x in omega (arith, c, many));
      }

  pub free_here : free_of p h i ≡ bucket.free
  free_here = free_is file h table at bucket block front patch.spelled least behind inside i patch.place

  -- ---- the free side

  abbrev lists : FreeLists
  lists = free_lists table.extents blocks bucket.free

  pub parts : (b : ℕ) → two_blocks h at b + one_if (has_byte (extent h.dir (8 * entries_of h)) b) + count (slot_has b) (slots_at (block_of p h i) h.elems) + cover (free_extents lists) b ≤ all_cover p h (table.extents ++ stack_extents blocks) b
  parts b = parts_of file h table i at bucket block front (table.extents ++ stack_extents blocks) b patch.spelled least behind inside patch.entry patch.place

  once_free : (b : ℕ) → cover (free_extents lists) b ≤ 1
  once_free b = let q = parts b in let o = space.once b in omega (arith, q, o)

  pub apart_free : (b : ℕ) → 0 < cover (free_extents lists) b → two_blocks h at b ≡ 0
  apart_free b some = let q = parts b in let o = space.once b in omega (arith, q, o, some)

  free_inside : (b : ℕ) → 0 < cover (free_extents lists) b → (h.block ≤ b) × (b < h.next_block)
  unfolding two_blocks
  free_inside b some =
      let q = parts b in
      let o = space.once b in (
        elim (cases_lt b h.block) [
          | inl lt ↦ let one : one_if (has_byte (extent 0 h.block) b) ≡ 1 = ap one_if (has_in 0 h.block b (omega arith) (omega (arith, lt))) in absurd (omega (arith, q, o, one, some))
          | inr past ↦ past
        ],
        space.below b (omega (arith, q, some)),
      )

  free_sizes : AllByRecursion IsSized (free_extents lists)
  unfolding blocks
  free_sizes =
      let most = large in
      let tables : AllByRecursion IsSized table.extents = subst (λ (l : List Extent). AllByRecursion IsSized l) (table_holds file h table at bucket block front patch.spelled least behind inside) (avail_sized (table_of p h) h.avail_size points.table) in
      let stacks = stack_sized p (most_of h) (top_of p h) stack.0 (omega (arith, most)) stack.1.stack in
      let here = free_sized p h at (subst (λ (z : ℤ). Rattle.gd_format.specs.Sound.is_free_right p h (natural z) ≡ true) patch.place (points.free i patch.entry)) in
      let buckets : AllByRecursion IsSized bucket.free = subst (λ (l : List Extent). AllByRecursion IsSized l) (free_reads file h table at bucket block front patch.spelled least behind inside) here in
      all-append IsSized (table.extents ++ stack_extents stack.0) bucket.free (all-append IsSized table.extents (stack_extents stack.0) tables stacks) buckets

  side_patched : IsFreeSide p h table.next_block lists
  unfolding blocks
  side_patched =
      let low = least in
      let f = patch.block_in in
      let n = length-is in
      let short = points.short in
      record {
        behind = omega (arith, low, f, n, short);
        short = short;
        stack = subst (λ (t : ℕ). Rattle.gd_format.specs.FreeSide.IsStack p (most_of h) t stack.0) (top_is file h table at bucket block front patch.spelled least behind inside) stack.1.stack;
        below = below_from h.next_block h.block (free_extents lists) (omega (arith, low)) free_sizes free_inside;
        once = once_free;
      }

  pub side : IsFreeSide file h table.next_block lists
  side =
      let short = points.short in
      let n = length-is in
      side_kept (two_blocks h at) p file h table.next_block lists (keeps_back file h table at bucket block front patch.spelled least behind inside) apart_free (omega (arith, short, n)) side_patched
