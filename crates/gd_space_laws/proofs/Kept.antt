-- A change of free space keeps the points of a patched file.
use Rattle.std.proofs.Common.{◌≡◌, ◌≢◌, ◌⊎◌, ℕ, ◌+◌, ◌-◌, ◌*◌, ◌^◌, ◌<◌, ◌≤◌, true, false, List, [], ◌∷◌, ◌++◌, length, None, refl, sym, ap, subst, ◌∙◌, inl, inr, arith}
use Rattle.std.specs.Prelude.{ℤ, pos, negsuc}
use Rattle.std.specs.Int.{w64, cast_signed}
use Rattle.std.specs.List.{AllByRecursion}
use Rattle.std.specs.Ordering.{int_eq}
use Rattle.std.proofs.lemmas.Bool.{cases_lt, le-leb, leb-true}
use Rattle.std.proofs.lemmas.Bool.Decides.{Decides-int_eq}
use Rattle.gd_format.specs.declared.Header.{Header}
use Rattle.gd_format.specs.declared.Extent.{Extent}
use Rattle.gd_format.specs.First.{all_below}
use Rattle.gd_format.specs.Field.{bytes_at, number_of, i64_at, u64_at}
use Rattle.gd_format.specs.HeaderFault.{natural, is_within, header_fault_of}
use Rattle.gd_format.specs.Headers.{IsHeader}
use Rattle.gd_format.specs.Bucket.{Bucket, counts_at, raw_free_at, slots_at}
use Rattle.gd_format.specs.Avail.{Avail, extents_at, is_avail, is_extent_right}
use Rattle.gd_format.specs.File.{front_of, entry_at, entries_of, block_of, is_first, is_other_entry}
use Rattle.gd_format.specs.Slots.{count, SameSlots}
use Rattle.gd_format.specs.Sound.{extent, most_of, table_of, top_of, extents_held, is_free_right, meets_none, total, lost_total}
use Rattle.gd_format.specs.Covers.{has_byte, cover, size_sum}
use Rattle.gd_format.specs.FreeSide.{StackBlock, IsStack, stack_extents, free_extents, IsBelow, IsFreeSide}
use Rattle.gd_format.proofs.Firsts.{and-true, both_true}
use Rattle.gd_layout.specs.Fits.{IsHeaderOf}
use Rattle.gd_layout.proofs.HeaderFields as fields
use Rattle.gd_file_laws.specs.Cover.{extents_in, AreLarge}
use Rattle.gd_file_laws.specs.Points.{HasPoints}
use Rattle.gd_file_laws.specs.Stack.{StackShown}
use Rattle.gd_file_laws.proofs.Covers.{cover-append, end_by_cover, has_in}
use Rattle.gd_file_laws.proofs.Frame.{within_ends}
use Rattle.gd_file_laws.proofs.Lists.{bool_cases, all_left, all_right}
use Rattle.gd_file_laws.proofs.Points.{all_some, by_points}
use Rattle.gd_file_laws.proofs.Stacks.{shown, distinct_apart}
use Rattle.gd_file_laws.proofs.Walk.{same_start}
use Rattle.gd_map_laws.specs.Space.{one_if, slot_has, block_has, free_in, free_of, bucket_cover, sum_of, all_cover, IsSpaceRight, SpaceChange}
use Rattle.gd_map_laws.specs.Space as space
use Rattle.gd_map_laws.specs.Frame.{KeepsBut}
use Rattle.gd_map_laws.specs.Sounds.{pool_of}
use Rattle.gd_map_laws.proofs.Lookup.{first_of_entry}
use Rattle.gd_map_laws.proofs.Side.{side_kept}
use Rattle.gd_map_laws.proofs.Sounds.{cover_is, below_is_avail, below_is_right}
use Rattle.gd_map_laws.proofs.Space.{whole, first_same, grown-some, space_changed, sum_change, sum_same}
use Rattle.gd_map_laws.proofs.Stays.{keeps_join, two_in_all}
use Rattle.gd_space.specs.Effect.{Change}
use Rattle.gd_space.specs.Effect as effect
use Rattle.gd_space.specs.Calls.{free_lists}
use Rattle.gd_space_laws.specs.Patched.{patched, AreSpelled, IsPatch, free_cover}
use Rattle.gd_space_laws.specs.PatchedLaws.{PatchKept}
use Rattle.gd_space_laws.proofs.Meets.{meets_no}
use Rattle.gd_space_laws.proofs.Lost.{totals, fits_before, lost_is}
use Rattle.gd_space_laws.proofs.Patches.{parts_of, blocks}
use Rattle.gd_space_laws.proofs.Patches as before
use Rattle.gd_space_laws.proofs.Spelled.{two_blocks, length-patched, keeps, keeps_back, front_is, table_holds, top_is, count_is, free_is, free_reads, slots_are}

-- ---- words that a header's next_block and capacity do not change

abbrev pub with_fields : Header → (next capacity : ℕ) → Header
with_fields h next capacity = record h { next_block = next; avail_size = capacity }

module _ (file : List ℕ) (h : Header) (n a : ℕ) where
  entry_shape : (j : ℕ) → entry_at file (with_fields h n a) j ≡ entry_at file h j
  unfolding entry_at
  entry_shape j = refl

  cover_shape : (pool : List Extent) (b : ℕ) → all_cover file (with_fields h n a) pool b ≡ all_cover file h pool b
  unfolding all_cover bucket_cover free_of block_of is_first is_other_entry entry_at
  cover_shape pool b = refl

  free_shape : (b : ℕ) → free_cover file (with_fields h n a) b ≡ cover (pool_of file (with_fields h n a)) b + sum_of (is_first file h) (λ j. cover (free_of file h j) b) (entries_of h)
  unfolding free_cover free_of block_of is_first is_other_entry entry_at
  free_shape b = refl

at_entry : (file : List ℕ) (h : Header) (k j : ℕ) → entry_at file h k ≡ entry_at file h j → free_of file h k ≡ free_of file h j
unfolding free_of block_of
at_entry file h k j e = rw e refl

pub cover_more : (file : List ℕ) (h : Header) (pool more : List Extent) (b : ℕ) → all_cover file h (pool ++ more) b ≡ all_cover file h pool b + cover more b
unfolding all_cover
cover_more file h pool more b = let e = cover-append pool more b in omega (arith, e)

-- the new room, as an extent and as a range
grown_same : (next next' b : ℕ) → next ≤ next' → cover (effect.grown next next') b ≡ space.grown next next' b
grown_same next next' b le = let e : next + (next' - next) ≡ next' = omega arith in rw e (omega arith)

within_more : (z : ℤ) (m k : ℕ) → m ≤ k → is_within z 0 m ≡ true → is_within z 0 k ≡ true
within_more (pos n) m k le h = let both = and-true _ _ h in let l = leb-true n m both.1 in both_true _ _ both.0 (le-leb n k (omega arith))
within_more (negsuc n) m k le h = absurd cc

module _ (file file' : List ℕ) (h : Header) (n a : ℕ) (table table' : Avail) (i at : ℕ) (bucket bucket' : Bucket) (block front block' front' : List ℕ) (given taken : List Extent) (blocks' : List StackBlock) (lost : ℕ) (patch : IsPatch file h table i at bucket block front) (change : Change file file' h (with_fields h n a) table.next_block table'.next_block (free_lists table.extents (blocks file h table i at bucket block front patch) bucket.free) (free_lists table'.extents blocks' bucket'.free) given taken lost) (right : IsSpaceRight (patched file at block front) h h.next_block (table.extents ++ stack_extents (blocks file h table i at bucket block front patch) ++ given)) (sizes : IsHeader (with_fields h n a)) (few : length table'.extents ≤ a) (slots : bucket'.slots ≡ bucket.slots) (spelled : AreSpelled (with_fields h n a) table' bucket' block' front') where
  abbrev p : List ℕ
  p = patched file at block front

  abbrev p' : List ℕ
  p' = patched file' at block' front'

  abbrev h' : Header
  h' = with_fields h n a

  abbrev pool : List Extent
  pool = table.extents ++ stack_extents (blocks file h table i at bucket block front patch)

  abbrev pool' : List Extent
  pool' = table'.extents ++ stack_extents blocks'

  abbrev lists_before : List Extent
  lists_before = free_extents (free_lists table.extents (blocks file h table i at bucket block front patch) bucket.free)

  least : 512 ≤ h.block
  least = before.least file h table i at bucket block front patch

  behind : h.block ≤ at
  behind = before.behind file h table i at bucket block front patch

  inside : at + h.block ≤ length file
  inside = before.inside file h table i at bucket block front patch

  inside' : at + h.block ≤ length file'
  inside' = let l = change.keeps.longer in let q = inside in omega (arith, l, q)

  length-is : length p ≡ length file
  length-is = before.length-is file h table i at bucket block front patch

  length-new : length p' ≡ length file'
  length-new = length-patched file' h' table' at bucket' block' front' spelled least behind inside'

  longer : length file ≤ length file'
  longer = change.keeps.longer

  -- ---- from one patched file to the other

  touched : ℕ → ℕ
  touched b = two_blocks h at b + cover (lists_before ++ given) b

  two_same : (b : ℕ) → two_blocks h' at b ≡ two_blocks h at b
  unfolding two_blocks
  two_same b = refl

  keeps_mid : KeepsBut (λ b. cover (lists_before ++ given) b) file file'
  keeps_mid = record { longer = change.keeps.longer; bytes = change.keeps.bytes }

  keeps_all : KeepsBut touched p p'
  unfolding touched
  keeps_all =
      keeps_join (λ b. two_blocks h at b + cover (lists_before ++ given) b) (two_blocks h' at) (λ b. two_blocks h at b + cover (lists_before ++ given) b) p file' p'
      (λ x lt z. (z, let s = two_same x in omega (arith, z, s)))
      (keeps_join (two_blocks h at) (λ b. cover (lists_before ++ given) b) (λ b. two_blocks h at b + cover (lists_before ++ given) b) p file file' (λ x lt z. (omega (arith, z), omega (arith, z)))
      (keeps_back file h table at bucket block front patch.spelled least behind inside) keeps_mid)
      (keeps file' h' table' at bucket' block' front' spelled least behind inside')

  parts_given : (b : ℕ) → touched b + one_if (has_byte (extent h.dir (8 * entries_of h)) b) ≤ all_cover p h (pool ++ given) b
  unfolding touched
  parts_given b =
      let q = before.parts file h table i at bucket block front patch b in
      let m = cover_more p h pool given b in
      let l = cover-append lists_before given b in
      omega (arith, q, m, l)

  entries : (j : ℕ) → j < entries_of h → entry_at p' h j ≡ entry_at p h j
  unfolding entry_at i64_at u64_at
  entries j lj =
      let dir = (before.sizes_in file h table i at bucket block front patch).dir in
      ap (λ (bs : List ℕ). cast_signed w64 (number_of bs))
      (keeps_all.bytes (h.dir + 8 * j) 8 (omega (arith, dir, lj))
      (λ b low high.
      let has : one_if (has_byte (extent h.dir (8 * entries_of h)) b) ≡ 1 = ap one_if (has_in h.dir (8 * entries_of h) b (omega (arith, low)) (omega (arith, high, lj))) in
      let q = parts_given b in
      let o = right.once b in
      omega (arith, has, q, o)))

  before_is : SameSlots (slots_at (block_of p h i) h.elems) ([] ++ bucket.slots)
  before_is = λ q e. ap (count q) (slots_are file h table at bucket block front patch.spelled least behind inside i patch.place)

  -- what is touched meets no block of another bucket
  other_free : (b j : ℕ) → j < entries_of h → entry_at p h j ≢ entry_at p h i → block_has p h j b ≡ true → touched b ≡ 0
  unfolding touched all_cover bucket_cover two_blocks
  other_free b j lj ne has =
      let o = right.once b in
      let m = cover_more p h pool given b in
      let two = two_in_all p h i h.next_block pool [] bucket.slots patch.entry (before.space file h table i at bucket block front patch) before_is b j lj ne in
      let one : one_if (block_has p h j b) ≡ 1 = ap one_if has in
      let here : one_if (block_has p h i b) ≡ one_if (has_byte (extent at h.block) b) = ap (λ (z : ℤ). one_if (has_byte (extent (natural z) h.block) b)) patch.place in
      let f = ap (λ (l : List Extent). cover l b) (before.free_here file h table i at bucket block front patch) in
      let l = cover-append lists_before given b in
      let l2 = cover-append pool bucket.free b in
      omega (arith, o, m, two, one, here, f, l, l2)

  others : (j : ℕ) → j < entries_of h → entry_at p h j ≢ entry_at p h i → block_of p' h j ≡ block_of p h j
  unfolding block_of
  others j lj ne =
      let ends = within_ends (entry_at p h j) (length file - h.block) (patch.buckets_in j lj) in
      let fits = patch.block_in in
      let long = length-is in
      ap (λ (z : ℤ). bytes_at p' (natural z) h.block) (entries j lj)
      ∙ keeps_all.bytes (natural (entry_at p h j)) h.block (omega (arith, ends, fits, long))
      (λ b low high. other_free b j lj ne (has_in (natural (entry_at p h j)) h.block b low high))

  -- ---- the space

  place' : entry_at p' h i ≡ pos at
  place' = entries i patch.entry ∙ patch.place

  place_new : entry_at p' h' i ≡ pos at
  place_new = entry_shape p' h n a i ∙ place'

  free_same : (j : ℕ) → free_of p' h' j ≡ free_of p' h j
  unfolding free_of block_of entry_at
  free_same j = refl

  slots_same : slots_at (block_of p' h' i) h'.elems ≡ slots_at (block_of p' h i) h.elems
  unfolding block_of entry_at
  slots_same = refl

  free_new : free_of p' h i ≡ bucket'.free
  free_new = sym (free_same i) ∙ free_is file' h' table' at bucket' block' front' spelled least behind inside' i place_new

  slots_new : slots_at (block_of p' h i) h.elems ≡ bucket.slots
  slots_new = sym slots_same ∙ slots_are file' h' table' at bucket' block' front' spelled least behind inside' i place_new ∙ slots

  grows : h.next_block ≤ n
  grows = change.moves.grows

  balance : (b : ℕ) → cover pool' b + cover bucket'.free b + cover taken b ≤ cover pool b + cover bucket.free b + cover given b + space.grown h.next_block n b
  balance b =
      let m = change.moves.bytes b in
      let g = grown_same h.next_block n b grows in
      let l = cover-append pool bucket.free b in
      let l2 = cover-append pool' bucket'.free b in
      omega (arith, m, g, l, l2)

  changed : SpaceChange p p' h i [] [] bucket.slots h.next_block n (pool ++ given) (pool' ++ taken)
  changed = record {
    entries = entries;
    others = others;
    before_is = before_is;
    after_is = λ q e. ap (count q) slots_new;
    grows = grows;
    moves =
        λ b.
        let k = balance b in
        let u = ap (λ (l : List Extent). cover l b) free_new in
        let v = ap (λ (l : List Extent). cover l b) (before.free_here file h table i at bucket block front patch) in
        let x = cover-append pool given b in
        let y = cover-append pool' taken b in
        omega (arith, k, u, v, x, y);
  }

  space_taken : IsSpaceRight p' h n (pool' ++ taken)
  space_taken = space_changed p p' h i [] [] bucket.slots h.next_block n (pool ++ given) (pool' ++ taken) patch.entry right changed

  once_new : (b : ℕ) → all_cover p' h' pool' b + cover taken b ≤ 1
  once_new b = let o = space_taken.once b in let m = cover_more p' h pool' taken b in let s = cover_shape p' h n a pool' b in omega (arith, o, m, s)

  below_new : (b : ℕ) → 0 < all_cover p' h' pool' b → b < n
  below_new b some = space_taken.below b (let m = cover_more p' h pool' taken b in let s = cover_shape p' h n a pool' b in omega (arith, m, s, some))

  -- ---- the stack

  apart_new : (b : ℕ) → 0 < cover (free_extents (free_lists table'.extents blocks' bucket'.free)) b → two_blocks h' at b ≡ 0
  apart_new b some =
      let q = parts_of file' h' table' i at bucket' block' front' pool' b spelled least behind inside' patch.entry place_new in
      let o = once_new b in
      omega (arith, q, o, some)

  side_new : IsFreeSide p' h' table'.next_block (free_lists table'.extents blocks' bucket'.free)
  side_new =
      let s = change.side.short in
      let l = length-new in
      side_kept (two_blocks h' at) file' p' h' table'.next_block (free_lists table'.extents blocks' bucket'.free) (keeps file' h' table' at bucket' block' front' spelled least behind inside') apart_new (omega (arith, s, l)) change.side

  stack_new : IsStack p' (most_of h') (top_of p' h') blocks'
  stack_new = subst (λ (t : ℕ). IsStack p' (most_of h') t blocks') (sym (top_is file' h' table' at bucket' block' front' spelled least behind inside')) side_new.stack

  stack_once : (b : ℕ) → cover (stack_extents blocks') b ≤ 1
  stack_once b =
      let o = change.side.once b in
      let x = cover-append pool' bucket'.free b in
      let y = cover-append table'.extents (stack_extents blocks') b in
      omega (arith, o, x, y)

  shows : StackShown p' (most_of h') (top_of p' h') blocks'
  shows = shown p' (most_of h') (top_of p' h') blocks' (record { stack = stack_new; distinct = distinct_apart blocks' stack_once })

  table_new : extents_at (table_of p' h') ≡ table'.extents
  table_new = table_holds file' h' table' at bucket' block' front' spelled least behind inside'

  pool_new : pool_of p' h' ≡ pool'
  unfolding pool_of
  pool_new = ap (λ (l : List Extent). extents_at (table_of p' h') ++ l) shows.extents ∙ ap (λ (l : List Extent). l ++ stack_extents blocks') table_new

  -- ---- the points

  small : n ≤ 2 ^ 63
  small = let m = sizes.next_block in omega (arith, m)

  tables_below : AllByRecursion (IsBelow n) (extents_at (table_of p' h'))
  tables_below = subst (λ (l : List Extent). AllByRecursion (IsBelow n) l) (sym table_new) (all_left (IsBelow n) table'.extents (stack_extents blocks') (all_left (IsBelow n) pool' bucket'.free change.side.below))

  table_right : is_avail (table_of p' h') a ≡ true
  table_right =
      let c = count_is file' h' table' at bucket' block' front' spelled least behind inside' in
      below_is_avail (table_of p' h') a n small (rw c (both_true _ _ (le-leb 0 (length table'.extents) (omega arith)) (le-leb (length table'.extents) a few))) tables_below

  bucket_below : AllByRecursion (IsBelow n) (free_in (bytes_at p' at h'.block))
  bucket_below = subst (λ (l : List Extent). AllByRecursion (IsBelow n) l) (sym (free_reads file' h' table' at bucket' block' front' spelled least behind inside')) (all_right (IsBelow n) pool' bucket'.free change.side.below)

  free_other : (j : ℕ) → j < entries_of h → entry_at p h j ≢ entry_at p h i → is_free_right p' h' (natural (entry_at p' h' j)) ≡ true
  unfolding is_free_right block_of
  free_other j lj ne =
      let old = (before.points file h table i at bucket block front patch).free j lj in
      ap (λ (z : ℤ). all_below (natural (counts_at (bytes_at p' (natural z) h.block)).free) (λ e. is_extent_right (raw_free_at (bytes_at p' (natural z) h.block) e))) (entry_shape p' h n a j)
      ∙ ap (λ (bs : List ℕ). all_below (natural (counts_at bs).free) (λ e. is_extent_right (raw_free_at bs e))) (others j lj ne) ∙ old

  free_all : (j : ℕ) → j < entries_of h' → is_free_right p' h' (natural (entry_at p' h' j)) ≡ true
  free_all j lj =
      bool_cases (int_eq (entry_at p h j) (entry_at p h i))
      (λ t.
      let same : entry_at p h j ≡ entry_at p h i = (Decides-int_eq (entry_at p h j) (entry_at p h i)).0 t in
      let here : entry_at p' h' j ≡ pos at = entry_shape p' h n a j ∙ entries j lj ∙ same ∙ patch.place in
      ap (λ (z : ℤ). is_free_right p' h' (natural z)) here ∙ below_is_right p' h' at n small bucket_below)
      (λ f. free_other j lj (λ same. let bad : true ≡ false = sym ((Decides-int_eq (entry_at p h j) (entry_at p h i)).1 same) ∙ f in absurd cc))

  large_new : AreLarge (extents_in (extents_held p' h'))
  large_new = all_some p' h' (let l = least in omega (arith, l)) table_right shows.fault free_all

  covers_new : (b : ℕ) → cover (extents_in (extents_held p' h')) b ≡ all_cover p' h' pool' b
  covers_new b = cover_is p' h' b ∙ ap (λ (l : List Extent). all_cover p' h' l b) pool_new

  points_new : HasPoints p' h'
  points_new = record {
    short = side_new.short;
    table = table_right;
    stack = shows.fault;
    free = free_all;
    ends = (end_by_cover n (extents_in (extents_held p' h')) large_new).1 (λ b some. below_new b (let c = covers_new b in omega (arith, c, some)));
    once = λ b. let o = once_new b in let c = covers_new b in omega (arith, o, c);
  }

  -- ---- the header

  header_before : IsHeaderOf h (length p)
  header_before = subst (λ (g : Header). IsHeaderOf g (length p)) (before.front_header file h table i at bucket block front patch) (fields.header_is (front_of p) (length p) patch.header)

  no_fault : header_fault_of (front_of p') (length p') ≡ None
  no_fault =
      let old = header_before in
      let dir = old.dir in
      let l = length-is in
      let m = length-new in
      let g = longer in
      let b = patch.block_in in
      ap (λ (xs : List ℕ). header_fault_of xs (length p')) (front_is file' h' table' at bucket' block' front' spelled least behind inside')
      ∙ spelled.fault (length p') (record { header = sizes; magic = old.magic; block = omega (arith, b, g, m); dir = omega (arith, dir, l, m, g) })

  pub patch_new : IsPatch file' h' table' i at bucket' block' front'
  patch_new =
      let b = patch.block_in in
      let g = longer in
      record {
        spelled = spelled;
        sizes = sizes;
        entry = patch.entry;
        place = place_new;
        block_in = omega (arith, b, g);
        buckets_in =
            λ j lj.
            within_more (entry_at p' h' j) (length file - h.block) (length file' - h.block) (omega (arith, g)) (rw (entry_shape p' h n a j, entries j lj) (patch.buckets_in j lj));
        header = no_fault;
        points = (by_points p' h' (let l = least in omega (arith, l))).1 points_new;
      }

  -- ---- what was taken, and what is free

  all_meet : (es : List Extent) → AreLarge es → ((b : ℕ) → cover (extents_in (extents_held p' h')) b + cover es b ≤ 1) → AllByRecursion (λ e. meets_none e (extents_held p' h') ≡ true) es
  all_meet [] some once = tt
  all_meet (e ∷ es) some once = (
    meets_no e (extents_held p' h') some.0 large_new (λ b. let o = once b in omega (arith, o)),
    all_meet es some.1 (λ b. let o = once b in omega (arith, o)),
  )

  sums : (b : ℕ) → sum_of (is_first p' h) (λ j. cover (free_of p' h j) b) (entries_of h) + cover bucket.free b ≡ sum_of (is_first p h) (λ j. cover (free_of p h j) b) (entries_of h) + cover bucket'.free b
  unfolding free_of
  sums b =
      let k = first_of_entry p h (entries_of h) i patch.entry in
      let lk : k.0 < entries_of h = let le = k.1 in let li = patch.entry in omega (arith, le, li) in
      let is = sum_same (is_first p' h) (is_first p h) (λ j. cover (free_of p' h j) b) (λ j. cover (free_of p' h j) b) (entries_of h) (first_same p p' h entries) (λ j l q. refl) in
      let one = sum_change (is_first p h) (λ j. cover (free_of p' h j) b) (λ j. cover (free_of p h j) b) (entries_of h) k.0 lk k.2
      (λ j lj pj ne. ap (λ (bs : List ℕ). cover (free_in bs) b) (others j lj (λ e. ne (same_start p h k.0 j k.2 pj (e ∙ sym k.3))))) in
      let u : cover (free_of p h k.0) b ≡ cover bucket.free b = ap (λ (l : List Extent). cover l b) (at_entry p h k.0 i k.3 ∙ before.free_here file h table i at bucket block front patch) in
      let v : cover (free_of p' h k.0) b ≡ cover bucket'.free b = ap (λ (l : List Extent). cover l b) (at_entry p' h k.0 i (entries k.0 lk ∙ k.3 ∙ sym (entries i patch.entry)) ∙ free_new) in
      omega (arith, is, one, u, v)

  free_from : (b : ℕ) → 0 < free_cover p' h' b → (0 < free_cover p h b) ⊎ (0 < cover given b) ⊎ (h.next_block ≤ b)
  unfolding free_cover
  free_from b some =
      let s = sums b in
      let k = balance b in
      let shape = free_shape p' h n a b in
      let new = ap (λ (l : List Extent). cover l b) pool_new in
      let old = ap (λ (l : List Extent). cover l b) (before.pool_is file h table i at bucket block front patch) in
      elim (cases_lt 0 (free_cover p h b)) [
        | inl there ↦ inl there
        | inr none ↦ elim (cases_lt 0 (cover given b)) [
          | inl there ↦ inr (inl there)
          | inr not ↦ inr (inr (grown-some h.next_block n b (omega (arith, s, k, shape, new, old, some, none, not))).0)
        ]
      ]

  -- ---- what is lost

  lists_after : List Extent
  lists_after = free_extents (free_lists table'.extents blocks' bucket'.free)

  covers_old : (b : ℕ) → cover (extents_in (extents_held p h)) b ≡ all_cover p h pool b
  covers_old b = cover_is p h b ∙ ap (λ (l : List Extent). all_cover p h l b) (before.pool_is file h table i at bucket block front patch)

  below_old : (b : ℕ) → 0 < all_cover p h pool b → b < n
  below_old b some = let l = (before.space file h table i at bucket block front patch).below b some in let g = grows in omega (arith, l, g)

  free_before : (b : ℕ) → cover lists_before b ≤ all_cover p h pool b
  free_before b = let q = before.parts file h table i at bucket block front patch b in omega (arith, q)

  free_after : (b : ℕ) → cover lists_after b ≤ all_cover p' h' pool' b
  unfolding lists_after
  free_after b = let q = parts_of file' h' table' i at bucket' block' front' pool' b spelled least behind inside' patch.entry place_new in omega (arith, q)

  balanced : (b : ℕ) → cover (extents_in (extents_held p h)) b + cover lists_after b ≡ cover (extents_in (extents_held p' h')) b + cover lists_before b
  unfolding lists_after
  balanced b =
      let w = whole p p' h i [] [] bucket.slots h.next_block n (pool ++ given) (pool' ++ taken) patch.entry right changed b in
      let u = ap (λ (l : List Extent). cover l b) free_new in
      let v = ap (λ (l : List Extent). cover l b) (before.free_here file h table i at bucket block front patch) in
      let x = cover-append pool given b in
      let y = cover-append pool' taken b in
      let k = cover_more p h pool given b in
      let m = cover_more p' h pool' taken b in
      let s = cover_shape p' h n a pool' b in
      let l = cover-append pool bucket.free b in
      let l2 = cover-append pool' bucket'.free b in
      let c = covers_old b in
      let d = covers_new b in
      omega (arith, w, u, v, x, y, k, m, s, l, l2, c, d)

  sum_is : total (extents_held p h) + size_sum lists_after ≡ total (extents_held p' h') + size_sum lists_before
  sum_is =
      totals (extents_held p h) (extents_held p' h') lists_before lists_after n balanced
      (λ b some. below_old b (let c = covers_old b in omega (arith, c, some)))
      (λ b some. below_new b (let c = covers_new b in omega (arith, c, some)))
      (λ b some. below_old b (let c = free_before b in omega (arith, c, some)))
      (λ b some. below_new b (let c = free_after b in omega (arith, c, some)))

  fits_old : total (extents_held p h) ≤ h.next_block
  fits_old =
      fits_before (extents_held p h) h.next_block (before.points file h table i at bucket block front patch).once
      (λ b some. (before.space file h table i at bucket block front patch).below b (let c = covers_old b in omega (arith, c, some)))

  fits_new : total (extents_held p' h') ≤ n
  fits_new = fits_before (extents_held p' h') n points_new.once (λ b some. below_new b (let c = covers_new b in omega (arith, c, some)))

  lost_old : lost_total p ≡ h.next_block - total (extents_held p h)
  lost_old = lost_is p h (before.front_header file h table i at bucket block front patch)

  lost_new : lost_total p' ≡ n - total (extents_held p' h')
  lost_new = lost_is p' h' (before.front_header file' h' table' i at bucket' block' front' patch_new)

  lost_least : lost_total p + size_sum taken ≤ lost_total p' + size_sum given
  unfolding lists_after
  lost_least = let s = sum_is in let f = fits_old in let g = fits_new in let a = lost_old in let b = lost_new in let m = change.moves.least in let k = grows in omega (arith, s, f, g, a, b, m, k)

  lost_most : lost_total p' + size_sum given ≤ lost_total p + size_sum taken + lost
  unfolding lists_after
  lost_most = let s = sum_is in let f = fits_old in let g = fits_new in let a = lost_old in let b = lost_new in let m = change.moves.most in let k = grows in omega (arith, s, f, g, a, b, m, k)

  pub kept_new : AreLarge taken → PatchKept p p' h h' given taken lost
  kept_new some = record { meets = all_meet taken some (λ b. let o = once_new b in let c = covers_new b in omega (arith, o, c)); from = free_from; lost_least = lost_least; lost_most = lost_most }
