-- The extents of a sound file by what they cover, and its free side.
use Rattle.std.proofs.Common.{◌≡◌, ℕ, zero, suc, ◌+◌, ◌-◌, ◌*◌, ◌^◌, ◌<◌, ◌≤◌, Bool, true, false, ◌&&◌, not, ltb, List, [], ◌∷◌, ◌++◌, map, length, refl, sym, ap, ◌∙◌, inl, inr, arith}
use Rattle.std.specs.Prelude.{◌==◌, filter}
use Rattle.std.specs.List.{range_with_len, flat_map, AllByRecursion}
use Rattle.std.specs.Int.{w32, w64, cast_unsigned, cast_signed}
use Rattle.std.proofs.lemmas.Bool.{cases_lt, ltb-false}
use Rattle.std.proofs.lemmas.Bool.Decides.{nat_tests, Decides-eqb}
use Rattle.std.proofs.lemmas.List.{map-append, append-nil}
use Rattle.gd_format.specs.declared.Header.{Header}
use Rattle.gd_format.specs.declared.Extent.{Extent}
use Rattle.gd_format.specs.declared.Held.{Held}
use Rattle.gd_format.specs.declared.RawSlot.{RawSlot}
use Rattle.gd_format.specs.declared.RawExtent.{RawExtent}
use Rattle.gd_format.specs.Field.{bytes_at, u32_at, u64_at, i32_at, i64_at}
use Rattle.gd_format.specs.First.{list_below}
use Rattle.gd_format.specs.HeaderFault.{natural, is_within, header_of}
use Rattle.gd_format.specs.Bucket.{counts_at, raw_slot_at, raw_free_at, slot_of, slots_at, extent_of, is_empty_hash, is_from_zero}
use Rattle.gd_format.specs.Avail.{count_at, raw_extent_at, extent_at, extents_at, is_avail, is_extent_right, is_extent_right_at, avail_size}
use Rattle.gd_format.specs.File.{front_of, entry_at, entries_of, block_of, is_first, first_indexes, places_of, is_full_at, size_of}
use Rattle.gd_format.specs.Slots.{count}
use Rattle.gd_format.specs.Sound.{IsSound, extent, table_of, most_of, top_of, place_of, held_by, bucket_held, record_held, takes_place, records_held, table_held, stack_held, stack_places, free_held, extents_held, is_free_right}
use Rattle.gd_format.specs.Covers.{has_byte, cover}
use Rattle.gd_format.specs.FreeSide.{StackBlock, IsStack, stack_extents, IsBelow, IsFreeSide}
use Rattle.gd_format.proofs.Firsts.{and-true, both_true, all_below_from}
use Rattle.gd_file_laws.specs.Cover.{extents_in}
use Rattle.gd_file_laws.specs.Points.{HasSoundParts}
use Rattle.gd_file_laws.specs.Sizes.{IsHeaderIn}
use Rattle.gd_file_laws.specs.Stack.{IsWholeStack}
use Rattle.gd_file_laws.proofs.Lists.{bool_cases, filter_yes, filter_no, all-append, all_left, all_right}
use Rattle.gd_file_laws.proofs.Covers.{cover-append, end_by_cover, has_in}
use Rattle.gd_file_laws.proofs.Headers.{header_in}
use Rattle.gd_file_laws.proofs.Points.{all_some, sound_parts, made_sound}
use Rattle.gd_file_laws.proofs.Stacks.{shown, has_blocks, distinct_apart, extents_held_by}
use Rattle.gd_map_laws.specs.Space.{one_if, slot_has, free_in, free_of, bucket_cover, sum_of, all_cover}
use Rattle.gd_map_laws.specs.Sounds.{pool_of, IsSoundBy, lists_of}
use Rattle.gd_map_laws.proofs.Lists.{count-append, joined, joined_yes, joined_no}
use Rattle.gd_map_laws.proofs.Stays.{bucket_in_all}
use Rattle.gd_map_laws.proofs.Sized.{IsSized, avail_sized, free_sized, stack_sized, below_from}

-- ---- the records of a bucket

empty_has : (at b : ℕ) → has_byte (extent at 0) b ≡ false
empty_has at b = grind (arith, nat_tests)

slot_is : (r : RawSlot) (b : ℕ) → slot_has b (slot_of r) ≡ (not (is_empty_hash r.hash) && has_byte (extent (natural r.at) (size_of r)) b)
unfolding slot_of
slot_is r b = bool_cases (is_empty_hash r.hash) (λ t. rw t refl) (λ f. rw f refl)

not_placed : (full : Bool) (at size b : ℕ) → (full && not (size == 0)) ≡ false → (full && has_byte (extent at size) b) ≡ false
not_placed false at size b h = refl
not_placed true at size b h =
    bool_cases (size == 0)
    (λ t. let z : size ≡ 0 = (Decides-eqb size 0).0 t in rw z (empty_has at b))
    (λ f. let bad : true ≡ false = rw f at h in absurd cc)

module _ (block : List ℕ) (b : ℕ) where
  slot_at : (n : ℕ) → slot_has b (slot_of (raw_slot_at block n)) ≡ (is_full_at block n && has_byte (record_held block n).extent b)
  unfolding is_full_at record_held
  slot_at n = slot_is (raw_slot_at block n) b

  full_of : (n : ℕ) → takes_place block n ≡ true → is_full_at block n ≡ true
  unfolding takes_place
  full_of n t = (and-true _ _ t).0

  none_of : (n : ℕ) → takes_place block n ≡ false → (is_full_at block n && has_byte (record_held block n).extent b) ≡ false
  unfolding takes_place record_held
  none_of n f = not_placed (is_full_at block n) (natural (raw_slot_at block n).at) (size_of (raw_slot_at block n)) b f

  records_cover : (n : ℕ) → cover (extents_in (map (record_held block) (filter (takes_place block) (range_with_len 0 n)))) b ≡ count (slot_has b) (slots_at block n)
  records_cover zero = refl
  records_cover (suc n) =
      let ih = records_cover n in
      let s = count-append (slot_has b) (slots_at block n) (slot_of (raw_slot_at block n) ∷ []) in
      let here = slot_at n in
      bool_cases (takes_place block n)
      (λ t.
      let e = ap (λ (l : List ℕ). extents_in (map (record_held block) l)) (filter_yes (takes_place block) n t) in
      let m : extents_in (map (record_held block) (filter (takes_place block) (range_with_len 0 n) ++ n ∷ [])) ≡ extents_in (map (record_held block) (filter (takes_place block) (range_with_len 0 n))) ++ (record_held block n).extent ∷ [] =
      ap extents_in (map-append (record_held block) (filter (takes_place block) (range_with_len 0 n)) (n ∷ [])) ∙ map-append (λ (k : Held). k.extent) (map (record_held block) (filter (takes_place block) (range_with_len 0 n))) (record_held block n ∷ []) in
      let c = ap (λ (l : List Extent). cover l b) (e ∙ m) ∙ cover-append (extents_in (map (record_held block) (filter (takes_place block) (range_with_len 0 n)))) ((record_held block n).extent ∷ []) b in
      let full = full_of n t in
      let has : slot_has b (slot_of (raw_slot_at block n)) ≡ has_byte (record_held block n).extent b = here ∙ rw full refl in
      let o = ap one_if has in
      omega (arith, c, ih, s, o))
      (λ f.
      let c = ap (λ (l : List ℕ). cover (extents_in (map (record_held block) l)) b) (filter_no (takes_place block) n f) in
      let has : slot_has b (slot_of (raw_slot_at block n)) ≡ false = here ∙ none_of n f in
      let o = ap one_if has in
      omega (arith, c, ih, s, o))

-- ---- lists over places

held_over : (g : ℕ → List Held) (e : ℕ → ℕ) (js : List ℕ) → extents_in (flat_map g (map e js)) ≡ flat_map (λ i. extents_in (g (e i))) js
held_over g e [] = refl
held_over g e (j ∷ js) = map-append (λ (k : Held). k.extent) (g (e j)) (flat_map g (map e js)) ∙ ap (λ (l : List Extent). extents_in (g (e j)) ++ l) (held_over g e js)

held_each : (g : ℕ → Held) (e : ℕ → ℕ) (js : List ℕ) → extents_in (map g (map e js)) ≡ flat_map (λ i. (g (e i)).extent ∷ []) js
held_each g e [] = refl
held_each g e (j ∷ js) = ap (λ (l : List Extent). (g (e j)).extent ∷ l) (held_each g e js)

cover_joined : (p : ℕ → Bool) (f : ℕ → List Extent) (b n : ℕ) → cover (joined p f n) b ≡ sum_of p (λ i. cover (f i) b) n
unfolding joined
cover_joined p f b zero = refl
cover_joined p f b (suc n) =
    let ih = cover_joined p f b n in
    bool_cases (p n)
    (λ t. let e = ap (λ (es : List Extent). cover es b) (joined_yes p f n t) ∙ cover-append (joined p f n) (f n) b in rw t (omega (arith, e, ih)))
    (λ u. let e = ap (λ (es : List Extent). cover es b) (joined_no p f n u) in rw u (omega (arith, e, ih)))

sum_three : (p : ℕ → Bool) (f g k t : ℕ → ℕ) (n : ℕ) → ((i : ℕ) → t i ≡ f i + g i + k i) → sum_of p t n ≡ sum_of p f n + sum_of p g n + sum_of p k n
sum_three p f g k t zero e = refl
sum_three p f g k t (suc n) e =
    let ih = sum_three p f g k t n e in
    let here = e n in
    bool_cases (p n) (λ y. rw y (omega (arith, ih, here))) (λ z. rw z (omega (arith, ih)))

cover_in-append : (xs ys : List Held) (b : ℕ) → cover (extents_in (xs ++ ys)) b ≡ cover (extents_in xs) b + cover (extents_in ys) b
cover_in-append xs ys b = ap (λ (l : List Extent). cover l b) (map-append (λ (k : Held). k.extent) xs ys) ∙ cover-append (extents_in xs) (extents_in ys) b

module _ (file : List ℕ) (h : Header) (b : ℕ) where
  place : ℕ → ℕ
  place i = natural (entry_at file h i)

  over_places : (g : ℕ → List Held) → cover (extents_in (flat_map g (places_of file h))) b ≡ sum_of (is_first file h) (λ i. cover (extents_in (g (place i))) b) (entries_of h)
  unfolding places_of first_indexes joined place
  over_places g =
      ap (λ (l : List Extent). cover l b) (held_over g (λ i. natural (entry_at file h i)) (filter (is_first file h) (range_with_len 0 (entries_of h))))
      ∙ cover_joined (is_first file h) (λ i. extents_in (g (natural (entry_at file h i)))) b (entries_of h)

  each_place : (g : ℕ → Held) → cover (extents_in (map g (places_of file h))) b ≡ sum_of (is_first file h) (λ i. cover ((g (place i)).extent ∷ []) b) (entries_of h)
  unfolding places_of first_indexes joined place
  each_place g =
      ap (λ (l : List Extent). cover l b) (held_each g (λ i. natural (entry_at file h i)) (filter (is_first file h) (range_with_len 0 (entries_of h))))
      ∙ cover_joined (is_first file h) (λ i. (g (natural (entry_at file h i))).extent ∷ []) b (entries_of h)

  bucket_is : (i : ℕ) → bucket_cover file h b i ≡ cover ((bucket_held h (place i)).extent ∷ []) b + cover (extents_in (records_held file h (place i))) b + cover (extents_in (free_held file h (place i))) b
  unfolding bucket_cover free_of block_of records_held free_held place
  bucket_is i =
      let r = records_cover (bytes_at file (natural (entry_at file h i)) h.block) b h.elems in
      let f = ap (λ (l : List Extent). cover l b) (extents_held_by (natural (entry_at file h i)) (free_in (bytes_at file (natural (entry_at file h i)) h.block))) in
      omega (arith, r, f)

  pub cover_is : cover (extents_in (extents_held file h)) b ≡ all_cover file h (pool_of file h) b
  unfolding extents_held all_cover pool_of table_held
  cover_is =
      let places = places_of file h in
      let blocks = map (bucket_held h) places in
      let records = flat_map (records_held file h) places in
      let table = map (held_by (Rattle.gd_format.specs.Sound.place_of h)) (extents_at (table_of file h)) in
      let stack = flat_map (stack_held file) (stack_places file (top_of file h)) in
      let free = flat_map (free_held file h) places in
      let a = cover_in-append (((blocks ++ records) ++ table) ++ stack) free b in
      let c = cover_in-append ((blocks ++ records) ++ table) stack b in
      let d = cover_in-append (blocks ++ records) table b in
      let e = cover_in-append blocks records b in
      let t = ap (λ (l : List Extent). cover l b) (extents_held_by (Rattle.gd_format.specs.Sound.place_of h) (extents_at (table_of file h))) in
      let f = cover-append (extents_at (table_of file h)) (extents_in stack) b in
      let x = each_place (bucket_held h) in
      let y = over_places (records_held file h) in
      let z = over_places (free_held file h) in
      let s =
      sum_three (is_first file h) (λ i. cover ((bucket_held h (place i)).extent ∷ []) b) (λ i. cover (extents_in (records_held file h (place i))) b) (λ i. cover (extents_in (free_held file h (place i))) b) (bucket_cover file h b) (entries_of h) bucket_is in
      omega (arith, a, c, d, e, t, f, x, y, z, s)

-- ---- the free side

header_has : (block b : ℕ) → b < block → one_if (has_byte (extent 0 block) b) ≡ 1
header_has block b lt = rw (has_in 0 block b (omega arith) (omega arith)) refl

-- the pool with the stack as these blocks
pub stack_pool : (file : List ℕ) (h : Header) (blocks : List StackBlock) → IsStack file (most_of h) (top_of file h) blocks → ((b : ℕ) → cover (stack_extents blocks) b ≤ 1) → pool_of file h ≡ extents_at (table_of file h) ++ stack_extents blocks
unfolding pool_of
stack_pool file h blocks stack once = ap (λ (l : List Extent). extents_at (table_of file h) ++ l) (shown file (most_of h) (top_of file h) blocks (record { stack = stack; distinct = distinct_apart blocks once })).extents

module _ (file : List ℕ) (h : Header) (blocks : List StackBlock) (sound : IsSoundBy file h blocks) where
  sizes : IsHeaderIn h (length file)
  sizes = rw (← sound.header_is) (header_in (front_of file) (length file) sound.header)

  pool : List Extent
  pool = extents_at (table_of file h) ++ stack_extents blocks

  in_pool : (i : ℕ) → i < entries_of h → (b : ℕ) → cover (pool ++ free_of file h i) b + one_if (has_byte (extent 0 h.block) b) ≤ all_cover file h pool b
  unfolding all_cover bucket_cover pool
  in_pool i li b =
      let a = cover-append (extents_at (table_of file h) ++ stack_extents blocks) (free_of file h i) b in
      let s = bucket_in_all file h i h.next_block (extents_at (table_of file h) ++ stack_extents blocks) (slots_at (block_of file h i) h.elems) [] li sound.file_is.space (λ p e. ap (count p) (sym (append-nil (slots_at (block_of file h i) h.elems)))) b in
      omega (arith, a, s)

  lists_once : (i : ℕ) → i < entries_of h → (b : ℕ) → cover (pool ++ free_of file h i) b ≤ 1
  unfolding pool
  lists_once i li b = let o = sound.file_is.space.once b in let c = in_pool i li b in omega (arith, o, c)

  lists_inside : (i : ℕ) → i < entries_of h → (b : ℕ) → 0 < cover (pool ++ free_of file h i) b → (h.block ≤ b) × (b < h.next_block)
  unfolding pool
  lists_inside i li b some =
      let o = sound.file_is.space.once b in
      let c = in_pool i li b in (
        elim (cases_lt b h.block) [ inl lt ↦ let one = header_has h.block b lt in absurd (omega (arith, o, c, one, some)) | inr past ↦ past ],
        sound.file_is.space.below b (omega (arith, c, some)),
      )

  lists_sized : (i : ℕ) → i < entries_of h → AllByRecursion IsSized (pool ++ free_of file h i)
  unfolding pool free_of block_of
  lists_sized i li =
      let large = sizes.large in
      all-append IsSized (extents_at (table_of file h) ++ stack_extents blocks) (free_of file h i)
      (all-append IsSized (extents_at (table_of file h)) (stack_extents blocks) (avail_sized (table_of file h) h.avail_size sound.table) (stack_sized file (most_of h) (top_of file h) blocks (omega (arith, large)) sound.stack))
      (free_sized file h (natural (entry_at file h i)) (sound.free i li))

  pub has_side : (i : ℕ) → i < entries_of h → IsFreeSide file h (top_of file h) (lists_of file h blocks (free_of file h i))
  unfolding pool
  has_side i li =
      let least = sizes.least in
      let fits = sizes.fits in
      let short = sound.file_is.short in
      record {
        behind = omega (arith, least, fits, short);
        short = short;
        stack = sound.stack;
        below = below_from h.next_block h.block (pool ++ free_of file h i) (omega (arith, least)) (lists_sized i li) (lists_inside i li);
        once = lists_once i li;
      }

  -- ---- and the file is sound

  stack_once : (b : ℕ) → cover (stack_extents blocks) b ≤ 1
  unfolding all_cover
  stack_once b =
      let o = sound.file_is.space.once b in
      let c = cover-append (extents_at (table_of file h)) (stack_extents blocks) b in
      omega (arith, o, c)

  whole : IsWholeStack file (most_of h) (top_of file h) blocks
  whole = record { stack = sound.stack; distinct = distinct_apart blocks stack_once }

  pub pool_is : pool_of file h ≡ extents_at (table_of file h) ++ stack_extents blocks
  unfolding pool_of
  pool_is = ap (λ (l : List Extent). extents_at (table_of file h) ++ l) (shown file (most_of h) (top_of file h) blocks whole).extents

  covers : (b : ℕ) → cover (extents_in (extents_held file h)) b ≡ all_cover file h (extents_at (table_of file h) ++ stack_extents blocks) b
  covers b = cover_is file h b ∙ ap (λ (l : List Extent). all_cover file h l b) pool_is

  points_of : HasSoundParts file
  points_of =
      let least = sizes.least in
      let fault = (shown file (most_of h) (top_of file h) blocks whole).fault in
      let large = all_some file h (omega (arith, least)) sound.table fault sound.free in
      record {
        header = sound.header;
        parts = rw sound.header_is sound.file_is.parts;
        points = rw sound.header_is (record {
          short = sound.file_is.short;
          table = sound.table;
          stack = fault;
          free = sound.free;
          ends = (end_by_cover h.next_block (extents_in (extents_held file h)) large).1 (λ b some. sound.file_is.space.below b (let c = covers b in omega (arith, c, some)));
          once = λ b. let o = sound.file_is.space.once b in let c = covers b in omega (arith, o, c);
        });
      }

  pub makes_sound : IsSound file
  makes_sound = made_sound file points_of

-- ---- a sound file has blocks

pub record Blocks (file : List ℕ) : Type 0 where
  pub blocks : List StackBlock
  pub sound : IsSoundBy file (header_of (front_of file)) blocks
  pub pool : pool_of file (header_of (front_of file)) ≡ extents_at (table_of file (header_of (front_of file))) ++ stack_extents blocks

blocks_of : (file : List ℕ) → IsSound file → Blocks file
unfolding pool_of
blocks_of file sound =
    let h = header_of (front_of file) in
    let s = sound_parts file sound in
    let sizes = header_in (front_of file) (length file) s.header in
    let least = sizes.least in
    let fits = sizes.fits in
    let b = has_blocks file (most_of (header_of (front_of file))) (top_of file (header_of (front_of file))) (omega (arith, least, fits)) s.points.stack in
    let same : pool_of file (header_of (front_of file)) ≡ extents_at (table_of file (header_of (front_of file))) ++ stack_extents b.0 =
    ap (λ (l : List Extent). extents_at (table_of file (header_of (front_of file))) ++ l) (shown file (most_of (header_of (front_of file))) (top_of file (header_of (front_of file))) b.0 b.1).extents in
    let large = all_some file (header_of (front_of file)) (omega (arith, least)) s.points.table s.points.stack s.points.free in
    let ends = (end_by_cover (header_of (front_of file)).next_block (extents_in (extents_held file (header_of (front_of file)))) large).0 s.points.ends in
    let covers = λ (x : ℕ). cover_is file (header_of (front_of file)) x ∙ ap (λ (l : List Extent). all_cover file (header_of (front_of file)) l x) same in
    record {
      blocks = b.0;
      pool = same;
      sound = record {
        header = s.header;
        header_is = refl;
        table = s.points.table;
        stack = b.1.stack;
        free = s.points.free;
        file_is = record {
          bits = sizes.bits;
          dir = sizes.dir;
          short = s.points.short;
          parts = s.parts;
          space = record {
            once = λ x. let o = s.points.once x in let c = covers x in omega (arith, o, c);
            below = λ x some. ends x (let c = covers x in omega (arith, c, some));
          };
        };
      };
    }

pub sound_blocks : (file : List ℕ) → IsSound file → (blocks : List StackBlock) × IsSoundBy file (header_of (front_of file)) blocks × (pool_of file (header_of (front_of file)) ≡ extents_at (table_of file (header_of (front_of file))) ++ stack_extents blocks)
sound_blocks file sound = let b = blocks_of file sound in (b.blocks, b.sound, b.pool)

-- ---- fields of extents that end before a place of the format

signed_right : (u : ℕ) → cast_unsigned w32 (cast_signed w32 u) < 2 ^ 31 → 0 < cast_unsigned w32 (cast_signed w32 u) → (is_from_zero (cast_signed w32 u) ≡ true) × (not (natural (cast_signed w32 u) == 0) ≡ true)
signed_right u small some =
    bool_cases (ltb u (2 ^ 31))
    (λ t.
    let n : 0 < u = rw t at some in
    let z : (u == 0) ≡ false = bool_cases (u == 0) (λ y. let e : u ≡ 0 = (Decides-eqb u 0).0 y in absurd (omega (arith, e, n))) (λ f. f) in
    (rw t refl, rw (t, z) refl))
    (λ f.
    let big : 2 ^ 32 - suc (2 ^ 32 - suc u) < 2 ^ 31 = rw f at small in
    let past = ltb-false u (2 ^ 31) f in
    absurd (omega (arith, big, past)))

place_right : (u : ℕ) → cast_unsigned w64 (cast_signed w64 u) < 2 ^ 63 → is_from_zero (cast_signed w64 u) ≡ true
place_right u small =
    bool_cases (ltb u (2 ^ 63))
    (λ t. rw t refl)
    (λ f.
    let big : 2 ^ 64 - suc (2 ^ 64 - suc u) < 2 ^ 63 = rw f at small in
    let past = ltb-false u (2 ^ 63) f in
    absurd (omega (arith, big, past)))

raw_right : (r : RawExtent) (u v next : ℕ) → next ≤ 2 ^ 63 → r.size ≡ cast_signed w32 u → r.at ≡ cast_signed w64 v → IsBelow next (extent_of r) → is_extent_right r ≡ true
unfolding is_extent_right extent_of
raw_right r u v next le e f below =
    let small = below.fits in
    let some = below.some in
    let ends = below.ends in
    let size = signed_right u (rw e at small) (rw e at some) in
    let from : is_from_zero r.size ≡ true = rw e size.0 in
    let more : not (natural r.size == 0) ≡ true = rw e size.1 in
    let place : is_from_zero r.at ≡ true = rw f (place_right v (rw f at (before_end r next le some ends))) in
    both_true _ _ (both_true _ _ from more) place
  where
    before_end : (r : RawExtent) (next : ℕ) → next ≤ 2 ^ 63 → 0 < cast_unsigned w32 r.size → cast_unsigned w64 r.at + cast_unsigned w32 r.size ≤ next → cast_unsigned w64 r.at < 2 ^ 63
    before_end r next le some ends = omega (arith, le, some, ends)

of_list_below : (P : Extent → Type 0) (f : ℕ → Extent) (n : ℕ) → AllByRecursion P (list_below n f) → (k : ℕ) → k < n → P (f k)
of_list_below P f zero all k lt = absurd (omega arith)
of_list_below P f (suc n) all k lt =
    elim (cases_lt k n) [
      | inl below ↦ of_list_below P f n (all_left P (list_below n f) (f n ∷ []) all) k below
      | inr last ↦ let same : k ≡ n = omega arith in rw same (all_right P (list_below n f) (f n ∷ []) all).0
    ]

pub below_is_right : (file : List ℕ) (h : Header) (at next : ℕ) → next ≤ 2 ^ 63 → AllByRecursion (IsBelow next) (free_in (bytes_at file at h.block)) → is_free_right file h at ≡ true
unfolding is_free_right raw_free_at i32_at i64_at
below_is_right file h at next le below =
    all_below_from (λ e. is_extent_right (raw_free_at (bytes_at file at h.block) e)) (natural (counts_at (bytes_at file at h.block)).free)
    (λ k lt.
    raw_right (raw_free_at (bytes_at file at h.block) k) (u32_at (bytes_at file at h.block) (8 + 16 * k)) (u64_at (bytes_at file at h.block) (16 + 16 * k)) next le refl refl
    (of_list_below (IsBelow next) (λ e. extent_of (raw_free_at (bytes_at file at h.block) e)) (natural (counts_at (bytes_at file at h.block)).free) below k lt))

pub below_is_avail : (table : List ℕ) (most next : ℕ) → next ≤ 2 ^ 63 → is_within (count_at table) 0 most ≡ true → AllByRecursion (IsBelow next) (extents_at table) → is_avail table most ≡ true
unfolding is_avail is_extent_right_at extent_at raw_extent_at i32_at i64_at
below_is_avail table most next le number below =
    both_true _ _ number
    (all_below_from (is_extent_right_at table) (natural (count_at table))
    (λ k lt.
    raw_right (raw_extent_at table k) (u32_at table (16 + 16 * k)) (u64_at table (24 + 16 * k)) next le refl refl
    (of_list_below (IsBelow next) (extent_at table) (natural (count_at table)) below k lt)))
