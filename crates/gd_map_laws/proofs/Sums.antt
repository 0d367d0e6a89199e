-- Sums of sizes are sums of covers, byte by byte.
use Rattle.std.proofs.Common.{◌≡◌, ℕ, zero, suc, ◌+◌, ◌-◌, ◌<◌, ◌≤◌, List, [], ◌∷◌, ◌++◌, refl, sym, ap, subst, ◌∙◌, inl, inr, arith}
use Rattle.std.proofs.lemmas.Bool.{cases_lt}
use Rattle.std.proofs.lemmas.List.{append-nil}
use Rattle.std.proofs.lemmas.Bool.Decides.{nat_tests}
use Rattle.gd_format.specs.declared.Header.{Header}
use Rattle.gd_format.specs.declared.Extent.{Extent}
use Rattle.gd_format.specs.declared.Held.{Held}
use Rattle.gd_format.specs.declared.Slot.{Slot}
use Rattle.gd_format.specs.declared.Slot.TheVariants.{Empty, Full}
use Rattle.gd_format.specs.Avail.{extents_at}
use Rattle.gd_format.specs.Bucket.{slots_at}
use Rattle.gd_format.specs.HeaderFault.{header_of}
use Rattle.gd_format.specs.File.{front_of, entries_of, block_of}
use Rattle.gd_format.specs.Slots.{count, SameSlots}
use Rattle.gd_format.specs.Sound.{IsSound, extent, extents, extents_held, table_of, top_of, most_of, total, lost_total}
use Rattle.gd_format.specs.Covers.{has_byte, cover, size_sum}
use Rattle.gd_format.specs.FreeSide.{StackBlock, stack_extents}
use Rattle.gd_file_laws.specs.Cover.{extents_in}
use Rattle.gd_file_laws.proofs.Lists.{bool_cases}
use Rattle.gd_file_laws.proofs.Covers.{has_in, cover-append}
use Rattle.gd_file_laws.proofs.Stacks.{shown, distinct_apart}
use Rattle.gd_map_laws.specs.Lookup.{index_of}
use Rattle.gd_map_laws.specs.Space.{SpaceChange, free_in, one_if, slot_has, free_of, bucket_cover, all_cover, IsSpaceRight}
use Rattle.gd_map_laws.specs.Change.{IsSoundFile, place_of}
use Rattle.gd_map_laws.specs.Sounds.{pool_of}
use Rattle.gd_map_laws.specs.Whole.{ChangeWritten}
use Rattle.gd_map_laws.specs.Sums.{slot_sizes, free_size, sum_below}
use Rattle.gd_map_laws.proofs.Lists.{count-append}
use Rattle.gd_map_laws.proofs.Stays.{bucket_in_all}
use Rattle.gd_map_laws.proofs.Space.{whole}
use Rattle.gd_map_laws.proofs.Change.{li, space_change, space_now, all_shape}
use Rattle.gd_map_laws.proofs.Sounds.{cover_is, sound_blocks}
use Rattle.gd_map_laws.proofs.Whole.{file_of}
use Rattle.gd_map_laws.proofs.FileUpdate.{block_shape}
use Rattle.gd_format.specs.Field.{bytes_at}

sum_zero : (n : ℕ) → sum_below (λ b. 0) n ≡ 0
sum_zero zero = refl
sum_zero (suc n) = let ih = sum_zero n in omega (arith, ih)

pub sum_add : (f g : ℕ → ℕ) (n : ℕ) → sum_below (λ b. f b + g b) n ≡ sum_below f n + sum_below g n
sum_add f g zero = refl
sum_add f g (suc n) = let ih = sum_add f g n in omega (arith, ih)

pub sum_even : (f g : ℕ → ℕ) (n : ℕ) → ((b : ℕ) → f b ≡ g b) → sum_below f n ≡ sum_below g n
sum_even f g zero e = refl
sum_even f g (suc n) e = let ih = sum_even f g n e in let here = e n in omega (arith, ih, here)

sum_most : (f : ℕ → ℕ) (n : ℕ) → ((b : ℕ) → f b ≤ 1) → sum_below f n ≤ n
sum_most f zero le = omega arith
sum_most f (suc n) le = let ih = sum_most f n le in let here = le n in omega (arith, ih, here)

-- ---- one extent

has_not : (at size b : ℕ) → (b < at → ⊥) → (b < at + size → ⊥) → one_if (has_byte (extent at size) b) ≡ 0
has_not at size b low high =
    bool_cases (has_byte (extent at size) b)
    (λ t. absurd (high (grind (arith, nat_tests))))
    (λ f. rw f refl)

before : (at size b : ℕ) → b < at → one_if (has_byte (extent at size) b) ≡ 0
before at size b lt =
    bool_cases (has_byte (extent at size) b)
    (λ t. let low : at ≤ b = grind (arith, nat_tests) in absurd (omega (arith, low)))
    (λ f. rw f refl)

behind : (at size b : ℕ) → at + size ≤ b → one_if (has_byte (extent at size) b) ≡ 0
behind at size b le =
    bool_cases (has_byte (extent at size) b)
    (λ t. let high : b < at + size = grind (arith, nat_tests) in absurd (omega (arith, high)))
    (λ f. rw f refl)

within : (at size b : ℕ) → at ≤ b → b < at + size → one_if (has_byte (extent at size) b) ≡ 1
within at size b low high = rw (has_in at size b low high) refl

low_part : (at size n : ℕ) → n ≤ at → sum_below (λ b. one_if (has_byte (extent at size) b)) n ≡ 0
low_part at size zero le = refl
low_part at size (suc n) le = let ih = low_part at size n (omega arith) in let z = before at size n (omega arith) in omega (arith, ih, z)

mid_part : (at size k : ℕ) → k ≤ size → sum_below (λ b. one_if (has_byte (extent at size) b)) (at + k) ≡ k
mid_part at size zero le = let e : at + 0 ≡ at = omega arith in rw e (low_part at size at (omega arith))
mid_part at size (suc k) le =
    let ih = mid_part at size k (omega arith) in
    let one = within at size (at + k) (omega arith) (omega arith) in
    let e : at + suc k ≡ suc (at + k) = omega arith in
    rw e (omega (arith, ih, one))

high_part : (at size m : ℕ) → sum_below (λ b. one_if (has_byte (extent at size) b)) (at + size + m) ≡ size
high_part at size zero = let e : at + size + 0 ≡ at + size = omega arith in rw e (mid_part at size size (omega arith))
high_part at size (suc m) =
    let ih = high_part at size m in
    let z = behind at size (at + size + m) (omega arith) in
    let e : at + size + suc m ≡ suc (at + size + m) = omega arith in
    rw e (omega (arith, ih, z))

one_sum : (at size n : ℕ) → at + size ≤ n → sum_below (λ b. one_if (has_byte (extent at size) b)) n ≡ size
one_sum at size n le = let e : at + size + (n - (at + size)) ≡ n = omega arith in rw e at (high_part at size (n - (at + size)))

-- an extent all of whose bytes lie below n, wherever it stands when it has none
pub some_sum : (at size n : ℕ) → ((b : ℕ) → 0 < one_if (has_byte (extent at size) b) → b < n) → sum_below (λ b. one_if (has_byte (extent at size) b)) n ≡ size
some_sum at zero n inside = sum_even (λ b. one_if (has_byte (extent at 0) b)) (λ b. 0) n (λ b. none_has at b) ∙ sum_zero n
  where
    none_has : (at b : ℕ) → one_if (has_byte (extent at 0) b) ≡ 0
    none_has at b = elim (cases_lt b at) [ inl lt ↦ before at 0 b lt | inr past ↦ behind at 0 b (omega arith) ]
some_sum at (suc size) n inside =
    let one = within at (suc size) (at + size) (omega arith) (omega arith) in
    let last = inside (at + size) (omega (arith, one)) in
    one_sum at (suc size) n (omega (arith, last))

-- ---- lists

pub cover_sum : (es : List Extent) (n : ℕ) → ((b : ℕ) → 0 < cover es b → b < n) → sum_below (cover es) n ≡ size_sum es
cover_sum [] n inside = sum_zero n
cover_sum (e ∷ es) n inside =
    let a = sum_add (λ b. one_if (has_byte e b)) (cover es) n in
    let one = some_sum e.at e.size n (λ b some. inside b (omega (arith, some))) in
    let ih = cover_sum es n (λ b some. inside b (omega (arith, some))) in
    omega (arith, a, one, ih)

slots_sum : (slots : List Slot) (n : ℕ) → ((b : ℕ) → 0 < count (slot_has b) slots → b < n) → sum_below (λ b. count (slot_has b) slots) n ≡ slot_sizes slots
slots_sum [] n inside = sum_zero n
slots_sum (Empty ∷ slots) n inside =
    sum_even (λ b. count (slot_has b) (Empty ∷ slots)) (λ b. count (slot_has b) slots) n (λ b. omega arith) ∙ slots_sum slots n (λ b some. inside b (omega (arith, some)))
slots_sum (Full hash start at k v ∷ slots) n inside =
    let a = sum_add (λ b. one_if (has_byte (extent at (k + v)) b)) (λ b. count (slot_has b) slots) n in
    let one = some_sum at (k + v) n (λ b some. inside b (omega (arith, some))) in
    let ih = slots_sum slots n (λ b some. inside b (omega (arith, some))) in
    omega (arith, a, one, ih)

pub total_is : (ks : List Held) → total ks ≡ size_sum (extents_in ks)
total_is [] = refl
total_is (k ∷ ks) = let ih = total_is ks in omega (arith, ih)

-- ---- one file

module _ (file : List ℕ) (h : Header) (i next : ℕ) (pool : List Extent) (li : i < entries_of h) (right : IsSpaceRight file h next pool) where
  pub parts_in : (b : ℕ) → cover (free_of file h i) b + count (slot_has b) (slots_at (block_of file h i) h.elems) + cover pool b ≤ all_cover file h pool b
  unfolding all_cover bucket_cover
  parts_in b =
      let s = bucket_in_all file h i next pool (slots_at (block_of file h i) h.elems) [] li right (λ p e. ap (count p) (sym (append-nil (slots_at (block_of file h i) h.elems)))) b in
      omega (arith, s)

  pub free_sum : (n : ℕ) → next ≤ n → sum_below (cover (free_of file h i)) n ≡ size_sum (free_of file h i)
  free_sum n le = cover_sum (free_of file h i) n (λ b some. let l = right.below b (let p = parts_in b in omega (arith, p, some)) in omega (arith, l, le))

  pub pool_sum : (n : ℕ) → next ≤ n → sum_below (cover pool) n ≡ size_sum pool
  pool_sum n le = cover_sum pool n (λ b some. let l = right.below b (let p = parts_in b in omega (arith, p, some)) in omega (arith, l, le))

  some_slots_sum : (some rest : List Slot) → SameSlots (slots_at (block_of file h i) h.elems) (some ++ rest) → (n : ℕ) → next ≤ n → sum_below (λ b. count (slot_has b) some) n ≡ slot_sizes some
  some_slots_sum some rest same n le =
      slots_sum some n
      (λ b c.
      let e = same (slot_has b) refl in
      let a = count-append (slot_has b) some rest in
      let l = right.below b (let p = parts_in b in omega (arith, p, c, e, a)) in
      omega (arith, l, le))

pub held_sum : (file : List ℕ) (h : Header) (next : ℕ) (pool : List Extent) → IsSpaceRight file h next pool → ((b : ℕ) → cover (extents_in (extents_held file h)) b ≡ all_cover file h pool b) → (n : ℕ) → next ≤ n → sum_below (all_cover file h pool) n ≡ total (extents_held file h)
held_sum file h next pool right covers n le =
    sum_even (all_cover file h pool) (cover (extents_in (extents_held file h))) n (λ b. sym (covers b))
    ∙ cover_sum (extents_in (extents_held file h)) n (λ b some. let c = covers b in let l = right.below b (omega (arith, c, some)) in omega (arith, l, le))
    ∙ sym (total_is (extents_held file h))

pub space_of : (file : List ℕ) → IsSound file → IsSpaceRight file (header_of (front_of file)) (header_of (front_of file)).next_block (pool_of file (header_of (front_of file)))
space_of file sound = let b = sound_blocks file sound in subst (λ (p : List Extent). IsSpaceRight file (header_of (front_of file)) (header_of (front_of file)).next_block p) (sym b.2) b.1.file_is.space

pub total_fits : (file : List ℕ) → IsSound file → total (extents file) ≤ (header_of (front_of file)).next_block
unfolding extents
total_fits file sound =
    let h = header_of (front_of file) in
    let right = space_of file sound in
    let e = held_sum file (header_of (front_of file)) (header_of (front_of file)).next_block (pool_of file (header_of (front_of file))) right (cover_is file (header_of (front_of file))) (header_of (front_of file)).next_block (omega arith) in
    let m = sum_most (all_cover file (header_of (front_of file)) (pool_of file (header_of (front_of file)))) (header_of (front_of file)).next_block right.once in
    omega (arith, e, m)

-- ---- a change of one key

module _ (old new : List ℕ) (key : List ℕ) (blocks : List StackBlock) (gone come rest : List Slot) (sound : IsSound old) (wrote : ChangeWritten old new key blocks gone come rest) where
  abbrev h : Header
  h = header_of (front_of old)

  abbrev h' : Header
  h' = header_of (front_of new)

  abbrev i : ℕ
  i = index_of h key

  abbrev pool : List Extent
  pool = pool_of old h

  abbrev pool' : List Extent
  pool' = extents_at (table_of new h') ++ stack_extents blocks

  file : IsSoundFile old h h.next_block pool
  file = file_of old new key blocks gone come rest sound wrote

  in_range : i < entries_of h
  in_range = li old new h key h.next_block h'.next_block pool pool' gone come rest file wrote.made

  change : SpaceChange old new h i gone come rest h.next_block h'.next_block pool pool'
  change = space_change old new h key h.next_block h'.next_block pool pool' gone come rest file wrote.made

  right_new : IsSpaceRight new h h'.next_block pool'
  right_new = space_now old new h key h.next_block h'.next_block pool pool' gone come rest file wrote.made

  pool_is : pool_of new h' ≡ pool'
  unfolding pool_of
  pool_is =
      let lists = wrote.side.once in
      let distinct = distinct_apart blocks
      (λ b. let o = lists b in let a = cover-append (extents_at (table_of new h') ++ stack_extents blocks) (free_in (bytes_at new (place_of old h i) h.block)) b in let c = cover-append (extents_at (table_of new h')) (stack_extents blocks) b in omega (arith, o, a, c)) in
      ap (λ (l : List Extent). extents_at (table_of new h') ++ l) (shown new (most_of h') (top_of new h') blocks (record { stack = wrote.side.stack; distinct = distinct })).extents

  new_covers : (b : ℕ) → cover (extents_in (extents_held new h')) b ≡ all_cover new h pool' b
  new_covers b = cover_is new h' b ∙ ap (λ (l : List Extent). all_cover new h' l b) pool_is ∙ all_shape new h h' wrote.shape pool' b

  new_total : sum_below (all_cover new h pool') h'.next_block ≡ total (extents new)
  unfolding extents
  new_total =
      sum_even (all_cover new h pool') (cover (extents_in (extents_held new h'))) h'.next_block (λ b. sym (new_covers b))
      ∙ cover_sum (extents_in (extents_held new h')) h'.next_block (λ b some. right_new.below b (let c = new_covers b in omega (arith, c, some)))
      ∙ sym (total_is (extents_held new h'))

  old_total : sum_below (all_cover old h pool) h'.next_block ≡ total (extents old)
  unfolding extents
  old_total = held_sum old h h.next_block pool file.space (cover_is old h) h'.next_block change.grows

  free_new : free_of new h' i ≡ free_of new h i
  unfolding free_of
  free_new = ap free_in (block_shape new h h' wrote.shape i)

  pub total_changes : total (extents new) + free_size old h i + slot_sizes gone ≡ total (extents old) + free_size new h' i + slot_sizes come
  total_changes =
      let n = h'.next_block in
      let le = change.grows in
      let even = sum_even (λ b. all_cover new h pool' b + cover (free_of old h i) b + count (slot_has b) gone + cover pool b) (λ b. all_cover old h pool b + cover (free_of new h i) b + count (slot_has b) come + cover pool' b) h'.next_block
      (λ b. whole old new h i gone come rest h.next_block h'.next_block pool pool' in_range file.space change b) in
      let l1 = sum_add (λ b. all_cover new h pool' b + cover (free_of old h i) b + count (slot_has b) gone) (cover pool) h'.next_block in
      let l2 = sum_add (λ b. all_cover new h pool' b + cover (free_of old h i) b) (λ b. count (slot_has b) gone) h'.next_block in
      let l3 = sum_add (all_cover new h pool') (cover (free_of old h i)) h'.next_block in
      let r1 = sum_add (λ b. all_cover old h pool b + cover (free_of new h i) b + count (slot_has b) come) (cover pool') h'.next_block in
      let r2 = sum_add (λ b. all_cover old h pool b + cover (free_of new h i) b) (λ b. count (slot_has b) come) h'.next_block in
      let r3 = sum_add (all_cover old h pool) (cover (free_of new h i)) h'.next_block in
      let a = free_sum old h i h.next_block pool in_range file.space h'.next_block change.grows in
      let c = pool_sum old h i h.next_block pool in_range file.space h'.next_block change.grows in
      let d = some_slots_sum old h i h.next_block pool in_range file.space gone rest change.before_is h'.next_block change.grows in
      let e = free_sum new h i h'.next_block pool' in_range right_new h'.next_block (omega arith) in
      let f = pool_sum new h i h'.next_block pool' in_range right_new h'.next_block (omega arith) in
      let g = some_slots_sum new h i h'.next_block pool' in_range right_new come rest change.after_is h'.next_block (omega arith) in
      let x = ap size_sum free_new in
      let y = ap size_sum pool_is in
      let o = old_total in
      let p = new_total in
      omega (arith, even, l1, l2, l3, r1, r2, r3, a, c, d, e, f, g, x, y, o, p)

  pub lost_changes : (more : ℕ) → IsSound new → free_size old h i + slot_sizes gone + (h'.next_block - h.next_block) ≤ free_size new h' i + slot_sizes come + more → lost_total new ≤ lost_total old + more
  unfolding lost_total
  lost_changes more sound_new le =
      let t = total_changes in
      let a = total_fits old sound in
      let b = total_fits new sound_new in
      let g = change.grows in
      omega (arith, t, a, b, g, le)

pub lost_by_totals : (old new : List ℕ) (away come more : ℕ) → IsSound old → IsSound new → (header_of (front_of old)).next_block ≤ (header_of (front_of new)).next_block → total (extents new) + away ≡ total (extents old) + come → away + ((header_of (front_of new)).next_block - (header_of (front_of old)).next_block) ≤ come + more → lost_total new ≤ lost_total old + more
unfolding lost_total
lost_by_totals old new away come more sound_old sound_new grows totals spent =
    let a = total_fits old sound_old in
    let b = total_fits new sound_new in
    omega (arith, a, b, grows, totals, spent)
