-- The points on the space of a file, one by one.
use Rattle.std.proofs.Common.{◌≡◌, ℕ, zero, suc, ◌+◌, ◌<◌, ◌≤◌, ◌↔◌, Bool, true, false, not, ◌&&◌, ◌||◌, List, [], ◌∷◌, length, map, None, refl, ◌∙◌, arith}
use Rattle.std.specs.Prelude.{◌==◌, ℤ, pos, negsuc}
use Rattle.std.specs.List.{flat_map, AllByRecursion}
use Rattle.std.specs.Int.{w32, cast_unsigned}
use Rattle.std.proofs.lemmas.Bool.{le-leb, leb-true}
use Rattle.std.proofs.lemmas.Bool.Decides.{Decides-int_eq}
use Rattle.std.proofs.lemmas.Nat.{pow_pos}
use Rattle.gd_base.specs.declared.errors.DbError.TheVariants.{BadAvail}
use Rattle.gd_format.specs.declared.Header.{Header}
use Rattle.gd_format.specs.declared.Held.{Held}
use Rattle.gd_format.specs.declared.RawExtent.{RawExtent}
use Rattle.gd_format.specs.First.{unless, list_below}
use Rattle.gd_format.specs.Field.{bytes_at}
use Rattle.gd_format.specs.HeaderFault.{natural, header_fault_of, header_of}
use Rattle.gd_format.specs.Bucket.{counts_at, raw_free_at, extent_of, is_from_zero, free_at}
use Rattle.gd_format.specs.Avail.{is_avail, is_extent_right, is_extent_right_at, extents_at, extent_at, count_at}
use Rattle.gd_format.specs.File.{front_of, entry_at, entries_of, is_first, is_other_entry, places_of, first_indexes}
use Rattle.gd_format.specs.Sound.{IsSound, sound_fault, space_fault, table_of, most_of, top_of, place_of, stack_at, stack_size, stack_block, is_stack_block, stack_fault_at, stack_fault, stack_places, is_free_right, free_fault, held_by, bucket_held, record_held, takes_place, records_held, table_held, stack_held, free_held, extents_held}
use Rattle.gd_format.proofs.Firsts.{or_else-none, or_else_both, unless-none, unless_true, and-true, first_below-none, all_below-at}
use Rattle.gd_file_laws.specs.Cover.{extents_in, AreLarge}
use Rattle.gd_file_laws.specs.Points.{HasPoints, HasSoundParts}
use Rattle.gd_file_laws.proofs.Lists.{bool_cases, failing, all-append, all_flat_map, all_map, all_filter, all_list_below, all_passing, of_passing, first_some-none, first_some_none}
use Rattle.gd_file_laws.proofs.Covers.{large_by_cover}
use Rattle.gd_file_laws.proofs.Headers.{header_in}
use Rattle.gd_file_laws.proofs.Walk.{readable}
use Rattle.gd_file_laws.proofs.Made.{made_readable}

-- ---- each address stands for a first time

-- a first entry with the address of i
pub record FirstOf (file : List ℕ) (h : Header) (i : ℕ) : Type 0 where
  pub j : ℕ
  pub low : j ≤ i
  pub first : is_first file h j ≡ true
  pub same : entry_at file h j ≡ entry_at file h i

not_other : (b : Bool) → not b ≡ false → b ≡ true
not_other true h = refl
not_other false h = absurd cc

module _ (file : List ℕ) (h : Header) where
  first_below_bound : (n i : ℕ) → i < n → FirstOf file h i
  unfolding is_first is_other_entry
  first_below_bound zero i lt = absurd (omega arith)
  first_below_bound (suc n) i lt =
      bool_cases (is_first file h i)
      (λ t. record { j = i; low = omega arith; first = t; same = refl })
      (λ f.
      let w = failing (is_other_entry file h i) i f in
      let same : entry_at file h w.0 ≡ entry_at file h i = (Decides-int_eq (entry_at file h w.0) (entry_at file h i)).0 (not_other _ w.2) in
      let below = w.1 in
      let r = first_below_bound n w.0 (omega (arith, below)) in
      let low = r.low in
      record { j = r.j; low = omega (arith, low, below); first = r.first; same = r.same ∙ same })

  pub first_of : (i : ℕ) → FirstOf file h i
  first_of i = first_below_bound (i + 1) i (omega arith)

  -- what holds of each place holds of each entry's address, and the other way round
  pub of_places : (P : ℕ → Type 0) → AllByRecursion P (places_of file h) → (i : ℕ) → i < entries_of h → P (natural (entry_at file h i))
  unfolding places_of first_indexes
  of_places P all i lt =
      let f = first_of i in
      let low = f.low in
      let each = of_map (first_indexes file h) all in
      let there = of_passing (λ j. P (natural (entry_at file h j))) (is_first file h) (entries_of h) each f.j (omega (arith, low)) f.first in
      rw f.same at there
    where
      of_map : (js : List ℕ) → AllByRecursion P (map (λ j. natural (entry_at file h j)) js) → AllByRecursion (λ j. P (natural (entry_at file h j))) js
      of_map [] a = tt
      of_map (j ∷ js) a = (a.0, of_map js a.1)

  pub all_places : (P : ℕ → Type 0) → ((i : ℕ) → i < entries_of h → P (natural (entry_at file h i))) → AllByRecursion P (places_of file h)
  unfolding places_of first_indexes
  all_places P each =
      all_map P (λ i. natural (entry_at file h i)) (first_indexes file h)
      (all_passing (λ i. P (natural (entry_at file h i))) (is_first file h) (entries_of h) (λ i lt first. each i lt))

  free_each : free_fault file h ≡ None → (i : ℕ) → i < entries_of h → is_free_right file h (natural (entry_at file h i)) ≡ true
  unfolding free_fault
  free_each none i lt =
      unless-none _ _ (of_places (λ at. unless (is_free_right file h at) (BadAvail at) ≡ None) (first_some-none (λ at. unless (is_free_right file h at) (BadAvail at)) (places_of file h) none) i lt)

  free_none : ((i : ℕ) → i < entries_of h → is_free_right file h (natural (entry_at file h i)) ≡ true) → free_fault file h ≡ None
  unfolding free_fault
  free_none each =
      first_some_none (λ at. unless (is_free_right file h at) (BadAvail at)) (places_of file h)
      (all_places (λ at. unless (is_free_right file h at) (BadAvail at) ≡ None) (λ i lt. unless_true _ _ (each i lt)))

-- ---- each extent has a byte

IsSome : Held → Type 0
IsSome k = 0 < k.extent.size

size_some : (z : ℤ) → is_from_zero z ≡ true → not (natural z == 0) ≡ true → 0 < cast_unsigned w32 z
size_some (pos zero) f n = absurd cc
size_some (pos (suc n)) f h = omega arith
size_some (negsuc n) f h = absurd cc

extent_some : (r : RawExtent) → is_extent_right r ≡ true → 0 < (extent_of r).size
unfolding is_extent_right extent_of
extent_some r h = let a = and-true _ _ h in let b = and-true _ _ a.0 in size_some r.size b.0 b.1

avail_some : (block : List ℕ) (most by : ℕ) → is_avail block most ≡ true → AllByRecursion IsSome (map (held_by by) (extents_at block))
unfolding is_avail is_extent_right_at extent_at IsSome
avail_some block most by h =
    all_map IsSome (held_by by) (extents_at block)
    (all_list_below (λ e. 0 < e.size) (extent_at block) (natural (count_at block))
    (λ k lt. extent_some _ (all_below-at (is_extent_right_at block) (natural (count_at block)) (and-true _ _ h).1 k lt)))

large_of : (ks : List Held) → AllByRecursion IsSome ks → AreLarge (extents_in ks)
unfolding IsSome
large_of [] h = tt
large_of (k ∷ ks) h = (h.0, large_of ks h.1)

not_zero : (n : ℕ) → not (n == 0) ≡ true → 0 < n
not_zero zero h = absurd cc
not_zero (suc n) h = omega arith

module _ (file : List ℕ) (h : Header) where
  records_some : (at : ℕ) → AllByRecursion IsSome (records_held file h at)
  unfolding records_held record_held takes_place IsSome
  records_some at =
      all_map IsSome (record_held (bytes_at file at h.block)) _
      (all_passing (λ s. IsSome (record_held (bytes_at file at h.block) s)) (takes_place (bytes_at file at h.block)) h.elems (λ s lt takes. not_zero _ (and-true _ _ takes).1))

  stack_some : (at : ℕ) → is_stack_block file (most_of h) at ≡ true → AllByRecursion IsSome (stack_held file at)
  unfolding stack_held is_stack_block IsSome stack_size
  stack_some at right = (omega arith, avail_some (stack_block file at) (most_of h) at (and-true _ _ right).1)

  free_some : (at : ℕ) → is_free_right file h at ≡ true → AllByRecursion IsSome (free_held file h at)
  unfolding free_held is_free_right IsSome
  free_some at right =
      let block = bytes_at file at h.block in
      all_map IsSome (held_by at) (free_at (bytes_at file at h.block) (natural (counts_at (bytes_at file at h.block)).free))
      (all_list_below (λ e. 0 < e.size) (λ e. extent_of (raw_free_at (bytes_at file at h.block) e)) (natural (counts_at (bytes_at file at h.block)).free)
      (λ k lt. extent_some _ (all_below-at (λ e. is_extent_right (raw_free_at (bytes_at file at h.block) e)) (natural (counts_at (bytes_at file at h.block)).free) right k lt)))

  place_right : (top k : ℕ) → stack_fault_at file (most_of h) top k ≡ None → not (stack_at file top k == 0) ≡ true → is_stack_block file (most_of h) (stack_at file top k) ≡ true
  unfolding stack_fault_at
  place_right top k none some = right_of (stack_at file top k == 0) _ _ (unless-none _ _ none) some
    where
      right_of : (z a b : Bool) → (z || (a && b)) ≡ true → not z ≡ true → b ≡ true
      right_of true a b h n = absurd cc
      right_of false a b h n = (and-true a b h).1

  pub stack_each : (top : ℕ) → stack_fault file (most_of h) top ≡ None → AllByRecursion (λ at. is_stack_block file (most_of h) at ≡ true) (stack_places file top)
  unfolding stack_fault stack_places
  stack_each top none =
      all_filter (λ at. is_stack_block file (most_of h) at ≡ true) (λ at. not (at == 0)) (list_below (length file) (stack_at file top))
      (all_list_below (λ at. not (at == 0) ≡ true → is_stack_block file (most_of h) at ≡ true) (stack_at file top) (length file)
      (λ k lt. place_right top k (first_below-none (stack_fault_at file (most_of h) top) (length file) none k lt)))

  all_of : {P Q : ℕ → Type 0} (ns : List ℕ) → ((n : ℕ) → P n → Q n) → AllByRecursion P ns → AllByRecursion Q ns
  all_of [] f a = tt
  all_of (n ∷ ns) f a = (f n a.0, all_of ns f a.1)

  all_have : {Q : ℕ → Type 0} (ns : List ℕ) → ((n : ℕ) → Q n) → AllByRecursion Q ns
  all_have [] f = tt
  all_have (n ∷ ns) f = (f n, all_have ns f)

  pub all_some : 0 < h.block → is_avail (table_of file h) h.avail_size ≡ true → stack_fault file (most_of h) (top_of file h) ≡ None → ((i : ℕ) → i < entries_of h → is_free_right file h (natural (entry_at file h i)) ≡ true) → AreLarge (extents_in (extents_held file h))
  unfolding extents_held table_held IsSome
  all_some block table stack free =
      let places = places_of file h in
      let dir = pow_pos h.dir_bits in
      large_of (extents_held file h) (
        block,
        (
          omega (arith, dir),
          all-append IsSome _ (flat_map (free_held file h) places)
              (all-append IsSome _ (flat_map (stack_held file) (stack_places file (top_of file h)))
              (all-append IsSome _ (table_held file h)
              (all-append IsSome _ (flat_map (records_held file h) places)
              (all_map IsSome (bucket_held h) places (all_have places (λ at. block)))
              (all_flat_map IsSome (records_held file h) places (all_have places records_some)))
              (avail_some (table_of file h) h.avail_size (place_of h) table))
              (all_flat_map IsSome (stack_held file) (stack_places file (top_of file h)) (all_of (stack_places file (top_of file h)) stack_some (stack_each (top_of file h) stack))))
              (all_flat_map IsSome (free_held file h) places (all_places file h (λ at. AllByRecursion IsSome (free_held file h at)) (λ i lt. free_some (natural (entry_at file h i)) (free i lt)))),
        ),
      )

  -- ---- the points

  points : 0 < h.block → space_fault file h ≡ None → HasPoints file h
  unfolding space_fault
  points block none =
      let a = or_else-none _ _ none in
      let b = or_else-none _ _ a.1 in
      let c = or_else-none _ _ b.1 in
      let d = or_else-none _ _ c.1 in
      let e = or_else-none _ _ d.1 in
      let table = unless-none _ _ b.0 in
      let free = free_each file h d.0 in
      let apart = (large_by_cover h.next_block (extents_held file h) (all_some block table c.0 free)).0 e.0 in
      record { short = leb-true _ _ (unless-none _ _ a.0); table = table; stack = c.0; free = free; ends = apart.0; once = apart.1 }

  no_space_fault : 0 < h.block → HasPoints file h → space_fault file h ≡ None
  unfolding space_fault
  no_space_fault block p =
      or_else_both _ _ (unless_true _ _ (le-leb _ _ p.short))
      (or_else_both _ _ (unless_true _ _ p.table)
      (or_else_both _ _ p.stack
      (or_else_both _ _ (free_none file h p.free)
      (or_else_both _ _ ((large_by_cover h.next_block (extents_held file h) (all_some block p.table p.stack p.free)).1 (p.ends, p.once)) refl))))

  pub by_points : 0 < h.block → (space_fault file h ≡ None) ↔ HasPoints file h
  by_points block = (points block, no_space_fault block)

block_some : (file : List ℕ) → header_fault_of (front_of file) (length file) ≡ None → 0 < (header_of (front_of file)).block
block_some file none = let l = (header_in (front_of file) (length file) none).least in omega (arith, l)

pub sound_parts : (file : List ℕ) → IsSound file → HasSoundParts file
unfolding sound_fault
sound_parts file none =
    let both = or_else-none _ _ none in
    let r = readable file both.0 in
    record { header = r.header; parts = r.parts; points = (by_points file (header_of (front_of file)) (block_some file r.header)).0 both.1 }

pub made_sound : (file : List ℕ) → HasSoundParts file → IsSound file
unfolding sound_fault
made_sound file s =
    or_else_both _ _ (made_readable file (record { header = s.header; parts = s.parts })) ((by_points file (header_of (front_of file)) (block_some file s.header)).1 s.points)
