-- A split by what it writes.
use Rattle.std.proofs.Common.{◌≡◌, ◌≢◌, ℕ, ◌+◌, ◌-◌, ◌<◌, Bool, true, false, ◌&&◌, not, List, [], ◌∷◌, length, refl, sym, ap, ◌∙◌, arith}
use Rattle.std.specs.Prelude.{ℤ, pos}
use Rattle.std.specs.List.{AllByRecursion}
use Rattle.std.specs.Str.{bytes_eq}
use Rattle.std.proofs.lemmas.Bool.{le-leb}
use Rattle.std.proofs.lemmas.Slice.Eq.{bytes_eq-Decides}
use Rattle.gd_format.specs.declared.Header.{Header}
use Rattle.gd_format.specs.declared.Extent.{Extent}
use Rattle.gd_format.specs.declared.Slot.{Slot}
use Rattle.gd_format.specs.declared.Slot.TheVariants.{Empty, Full}
use Rattle.gd_format.specs.Field.{bytes_at}
use Rattle.gd_format.specs.HeaderFault.{natural}
use Rattle.gd_format.specs.Bucket.{slots_at}
use Rattle.gd_format.specs.File.{entry_at, entries_of, block_of}
use Rattle.gd_format.specs.Slots.{count}
use Rattle.gd_format.specs.Sound.{extent}
use Rattle.gd_format.specs.Covers.{has_byte}
use Rattle.gd_format.proofs.Firsts.{both_true}
use Rattle.gd_map_laws.specs.Update.{IsRecordKept}
use Rattle.gd_map_laws.specs.Space.{one_if, block_has, bucket_cover, all_cover}
use Rattle.gd_map_laws.specs.Frame.{StaysAside}
use Rattle.gd_map_laws.specs.Change.{place_of, IsSoundFile}
use Rattle.gd_map_laws.specs.Split.{HalfBucket, SplitChange}
use Rattle.gd_map_laws.specs.SplitWrites.{HalfMade, SplitWritten}
use Rattle.gd_map_laws.proofs.Lists.{count-append}
use Rattle.gd_map_laws.proofs.Update.{count_zero_head}
use Rattle.gd_map_laws.proofs.OneKey.{entry_cases}
use Rattle.gd_map_laws.proofs.Stays.{has_in, bucket_in_all, two_in_all}
use Rattle.gd_map_laws.proofs.Aside.{stays_aside}
use Rattle.gd_map_laws.proofs.Change.{grown-none}

-- ---- records that read alike, by a test

is_moved : List ℕ → List ℕ → Slot → Bool
is_moved old new Empty = false
is_moved old new (Full hash start at k v) = not (bytes_eq (bytes_at new at k) (bytes_at old at k) && bytes_eq (bytes_at new (at + k) v) (bytes_at old (at + k) v))

not_moved : (old new : List ℕ) (slot : Slot) → IsRecordKept old new slot → is_moved old new slot ≡ false
unfolding is_moved
not_moved old new Empty kept = refl
not_moved old new (Full hash start at k v) kept =
    let p : (bytes_at new at k, bytes_at new (at + k) v) ≡ (bytes_at old at k, bytes_at old (at + k) v) = cc in
    let a = (bytes_eq-Decides (bytes_at new at k) (bytes_at old at k)).1 (ap (λ (x : List ℕ × List ℕ). x.0) p) in
    let b = (bytes_eq-Decides (bytes_at new (at + k) v) (bytes_at old (at + k) v)).1 (ap (λ (x : List ℕ × List ℕ). x.1) p) in
    rw (a, b) refl

both_of : (a b : Bool) → not (a && b) ≡ false → (a ≡ true) × (b ≡ true)
both_of true true e = (refl, refl)
both_of true false e = absurd cc
both_of false b e = absurd cc

kept_if : (old new : List ℕ) (slot : Slot) → is_moved old new slot ≡ false → IsRecordKept old new slot
unfolding is_moved
kept_if old new Empty e = refl
kept_if old new (Full hash start at k v) e =
    let both = both_of _ _ e in
    let a = (bytes_eq-Decides (bytes_at new at k) (bytes_at old at k)).0 both.0 in
    let b = (bytes_eq-Decides (bytes_at new (at + k) v) (bytes_at old (at + k) v)).0 both.1 in
    rw (a, b) refl

none_moved : (old new : List ℕ) (slots : List Slot) → AllByRecursion (IsRecordKept old new) slots → count (is_moved old new) slots ≡ 0
none_moved old new [] kept = refl
none_moved old new (x ∷ xs) kept = let e = not_moved old new x kept.0 in let ih = none_moved old new xs kept.1 in rw e (omega (arith, ih))

all_kept : (old new : List ℕ) (slots : List Slot) → count (is_moved old new) slots ≡ 0 → AllByRecursion (IsRecordKept old new) slots
all_kept old new [] z = tt
all_kept old new (x ∷ xs) z = let parts = count_zero_head (is_moved old new x) (count (is_moved old new) xs) z in (kept_if old new x parts.0, all_kept old new xs parts.1)

module _ (old new : List ℕ) (h : Header) (i at bits half q next next' : ℕ) (pool pool' : List Extent) (large : 0 < h.block) (file : IsSoundFile old h next pool) (li : i < entries_of h) (w : SplitWritten old new h i at bits half q next next' pool pool') where
  aside : StaysAside old new h i (slots_at (block_of old h i) h.elems)
  aside = stays_aside old new h i next pool [] (slots_at (block_of old h i) h.elems) li file.parts file.space (λ p e. refl) w.keeps

  halves_moved : count (is_moved old new) (slots_at (bytes_at new (place_of old h i) h.block) h.elems) + count (is_moved old new) (slots_at (bytes_at new at h.block) h.elems) ≡ 0
  unfolding is_moved
  halves_moved =
      let z = none_moved old new (slots_at (block_of old h i) h.elems) aside.kept in
      let s = w.same (is_moved old new) refl in
      let a = count-append (is_moved old new) (slots_at (bytes_at new (place_of old h i) h.block) h.elems) (slots_at (bytes_at new at h.block) h.elems) in
      omega (arith, z, s, a)

  half_of : (side : ℕ) (block : List ℕ) → HalfMade h bits side block → AllByRecursion (IsRecordKept old new) (slots_at block h.elems) → HalfBucket old new h bits side block
  half_of side block made kept = record { bits_more = made.bits_more; fields = made.fields; number = made.number; kept = kept; parted = made.parted; reached = made.reached }

  -- the second place is that of no bucket
  not_there : (j : ℕ) → j < entries_of h → entry_at old h j ≢ pos at
  unfolding bucket_cover all_cover
  not_there j lj e =
      let slots = slots_at (block_of old h i) h.elems in
      let has : one_if (block_has old h j at) ≡ 1 = place_counts e in
      let taken : one_if (has_byte (extent at h.block) at) ≡ 1 = rw (has_in at h.block at (omega arith) (omega (arith, large))) refl in
      let m = w.moves.moves at in
      let o = file.space.once at in
      let sj = bucket_in_all old h j next pool [] (slots_at (block_of old h j) h.elems) lj file.space (λ p f. refl) at in
      let below = file.space.below at (omega (arith, sj, has)) in
      let g = grown-none next next' at below in
      entry_cases (entry_at old h j) (entry_at old h i)
      (λ same.
      let si = bucket_in_all old h i next pool [] (slots_at (block_of old h i) h.elems) li file.space (λ p f. refl) at in
      let here : one_if (block_has old h i at) ≡ 1 = place_counts (sym same ∙ e) in
      omega (arith, m, o, si, here, taken, g))
      (λ ne.
      let two = two_in_all old h i next pool [] (slots_at (block_of old h i) h.elems) li file.space (λ p f. refl) at j lj ne in
      omega (arith, m, o, two, has, taken, g))
    where
      place_counts : {z : ℤ} → z ≡ pos at → one_if (has_byte (extent (natural z) h.block) at) ≡ 1
      place_counts {z = z} e = ap (λ (x : ℤ). one_if (has_byte (extent (natural x) h.block) at)) e ∙ rw (has_in at h.block at (omega arith) (omega (arith, large))) refl

  pub split_change : SplitChange old new h i at bits half q
  split_change =
      let moved = halves_moved in
      let fits = w.second_in in
      record {
        bits_is = w.bits_is;
        less = w.less;
        half_is = w.half_is;
        q_is = w.q_is;
        longer = w.keeps.longer;
        low = w.low;
        high = w.high;
        fresh = not_there;
        in_file = both_true _ _ (le-leb 0 at (omega arith)) (le-leb at (length new - h.block) (omega (arith, fits)));
        others = aside.blocks;
        records = aside.records;
        first = half_of 0 (bytes_at new (place_of old h i) h.block) w.first (all_kept old new (slots_at (bytes_at new (place_of old h i) h.block) h.elems) (omega (arith, moved)));
        second = half_of 1 (bytes_at new at h.block) w.second (all_kept old new (slots_at (bytes_at new at h.block) h.elems) (omega (arith, moved)));
        same = w.same;
      }
