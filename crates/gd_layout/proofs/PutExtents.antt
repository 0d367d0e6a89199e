-- Extents that were put one after another into a block.
use Rattle.std.proofs.Common.{◌≡◌, ℕ, zero, suc, ◌+◌, ◌*◌, ◌^◌, ◌<◌, ◌≤◌, true, List, length, get_or, take, refl, sym, ap, ◌∙◌, inl, inr, arith, add-one}
use Rattle.std.proofs.lemmas.Bool.{cases_eq}
use Rattle.std.proofs.lemmas.Bool.Decides.{nat_tests}
use Rattle.std.proofs.lemmas.Int.{of_z-to_z}
use Rattle.std.proofs.lemmas.List.{take_more, take_all, get_or_default}
use Rattle.std.specs.Int.{w32, w64}
use Rattle.std.specs.List.{All}
use Rattle.gd_format.specs.declared.Extent.{Extent}
use Rattle.gd_format.specs.First.{list_below, all_below}
use Rattle.gd_format.specs.Field.{u32_at, u64_at, i32_at, i64_at}
use Rattle.gd_format.specs.Bucket.{extent_of}
use Rattle.gd_format.specs.Avail.{is_extent_right, is_extent_right_at, raw_extent_at, extent_at}
use Rattle.gd_format.proofs.Firsts.{all_below_from}
use Rattle.gd_layout.specs.Fits.{FitsExtent}
use Rattle.gd_layout.specs.Writing.{IsPut, ArePut, raw_extent_from}
use Rattle.gd_layout.proofs.Pieces.{u32_at-front, i32_at-front, i64_at-front, i32_is, i64_is, take-front}

-- ---- one extent

module _ (b1 b2 b3 : List ℕ) (at size place : ℕ) (r1 : u32_at b1 at ≡ size) (r2 : u32_at b2 (at + 4) ≡ 0) (r3 : u64_at b3 (at + 8) ≡ place) (f2 : take (at + 4) b2 ≡ take (at + 4) b1) (f3 : take (at + 8) b3 ≡ take (at + 8) b2) where
  size_is : u32_at b3 at ≡ size
  size_is = u32_at-front at (at + 4) b3 b1 (omega arith) (take-front (at + 4) (at + 8) b3 b2 (omega arith) f3 ∙ f2) ∙ r1

  reads : size < 2 ^ 32 → place < 2 ^ 64 → extent_of (raw_extent_from b3 at) ≡ record { at = place; size = size }
  unfolding extent_of raw_extent_from i32_at i64_at
  reads ls lp = rw (size_is, r3, of_z-to_z w32 size ls, of_z-to_z w64 place lp) refl

  right : FitsExtent (record { at = place; size = size }) → is_extent_right (raw_extent_from b3 at) ≡ true
  unfolding is_extent_right raw_extent_from
  right fits =
      let one = i32_is b3 at size size_is fits.size in
      let two = i64_is b3 (at + 8) place r3 fits.at in
      let some = fits.some in
      rw (one, two) (grind (arith, nat_tests))

  pub extent_put : size < 2 ^ 32 → place < 2 ^ 64 → IsPut b3 at (record { at = place; size = size })
  extent_put ls lp = record { reads = reads ls lp; right = right; padding = u32_at-front (at + 4) (at + 8) b3 b2 (omega arith) f3 ∙ r2 }

-- it stays where the front of the block does
raw-front : (xs ys : List ℕ) (at m : ℕ) → at + 16 ≤ m → take m xs ≡ take m ys → raw_extent_from xs at ≡ raw_extent_from ys at
unfolding raw_extent_from
raw-front xs ys at m le f = rw (i32_at-front at m xs ys (omega arith) f, i64_at-front (at + 8) m xs ys (omega arith) f) refl

pub IsPut-front : (xs ys : List ℕ) (at m : ℕ) (e : Extent) → at + 16 ≤ m → take m xs ≡ take m ys → IsPut ys at e → IsPut xs at e
IsPut-front xs ys at m e le f put =
    let raw = raw-front xs ys at m le f in
    record {
      reads = ap extent_of raw ∙ put.reads;
      right = λ fits. ap is_extent_right raw ∙ put.right fits;
      padding = u32_at-front (at + 4) m xs ys (omega arith) f ∙ put.padding;
    }

-- one more
pub put_more : (xs ys : List ℕ) (at n : ℕ) (es : List Extent) (e : Extent) → n < length es → take (at + 16 * n) ys ≡ take (at + 16 * n) xs
    → ((k : ℕ) (d : Extent) → k < n → IsPut xs (at + 16 * k) (get_or es k d)) → IsPut ys (at + 16 * n) (get_or es n e) → (k : ℕ) (d : Extent) → k < n + 1 → IsPut ys (at + 16 * k) (get_or es k d)
put_more xs ys at n es e lt f old new k d le =
    elim (cases_eq k n) [
      | inl same ↦
          let value : get_or es n e ≡ get_or es n d = get_or_default es n e d lt in
          rw same (rw (← value) new)
      | inr other ↦ IsPut-front ys xs (at + 16 * k) (at + 16 * n) (get_or es k d) (omega arith) f (old k d (omega arith))
    ]

-- ---- the list

pub list_is : {X : Type 0} (f : ℕ → X) (xs : List X) (d : X) → ((k : ℕ) → k < length xs → f k ≡ get_or xs k d) → (n : ℕ) → n ≤ length xs → list_below n f ≡ take n xs
list_is f xs d h zero le = refl
list_is f xs d h (suc n) le =
    let ih = list_is f xs d h n (omega arith) in
    let last = h n (omega arith) in
    let more = take_more xs n d (omega arith) in
    rw (ih, last) (sym more ∙ ap (λ (k : ℕ). take k xs) (add-one n))

-- a list of extents from what stands at each place
pub list_put : (block : List ℕ) (at : ℕ) (es : List Extent) → ArePut block at es → (f : ℕ → Extent) → ((k : ℕ) → f k ≡ extent_of (raw_extent_from block (at + 16 * k))) → list_below (length es) f ≡ es
list_put block at es put f is =
    let d : Extent = record { at = 0; size = 0 } in
    list_is f es d (λ k lt. is k ∙ (put k d lt).reads) (length es) (omega arith) ∙ take_all (length es) es (omega arith)

-- ---- the extents of a block of free space

extent_place : (b : List ℕ) (e : ℕ) → raw_extent_at b e ≡ raw_extent_from b (16 + 16 * e)
unfolding raw_extent_at raw_extent_from
extent_place b e = ap (λ (x : ℕ). record { size = i32_at b (16 + 16 * e); at = i64_at b x }) (omega arith)

pub extents_put : (block : List ℕ) (es : List Extent) → ArePut block 16 es → list_below (length es) (extent_at block) ≡ es
unfolding extent_at
extents_put block es put = list_put block 16 es put (extent_at block) (λ k. ap extent_of (extent_place block k))

pub right_put : (block : List ℕ) (es : List Extent) → ArePut block 16 es → All FitsExtent es → all_below (length es) (is_extent_right_at block) ≡ true
unfolding is_extent_right_at
right_put block es put fit =
    let d : Extent = record { at = 0; size = 0 } in
    all_below_from (is_extent_right_at block) (length es) (λ k lt. ap is_extent_right (extent_place block k) ∙ (put k d lt).right (fit k d lt))

pub padding_put : (block : List ℕ) (es : List Extent) → ArePut block 16 es → (e : ℕ) → e < length es → u32_at block (20 + 16 * e) ≡ 0
padding_put block es put e lt =
    let d : Extent = record { at = 0; size = 0 } in
    let same : 20 + 16 * e ≡ 16 + 16 * e + 4 = omega arith in
    ap (u32_at block) same ∙ (put e d lt).padding
