-- What is read where a block of free space was written.
use Rattle.std.proofs.Common.{◌≡◌, ℕ, ◌^◌, ◌<◌, ◌≤◌, true, List, length, take, refl, ap, ◌∙◌, arith}
use Rattle.std.proofs.lemmas.Bool.{le-leb}
use Rattle.std.proofs.lemmas.Int.{of_z-to_z}
use Rattle.std.specs.Prelude.{pos}
use Rattle.std.specs.Int.{w64, cast_unsigned}
use Rattle.std.specs.List.{All}
use Rattle.gd_format.specs.declared.RawAvail.{RawAvail}
use Rattle.gd_format.specs.First.{list_below}
use Rattle.gd_format.specs.Field.{u32_at, u64_at, i64_at}
use Rattle.gd_format.specs.HeaderFault.{natural}
use Rattle.gd_format.specs.Avail.{Avail, raw_avail_at, count_at, next_at, extents_at, extent_at, is_avail, avail_at}
use Rattle.gd_format.proofs.Firsts.{both_true}
use Rattle.gd_layout.specs.Fits.{FitsExtent}
use Rattle.gd_layout.specs.Writing.{ArePut, raw_avail_from}
use Rattle.gd_layout.proofs.Pieces.{u32_at-front, u64_at-front, take-front, i32_is}
use Rattle.gd_layout.proofs.PutExtents.{extents_put, right_put}

module _ (b1 b2 b3 b4 : List ℕ) (size : ℕ) (a : Avail) (r1 : u32_at b1 0 ≡ size) (r2 : u32_at b2 4 ≡ length a.extents) (r3 : u64_at b3 8 ≡ a.next_block) (f2 : take 4 b2 ≡ take 4 b1) (f3 : take 8 b3 ≡ take 8 b2) (f4 : take 16 b4 ≡ take 16 b3) (small : size < 2 ^ 31) (few : length a.extents < 2 ^ 31) where
  front_2 : take 8 b4 ≡ take 8 b2
  front_2 = take-front 8 16 b4 b3 (omega arith) f4 ∙ f3

  pub head_is : raw_avail_at b4 ≡ raw_avail_from a size
  unfolding raw_avail_at i64_at
  head_is =
      let e1 = i32_is b4 0 size (u32_at-front 0 4 b4 b1 (omega arith) (take-front 4 8 b4 b2 (omega arith) front_2 ∙ f2) ∙ r1) small in
      let e2 = i32_is b4 4 (length a.extents) (u32_at-front 4 8 b4 b2 (omega arith) front_2 ∙ r2) few in
      let e3 = u64_at-front 8 16 b4 b3 (omega arith) f4 ∙ r3 in
      rw (e1, e2, e3) refl

-- what the head and the extents give
module _ (b : List ℕ) (size : ℕ) (a : Avail) (head : raw_avail_at b ≡ raw_avail_from a size) where
  pub count_is : count_at b ≡ pos (length a.extents)
  count_is = ap (λ (r : RawAvail). r.count) head

  pub next_is : a.next_block < 2 ^ 64 → next_at b ≡ a.next_block
  unfolding next_at
  next_is lt = ap (λ (r : RawAvail). cast_unsigned w64 r.next_block) head ∙ of_z-to_z w64 a.next_block lt

  pub avail_is : a.next_block < 2 ^ 64 → ArePut b 16 a.extents → avail_at b a.room ≡ a
  unfolding avail_at
  avail_is lt put =
      let n = next_is lt in
      let es : extents_at b ≡ a.extents = ap (λ z. list_below (natural z) (extent_at b)) count_is ∙ extents_put b a.extents put in
      rw (n, es) refl

  pub avail_right : ArePut b 16 a.extents → All FitsExtent a.extents → (most : ℕ) → length a.extents ≤ most → is_avail b most ≡ true
  unfolding is_avail
  avail_right put fit most le =
      let c = count_is in
      let right = right_put b a.extents put fit in
      rw c (both_true _ _ (both_true _ _ (le-leb 0 (length a.extents) (omega arith)) (le-leb (length a.extents) most le)) right)
