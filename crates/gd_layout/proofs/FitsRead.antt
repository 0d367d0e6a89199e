-- Extents that are right, as a block of free space has them.
use mir.Val.{sel}
use Rattle.std.proofs.Common.{◌≡◌, ℕ, zero, suc, ◌+◌, ◌-◌, ◌*◌, ◌^◌, ◌<◌, Bool, true, false, not, ◌&&◌, List, [], ◌∷◌, get_or, refl, ap, ◌∙◌, inl, inr, arith}
use Rattle.std.proofs.lemmas.Bool.{cases_eq, ltb-true}
use Rattle.std.proofs.lemmas.Bool.Decides.{nat_tests}
use Rattle.std.proofs.lemmas.Int.{to_z_pos}
use Rattle.std.proofs.lemmas.List.{get_or_append_left, get_or-append_right}
use Rattle.std.specs.Prelude.{pos, negsuc, nat_lt, ◌==◌}
use Rattle.std.specs.Int.{w32, w64, cast_signed}
use Rattle.std.specs.List.{All}
use Rattle.gd_format.specs.declared.Extent.{Extent}
use Rattle.gd_format.specs.First.{list_below, all_below}
use Rattle.gd_format.specs.Field.{u32_at, u64_at, i32_at, i64_at}
use Rattle.gd_format.specs.Bucket.{is_from_zero, extent_of}
use Rattle.gd_format.specs.HeaderFault.{natural}
use Rattle.gd_format.specs.Avail.{count_at, raw_extent_at, is_extent_right, is_extent_right_at, extent_at, extents_at, is_avail}
use Rattle.gd_format.proofs.Firsts.{and-true, all_below-at, length-list_below}
use Rattle.gd_layout.specs.Fits.{FitsExtent}

sign_tells : (t : Bool) (n m : ℕ) → is_from_zero (sel t (pos n) (negsuc m)) ≡ true → t ≡ true
sign_tells true n m h = refl
sign_tells false n m h = absurd cc

-- a field with a sign that is not below 0
small_32 : (n : ℕ) → is_from_zero (cast_signed w32 n) ≡ true → n < 2 ^ 31
small_32 n h = ltb-true n (2 ^ 31) (sign_tells (nat_lt n (2 ^ 31)) n _ h)

small_64 : (n : ℕ) → is_from_zero (cast_signed w64 n) ≡ true → n < 2 ^ 63
small_64 n h = ltb-true n (2 ^ 63) (sign_tells (nat_lt n (2 ^ 63)) n _ h)

not_zero : (n : ℕ) → not (n == 0) ≡ true → 0 < n
not_zero n h = grind (arith, nat_tests, h)

-- an extent that is right, by the bits of its fields
extent_fits : (size at : ℕ) → is_extent_right (record { size = cast_signed w32 size; at = cast_signed w64 at }) ≡ true → FitsExtent (extent_of (record { size = cast_signed w32 size; at = cast_signed w64 at }))
unfolding is_extent_right extent_of
extent_fits size at h =
    let both = and-true (is_from_zero (cast_signed w32 size) && not (natural (cast_signed w32 size) == 0)) (is_from_zero (cast_signed w64 at)) h in
    let two = and-true (is_from_zero (cast_signed w32 size)) (not (natural (cast_signed w32 size) == 0)) both.0 in
    let ls = small_32 size two.0 in
    let la = small_64 at both.1 in
    let n : natural (cast_signed w32 size) ≡ size = ap natural (to_z_pos w32 size ls) in
    let some : not (size == 0) ≡ true = rw n at two.1 in
    rw (to_z_pos w32 size ls, to_z_pos w64 at la) (record { some = not_zero size some; size = ls; at = la })

pub extent_at_fits : (block : List ℕ) (e : ℕ) → is_extent_right_at block e ≡ true → FitsExtent (extent_at block e)
unfolding is_extent_right_at extent_at raw_extent_at i32_at i64_at
extent_at_fits block e h = extent_fits (u32_at block (16 + 16 * e)) (u64_at block (24 + 16 * e)) h

none_left : (n : ℕ) → n - n ≡ 0
none_left n = omega arith

get_or-below : (n : ℕ) (f : ℕ → Extent) (k : ℕ) (d : Extent) → k < n → get_or (list_below n f) k d ≡ f k
get_or-below zero f k d lt = absurd (omega arith)
get_or-below (suc n) f k d lt =
    let len = length-list_below f n in
    elim (cases_eq k n) [
      | inl same ↦ rw (same, get_or-append_right (list_below n f) (f n ∷ []) n n d len (omega arith)) (ap (λ (i : ℕ). get_or (f n ∷ []) i d) (none_left n))
      | inr other ↦ get_or_append_left (list_below n f) (f n ∷ []) d k (omega (arith, len)) ∙ get_or-below n f k d (omega arith)
    ]

pub extents_fit : (block : List ℕ) (n : ℕ) → all_below n (is_extent_right_at block) ≡ true → All FitsExtent (list_below n (extent_at block))
extents_fit block n right k d lt =
    let few : k < n = omega (arith, lt, length-list_below (extent_at block) n) in
    rw (get_or-below n (extent_at block) k d few) (extent_at_fits block k (all_below-at (is_extent_right_at block) n right k few))

-- the extents of a block that is right
pub avail_fits : (block : List ℕ) (most : ℕ) → is_avail block most ≡ true → All FitsExtent (extents_at block)
unfolding is_avail
avail_fits block most right = extents_fit block (natural (count_at block)) (and-true _ _ right).1
