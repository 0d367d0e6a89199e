-- Sizes of the extents that a file holds.
use Rattle.std.proofs.Common.{◌≡◌, ℕ, zero, suc, ◌+◌, ◌-◌, ◌*◌, ◌^◌, ◌<◌, ◌≤◌, true, false, not, ltb, List, [], ◌∷◌, length, refl, arith}
use Rattle.std.specs.Prelude.{◌==◌, ℤ, pos, negsuc}
use Rattle.std.specs.List.{AllByRecursion}
use Rattle.std.specs.Int.{w32, cast_unsigned, cast_signed}
use Rattle.std.proofs.lemmas.Bool.{leb-true, ltb-true}
use Rattle.gd_format.specs.declared.Header.{Header}
use Rattle.gd_format.specs.declared.Extent.{Extent}
use Rattle.gd_format.specs.declared.RawExtent.{RawExtent}
use Rattle.gd_format.specs.Field.{bytes_at, u32_at, i32_at}
use Rattle.gd_format.specs.HeaderFault.{natural, is_within}
use Rattle.gd_format.specs.Bucket.{counts_at, raw_free_at, extent_of, is_from_zero}
use Rattle.gd_format.specs.Avail.{count_at, raw_extent_at, extent_at, extents_at, is_avail, is_extent_right, is_extent_right_at, avail_size}
use Rattle.gd_format.specs.Sound.{is_free_right, is_stack_block, stack_block, stack_size}
use Rattle.gd_format.specs.Covers.{cover}
use Rattle.gd_format.specs.FreeSide.{StackBlock, IsStack, block_extent, stack_extents, IsBelow}
use Rattle.gd_format.proofs.Firsts.{and-true, all_below-at}
use Rattle.gd_file_laws.proofs.Lists.{bool_cases, all-append, all_list_below}
use Rattle.gd_file_laws.proofs.Covers.{has_in}
use Rattle.gd_file_laws.proofs.Stacks.{size_of_block}
use Rattle.gd_map_laws.specs.Space.{free_in}

signed_small : (u : ℕ) → is_from_zero (cast_signed w32 u) ≡ true → cast_unsigned w32 (cast_signed w32 u) < 2 ^ 31
signed_small u h =
    bool_cases (ltb u (2 ^ 31))
    (λ t. rw t (ltb-true u (2 ^ 31) t))
    (λ f. let bad : false ≡ true = rw f at h in absurd cc)

some_size : (z : ℤ) → is_from_zero z ≡ true → not (natural z == 0) ≡ true → 0 < cast_unsigned w32 z
some_size (pos zero) f n = absurd cc
some_size (pos (suc n)) f h = omega arith
some_size (negsuc n) f h = absurd cc

-- a size that the format holds
pub record IsSized (e : Extent) : Type 0 where
  pub some : 0 < e.size
  pub fits : e.size < 2 ^ 31

raw_sized : (r : RawExtent) (u : ℕ) → r.size ≡ cast_signed w32 u → is_extent_right r ≡ true → IsSized (extent_of r)
unfolding is_extent_right extent_of
raw_sized r u e h =
    let a = and-true _ _ h in
    let b = and-true _ _ a.0 in
    let from : is_from_zero (cast_signed w32 u) ≡ true = rw e at b.0 in
    record { some = some_size r.size b.0 b.1; fits = rw e (signed_small u from) }

pub avail_sized : (block : List ℕ) (most : ℕ) → is_avail block most ≡ true → AllByRecursion IsSized (extents_at block)
unfolding is_avail is_extent_right_at extent_at raw_extent_at i32_at
avail_sized block most h =
    all_list_below IsSized (extent_at block) (natural (count_at block))
    (λ k lt. raw_sized (raw_extent_at block k) (u32_at block (16 + 16 * k)) refl (all_below-at (is_extent_right_at block) (natural (count_at block)) (and-true _ _ h).1 k lt))

pub free_sized : (file : List ℕ) (h : Header) (at : ℕ) → is_free_right file h at ≡ true → AllByRecursion IsSized (free_in (bytes_at file at h.block))
unfolding is_free_right raw_free_at i32_at
free_sized file h at right =
    all_list_below IsSized (λ e. extent_of (raw_free_at (bytes_at file at h.block) e)) (natural (counts_at (bytes_at file at h.block)).free)
    (λ k lt.
    raw_sized (raw_free_at (bytes_at file at h.block) k) (u32_at (bytes_at file at h.block) (8 + 16 * k)) refl
    (all_below-at (λ e. is_extent_right (raw_free_at (bytes_at file at h.block) e)) (natural (counts_at (bytes_at file at h.block)).free) right k lt))

within_most : (z : ℤ) (low high : ℕ) → is_within z low high ≡ true → natural z ≤ high
within_most (pos n) low high h = leb-true n high (and-true _ _ h).1
within_most (negsuc n) low high h = absurd cc

block_few : (file : List ℕ) (most at : ℕ) → is_stack_block file most at ≡ true → natural (count_at (bytes_at file at 16)) ≤ most
unfolding is_stack_block
block_few file most at h =
    let a = and-true _ (is_avail (stack_block file at) most) h in
    let b = and-true _ _ a.0 in
    within_most (count_at (bytes_at file at 16)) 0 most (and-true _ (is_within (count_at (bytes_at file at 16)) 0 most) b.0).1

block_avail : (file : List ℕ) (most at : ℕ) → is_stack_block file most at ≡ true → is_avail (stack_block file at) most ≡ true
unfolding is_stack_block
block_avail file most at h = (and-true _ (is_avail (stack_block file at) most) h).1

pub stack_sized : (file : List ℕ) (most top : ℕ) (blocks : List StackBlock) → most ≤ 65536 → IsStack file most top blocks → AllByRecursion IsSized (stack_extents blocks)
unfolding stack_size
stack_sized file most top [] small s = tt
stack_sized file most top (b ∷ bs) small s =
    let size = size_of_block file most b s.1 in
    let few = block_few file most b.at s.1.right in
    let same : avail_size (natural (count_at (bytes_at file b.at 16))) ≡ avail_size (length b.extents) = size in
    let first : IsSized (block_extent b) = record { some = omega arith; fits = omega (arith, few, same, small) } in
    let body : AllByRecursion IsSized b.extents = rw s.1.extents (avail_sized (stack_block file b.at) most (block_avail file most b.at s.1.right)) in
    all-append IsSized (block_extent b ∷ b.extents) (stack_extents bs) (first, body) (stack_sized file most b.next bs small s.2)

-- extents of which each byte lies from a place on and before another one
pub below_from : (next low : ℕ) (es : List Extent) → 0 < low → AllByRecursion IsSized es → ((b : ℕ) → 0 < cover es b → (low ≤ b) × (b < next)) → AllByRecursion (IsBelow next) es
below_from next low [] some sized inside = tt
below_from next low (e ∷ es) some sized inside = (
  first e es sized.0 inside,
  below_from next low es some sized.1 (λ b c. inside b (omega (arith, c))),
)
  where
    first : (e : Extent) (es : List Extent) → IsSized e → ((b : ℕ) → 0 < cover (e ∷ es) b → (low ≤ b) × (b < next)) → IsBelow next e
    first e es s inside =
        let n = s.some in
        let a = inside e.at (let has = has_in e.at e.size e.at (omega arith) (omega (arith, n)) in rw has (omega arith)) in
        let z = inside (e.at + e.size - 1) (let has = has_in e.at e.size (e.at + e.size - 1) (omega (arith, n)) (omega (arith, n)) in rw has (omega arith)) in
        record { start = omega (arith, a, some); some = n; fits = s.fits; ends = omega (arith, z, n) }
