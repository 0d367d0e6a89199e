-- Sizes by a header.
use Rattle.std.proofs.Common.{ℕ, ◌+◌, ◌-◌, ◌*◌, ◌/◌, ◌≤◌, Bool, true, false, List, arith}
use Rattle.std.specs.Prelude.{if◌then◌else◌}
use Rattle.gd_format.specs.declared.Extent.{Extent}
use Rattle.gd_space.specs.Effect.{half_size, push_size, give_pushes, give_writes}
use Rattle.gd_format.specs.declared.Header.{Header}
use Rattle.gd_format.specs.HeaderFault.{slots_of}
use Rattle.gd_format.specs.Headers.{IsHeader}
use Rattle.gd_space.proofs.Fits.{bounds}

slots-fit : (block : ℕ) → 112 ≤ block → 112 + 24 * slots_of block ≤ block
slots-fit block least = grind arith

-- the slots of a bucket fit its block
pub slots_fit : (h : Header) → IsHeader h → 112 + 24 * h.elems ≤ h.block
slots_fit h is = let least = (bounds h is).least in let e = is.elems in let f = slots-fit h.block (omega (arith, least)) in omega (arith, e, f)

if_most : (test : Bool) (most : ℕ) → (if test then most else 0) ≤ most
if_most true most = omega arith
if_most false most = omega arith

-- a give writes a block at most
pub give_most : (e : Extent) (h : Header) (table bucket : List Extent) → give_writes e h table bucket ≤ push_size (h.avail_size / 2)
give_most e h table bucket = if_most (give_pushes e h table bucket) (push_size (h.avail_size / 2))

halves_fit : (block capacity : ℕ) → 56 ≤ block → capacity ≤ (block - 56) / 16 → half_size capacity + push_size (capacity / 2) ≤ block
halves_fit block capacity least most = omega (arith, least, most)

-- the two blocks of the stack that a change writes at most are no larger than one block
pub pushes_fit : (h : Header) → IsHeader h → half_size h.avail_size + push_size (h.avail_size / 2) ≤ h.block
pushes_fit h is = let b = bounds h is in let least = b.least in let most = b.capacity in halves_fit h.block h.avail_size (omega (arith, least)) most
