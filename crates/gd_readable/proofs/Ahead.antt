-- How many slots a walk has before it.
use Rattle.std.proofs.Common.{◌≡◌, ℕ, ◌+◌, ◌-◌, ◌*◌, ◌^◌, ◌<◌, ◌≤◌, arith}
use Rattle.std.proofs.Math.Nat.{le_refl, mul-le-mul, pow-le-pow_right}
use Rattle.gd_format.specs.declared.Header.{Header}
use Rattle.gd_format.specs.File.{entries_of}
use Rattle.gd_readable.specs.Standing.{slots_ahead}

-- a slot on
pub ahead_slot : (h : Header) (entry s t : ℕ) → s < t → t ≤ h.elems → slots_ahead h entry t < slots_ahead h entry s
unfolding slots_ahead
ahead_slot h entry s t lt le = omega arith

-- a bucket on
pub ahead_bucket : (h : Header) (i j s : ℕ) → i < j → j ≤ entries_of h → slots_ahead h j 0 ≤ slots_ahead h i s
unfolding slots_ahead
ahead_bucket h i j s lt le =
    let fewer : (entries_of h - j + 1) * h.elems ≤ (entries_of h - i) * h.elems = mul-le-mul (omega arith) (le_refl h.elems) in
    omega (arith, fewer)

pub ahead_end : (h : Header) (i s : ℕ) → slots_ahead h i h.elems ≤ slots_ahead h i s
unfolding slots_ahead
ahead_end h i s = omega arith

-- before the first bucket
pub ahead_few : (h : Header) → h.dir_bits ≤ 24 → 112 + 24 * h.elems ≤ h.block → h.block ≤ 1048576 → slots_ahead h 0 h.elems < 2 ^ 64
unfolding slots_ahead
ahead_few h bits room block =
    let entries : 2 ^ h.dir_bits ≤ 2 ^ 24 = pow-le-pow_right {n = 2} (omega arith) {i = h.dir_bits} {j = 24} bits in
    let all : entries_of h - 0 ≤ 2 ^ 24 = omega (arith, entries) in
    let each : h.elems ≤ 2 ^ 20 = omega (arith, room, block) in
    let most : (entries_of h - 0) * h.elems ≤ 2 ^ 24 * 2 ^ 20 = mul-le-mul all each in
    omega (arith, most)
