-- The fields of a file, from reads of their bytes.
use Rattle.std.proofs.Common.{◌≡◌, ℕ, ◌+◌, ◌-◌, ◌≤◌, List, length, take, drop, min, ap, arith}
use Rattle.gd_format.specs.Field.{number_of, u32_at}

pub field_read : (at n : ℕ) (bytes filled : List ℕ) → n ≡ min 4 (length bytes - at) → take n filled ≡ take n (drop at bytes) → at + 4 ≤ length bytes → u32_at filled 0 ≡ u32_at bytes at
unfolding u32_at
field_read at n bytes filled size same inside =
    let four : n ≡ 4 = omega (arith, size, inside) in
    ap number_of (rw four at same)
