-- Where the half of a run lies.
use Rattle.std.proofs.Common.{◌≡◌, ℕ, ◌+◌, ◌-◌, ◌*◌, ◌^◌, ◌<◌, ◌≤◌, sym, ap, ◌∙◌, arith}
use Rattle.std.specs.Prelude.{◌/◌}
use Rattle.std.proofs.lemmas.Nat.{pow-add, pow_pos}
use Rattle.std.proofs.Math.Nat.{div-lt_iff_lt-mul, pow-le-pow_right}

row_in : (k n m all : ℕ) → k < n → n * (m * 2) ≡ all → (2 * k + 1) * m + m ≤ all
row_in k n m all lt e = grind (arith, lt, e)

-- the half lies in a directory
pub half_in : (hash bits d : ℕ) → hash < 2 ^ 31 → bits < d → d ≤ 24 → (2 * (hash / 2 ^ (31 - bits)) + 1) * 2 ^ (d - (bits + 1)) + 2 ^ (d - (bits + 1)) ≤ 2 ^ d
half_in hash bits d small less most =
    let p = pow_pos (31 - bits) in
    let w1 : bits + (31 - bits) ≡ 31 = omega (arith, less, most) in
    let a1 : 2 ^ bits * 2 ^ (31 - bits) ≡ 2 ^ 31 = sym (pow-add 2 bits (31 - bits)) ∙ ap (λ (x : ℕ). 2 ^ x) w1 in
    let below : hash < 2 ^ bits * 2 ^ (31 - bits) = rw a1 small in
    let qb : hash / 2 ^ (31 - bits) < 2 ^ bits = (div-lt_iff_lt-mul {k = 2 ^ (31 - bits)} {x = hash} {y = 2 ^ bits} p).1 below in
    let e : d - bits ≡ d - (bits + 1) + 1 = omega (arith, less) in
    let twice : 2 ^ (d - bits) ≡ 2 ^ (d - (bits + 1)) * 2 = ap (λ (x : ℕ). 2 ^ x) e ∙ pow-add 2 (d - (bits + 1)) 1 in
    let w2 : bits + (d - bits) ≡ d = omega (arith, less) in
    let a2 : 2 ^ bits * 2 ^ (d - bits) ≡ 2 ^ d = sym (pow-add 2 bits (d - bits)) ∙ ap (λ (x : ℕ). 2 ^ x) w2 in
    row_in (hash / 2 ^ (31 - bits)) (2 ^ bits) (2 ^ (d - (bits + 1))) (2 ^ d) qb (ap (λ (x : ℕ). 2 ^ bits * x) (sym twice) ∙ a2)

pub few_entries : (d : ℕ) → d ≤ 24 → 2 ^ d ≤ 2 ^ 24
few_entries d le = pow-le-pow_right {n = 2} (omega arith) {i = d} {j = 24} le
