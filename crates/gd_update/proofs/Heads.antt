-- Headers over the rounds of a chain, and what is written.
use Rattle.std.proofs.Common.{◌≡◌, ℕ, ◌+◌, ◌-◌, ◌*◌, ◌/◌, ◌^◌, ◌<◌, ◌≤◌, refl, sym, ap, ◌∙◌, arith}
use Rattle.std.proofs.lemmas.Nat.{pow_pos, pow-add}
use Rattle.std.proofs.Math.Nat.{pow-le-pow_right}
use Rattle.gd_format.specs.declared.Header.{Header}
use Rattle.gd_format.specs.Headers.{IsHeader}
use Rattle.gd_format.specs.HeaderFault.{dir_size_of}
use Rattle.gd_space.specs.Effect.{WritesAtMost}
use Rattle.gd_space.proofs.Fits.{bounds}
use Rattle.gd_vault.specs.Views.{View}
use Rattle.gd_update.specs.SplitLaws.{half_of, doubled}
use Rattle.gd_update.specs.Growth.{IsWider, IsWide, DivisionWrites, run_size}

-- another end of space
pub wider_grown : (h h' : Header) → h' ≡ record h { next_block = h'.next_block } → IsWider h h'
wider_grown h h' is = is ∙ (λ i. record h { dir = dir i; dir_bits = bits i; next_block = h'.next_block })
  where
    dir : h.dir ≡ h'.dir
    dir = sym (ap (λ (k : Header). k.dir) is)

    bits : h.dir_bits ≡ h'.dir_bits
    bits = sym (ap (λ (k : Header). k.dir_bits) is)

pub wider_refl : (h : Header) → IsWider h h
wider_refl h = refl

pub wider_trans : (h h1 h2 : Header) → IsWider h h1 → IsWider h1 h2 → IsWider h h2
wider_trans h h1 h2 one two = two ∙ ap (λ (k : Header). record k { dir = h2.dir; dir_bits = h2.dir_bits; next_block = h2.next_block }) one

-- what a division writes, by its two parts
pub division_writes :
    (u v w : View) (h h1 h2 : Header) (bits : ℕ) → IsHeader h → IsWide bits h h1 → h2.dir_bits ≡ h1.dir_bits
    → WritesAtMost (h.block + 32 + 2 * (dir_size_of h1.dir_bits - dir_size_of h.dir_bits)) u v → WritesAtMost (2 * h1.block + (h1.block / 2 + 16) + 8 * half_of h1 bits) v w → DivisionWrites h h2 bits u w
division_writes u v w h h1 h2 bits is wide same one two =
    let block = ap (λ (k : Header). k.block) wide.head in
    let a = one.bytes in
    let b = two.bytes in
    let l = wide.longer in
    let r = wide.run in
    let least = (bounds h is).least in
    record {
      bytes = rw same (omega (arith, block, a, b, l, r, least));
      clones = two.clones ∙ one.clones;
    }

-- and what one that fails has written
pub division_amount :
    (u v w : View) (h h1 : Header) (bits : ℕ) → IsHeader h → IsWide bits h h1
    → WritesAtMost (h.block + 32 + 2 * dir_size_of h.dir_bits) u v → WritesAtMost (2 * h1.block + (h1.block / 2 + 16) + 8 * half_of h1 bits) v w → WritesAtMost (4 * h.block + 2 * dir_size_of h.dir_bits + run_size h bits) u w
division_amount u v w h h1 bits is wide one two =
    let block = ap (λ (k : Header). k.block) wide.head in
    let a = one.bytes in
    let b = two.bytes in
    let run = wide.run in
    let some = pow_pos (h.dir_bits - bits) in
    let least = (bounds h is).least in
    record {
      bytes = omega (arith, block, a, b, run, some, least);
      clones = two.clones ∙ one.clones;
    }

-- ---- a directory that is wide enough

pub wide_same : (h : Header) (bits : ℕ) → bits < h.dir_bits → IsWide bits h h
wide_same h bits less =
    let k = h.dir_bits - (bits + 1) in
    let whole : k + 1 ≡ h.dir_bits - bits = omega (arith, less) in
    let twice : 2 ^ (h.dir_bits - bits) ≡ 2 ^ k * 2 ^ 1 = ap (λ (x : ℕ). 2 ^ x) (sym whole) ∙ pow-add 2 k 1 in
    let below : 2 ^ k ≤ 2 ^ h.dir_bits = pow-le-pow_right {n = 2} (omega arith) {i = k} {j = h.dir_bits} (omega (arith, less)) in
    record {
      head = refl;
      less = less;
      growth = omega arith;
      longer = omega arith;
      run = omega (arith, twice);
      half = omega (arith, below);
    }

pub wide_doubled : (h h' : Header) (bits : ℕ) → bits ≤ h.dir_bits → h.dir_bits ≤ bits → h' ≡ record (doubled h h'.dir) { next_block = h'.next_block } → h'.next_block < h.next_block + 2 * dir_size_of h.dir_bits + 3 * h.block → IsWide bits h h'
wide_doubled h h' bits le ge is growth =
    let more : h'.dir_bits ≡ h.dir_bits + 1 = ap (λ (k : Header). k.dir_bits) is in
    let twice : 2 ^ h'.dir_bits ≡ 2 ^ h.dir_bits * 2 ^ 1 = ap (λ (x : ℕ). 2 ^ x) more ∙ pow-add 2 h.dir_bits 1 in
    let none : h'.dir_bits - (bits + 1) ≡ 0 = omega (arith, more, le, ge) in
    let one : 2 ^ (h'.dir_bits - (bits + 1)) ≡ 1 = ap (λ (x : ℕ). 2 ^ x) none in
    let level : h.dir_bits - bits ≡ 0 = omega (arith, le, ge) in
    let same : 2 ^ (h.dir_bits - bits) ≡ 1 = ap (λ (x : ℕ). 2 ^ x) level in
    let some = pow_pos h.dir_bits in
    record {
      head = is ∙ ap (λ (n : ℕ). record h { dir = h'.dir; dir_bits = n; next_block = h'.next_block }) (sym more);
      less = omega (arith, more, ge);
      growth = omega (arith, growth, twice);
      longer = omega (arith, twice);
      run = omega (arith, one, same);
      half = omega (arith, one, some);
    }

-- ---- the whole chain

-- the space grows by less than 2^29 - 2^25 bytes
pub bound_of :
    (h h' : Header) → IsHeader h → IsHeader h' → h'.next_block + 2 * dir_size_of h.dir_bits ≤ h.next_block + 144 * h.block + 2 * dir_size_of h'.dir_bits → h'.next_block ≤ h.next_block + (2 ^ 29 - 2 ^ 25)
bound_of h h' is now growth =
    let m = (bounds h is).most in
    let p : 2 ^ h'.dir_bits ≤ 2 ^ 24 = pow-le-pow_right {n = 2} (omega arith) {i = h'.dir_bits} {j = 24} now.bits in
    omega (arith, growth, m, p)
