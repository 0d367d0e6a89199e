-- Powers of two, and the sizes of a new file.
use Rattle.std.proofs.Common.{◌≡◌, ℕ, ◌+◌, ◌-◌, ◌*◌, ◌/◌, ◌^◌, ◌<◌, ◌≤◌, true, refl, sym, ap, ◌∙◌, inl, inr, arith, add-one}
use Rattle.std.proofs.Math.Pow.{pow_mono}
use Rattle.std.proofs.Math.Nat.{pow-succ'}
use Rattle.std.proofs.lemmas.Nat.{pow_pos}
use Rattle.std.proofs.lemmas.Bool.{cases_lt, le-leb}
use Rattle.std.proofs.lemmas.Bool.Decides.{Decides-eqb}
use Rattle.std.specs.Int.{is_power_of_two}
use Rattle.std.specs.Prelude.{count_ones}
use Rattle.std.specs.Int.Count.{ones, ones_cat, ones-ones}
use Rattle.gd_format.proofs.Firsts.{both_true}
use Rattle.std.specs.Prelude.{pos, max}
use Rattle.gd_base.specs.declared.errors.Format.{Format}
use Rattle.gd_base.specs.declared.errors.Format.TheVariants.{Standard, Numsync}
use Rattle.gd_format.specs.HeaderFault.{is_block_size, is_native, table_room}
use Rattle.gd_format.specs.Headers.{IsHeader}
use Rattle.gd_layout.specs.Fits.{FitsHeader, IsHeaderOf}
use Rattle.gd_create.specs.NewFile.{IsNewBlock, magic_of, new_header}

more : (k : ℕ) → 2 ^ (k + 1) ≡ 2 * 2 ^ k
more k = rw add-one (pow-succ' 2 k)

eight_times : (k : ℕ) → 2 ^ (k + 3) ≡ 8 * 2 ^ k
eight_times k =
    let a : k + 3 ≡ k + 2 + 1 = omega arith in
    let b : k + 2 ≡ k + 1 + 1 = omega arith in
    let one = more k in
    let two = more (k + 1) in
    let three = more (k + 2) in
    let f : 2 ^ (k + 3) ≡ 2 ^ (k + 2 + 1) = ap (λ (i : ℕ). 2 ^ i) a in
    let g : 2 ^ (k + 2) ≡ 2 ^ (k + 1 + 1) = ap (λ (i : ℕ). 2 ^ i) b in
    omega (arith, one, two, three, f, g)

-- a power of two that is at most another one, or smaller, has an exponent that is so
pub pow_le : (i j : ℕ) → 2 ^ i < 2 * 2 ^ j → i ≤ j
pow_le i j lt =
    elim (cases_lt j i) [
      | inl above ↦ let up : 2 ^ (j + 1) ≤ 2 ^ i = pow_mono {i = j + 1} {j = i} (omega arith) in let e = more j in absurd (omega (arith, up, lt, e))
      | inr le ↦ le
    ]

-- the least one that is not smaller than a number
pub least_power : (asked result r k : ℕ) → result ≡ 2 ^ r → result / 2 < max 1 asked → 1 ≤ asked → asked ≤ 2 ^ k → result ≤ 2 ^ k
least_power asked result r k e half some le =
    elim (cases_lt k r) [
      | inl below ↦
          let up : 2 ^ (k + 1) ≤ 2 ^ r = pow_mono {i = k + 1} {j = r} (omega arith) in
          let two = more k in
          absurd (omega (arith, up, two, e, half, some, le))
      | inr above ↦ let up : 2 ^ r ≤ 2 ^ k = pow_mono {i = r} {j = k} above in omega (arith, up, e)
    ]

-- the exponent of a block
pub new_block : (block r k : ℕ) → block ≡ 2 ^ k → 2 ^ r ≤ block → block < 2 * 2 ^ r → 512 ≤ block → block ≤ 1048576 → IsNewBlock block (r - 3)
new_block block r k e low high least most =
    let one : k ≤ r = pow_le k r (omega (arith, e, high)) in
    let two : r ≤ k = pow_le r k (omega (arith, e, low)) in
    let same : r ≡ k = omega (arith, one, two) in
    let from : 9 ≤ r = pow_le 9 r (omega (arith, least, high)) in
    let to : r ≤ 20 = pow_le r 20 (omega (arith, low, most)) in
    let whole : r ≡ r - 3 + 3 = omega (arith, from) in
    record {
      least = omega (arith, from);
      most = omega (arith, to);
      size = e ∙ ap (λ (i : ℕ). 2 ^ i) (sym same ∙ whole) ∙ eight_times (r - 3);
    }

-- ---- the block

power : (k : ℕ) → is_power_of_two (2 ^ k) ≡ true
power k =
    let some = pow_pos k in
    let whole : 2 ^ k ≡ 1 * 2 ^ k + 0 = omega arith in
    let cat : ones (1 * 2 ^ k + 0) ≡ ones 1 + ones 0 = ones_cat k 1 0 some in
    let one : ones 1 ≡ 1 = ones-ones 1 in
    let none : ones 0 ≡ 0 = ones-ones 0 in
    let all : ones (2 ^ k) ≡ 1 = ap ones whole ∙ cat ∙ omega (arith, one, none) in
    (Decides-eqb (count_ones (2 ^ k)) 1).1 all

pub record Bounds (block : ℕ) : Type 0 where
  pub least : 512 ≤ block
  pub most : block ≤ 1048576

pub bounds : (block bits : ℕ) → IsNewBlock block bits → Bounds block
bounds block bits is =
    let low : 2 ^ 6 ≤ 2 ^ bits = pow_mono {i = 6} {j = bits} is.least in
    let high : 2 ^ bits ≤ 2 ^ 17 = pow_mono {i = bits} {j = 17} is.most in
    let size = is.size in
    record { least = omega (arith, low, size); most = omega (arith, high, size) }

pub block_size : (block bits : ℕ) → IsNewBlock block bits → is_block_size (pos block) ≡ true
unfolding is_block_size
block_size block bits is =
    let b = bounds block bits is in
    let eight : 2 ^ (bits + 3) ≡ 8 * 2 ^ bits = eight_times bits in
    let two : is_power_of_two block ≡ true = ap is_power_of_two (is.size ∙ sym eight) ∙ power (bits + 3) in
    both_true _ _ (both_true _ _ (le-leb 512 block b.least) (le-leb block 1048576 b.most)) two

-- ---- the header

room : (format : Format) (block : ℕ) → 512 ≤ block → block ≤ 1048576 → (2 ≤ table_room (magic_of format) block) × (table_room (magic_of format) block < 2 ^ 31)
room Standard block low high = (omega arith, omega arith)
room Numsync block low high = (omega arith, omega arith)

native : (format : Format) → is_native (magic_of format) ≡ true
unfolding is_native
native Standard = refl
native Numsync = refl

module _ (format : Format) (block bits : ℕ) (is : IsNewBlock block bits) where
  pub is_header : IsHeader (new_header format block bits)
  unfolding new_header
  is_header =
      let b = bounds block bits is in
      let r = room format block b.least b.most in
      let size = is.size in
      let high = b.most in
      let few = is.most in
      record {
        block = block_size block bits is;
        bits = omega (arith, few);
        dir = omega (arith, size, high);
        elems = refl;
        next_block = omega (arith, high);
        least = r.0;
        most = omega arith;
      }

  pub is_header_of : (len : ℕ) → 3 * block ≤ len → IsHeaderOf (new_header format block bits) len
  unfolding new_header
  is_header_of len le =
      let size = is.size in
      record { header = is_header; magic = native format; block = omega (arith, le); dir = omega (arith, le, size) }

fits_words : (format : Format) (block bits : ℕ) → 512 ≤ block → block ≤ 1048576 → bits ≤ 17 → FitsHeader (new_header format block bits)
unfolding new_header
fits_words Standard block bits low high few = record { format = refl; block = omega arith; dir = omega arith; bits = omega arith; elems = omega arith; next_block = omega arith; avail_size = omega arith; words = λ e. (refl, refl, refl) }
fits_words Numsync block bits low high few = record { format = refl; block = omega arith; dir = omega arith; bits = omega arith; elems = omega arith; next_block = omega arith; avail_size = omega arith; words = λ e. (refl, refl, refl) }

pub fits : (format : Format) (block bits : ℕ) → IsNewBlock block bits → FitsHeader (new_header format block bits)
fits format block bits is = let b = bounds block bits is in fits_words format block bits b.least b.most is.most
