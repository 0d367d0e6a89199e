-- Numbers that read back from their bytes, and bytes that are repeated.
use Rattle.std.proofs.Common.{◌≡◌, ℕ, zero, suc, ◌+◌, ◌*◌, ◌^◌, ◌<◌, ◌≤◌, List, [], ◌++◌, length, take, sym, ap, ◌∙◌, inl, inr, arith, length-append}
use Rattle.std.proofs.Math.Nat.{mul-le-mul_left}
use Rattle.std.proofs.lemmas.Bool.{cases_eq}
use Rattle.std.proofs.lemmas.List.{take_all, append-nil}
use Rattle.byteorder.specs.Endian.{little_bytes}
use Rattle.byteorder.specs.Numbers.{length-bytes_low_first, little_number-reads_back}
use Rattle.gd_format.specs.Field.{number_of, bytes_at}
use Rattle.gd_layout.proofs.Numbers.{little_from-number_of}
use Rattle.gd_file_laws.proofs.Frame.{bytes_at-front, bytes_at-back}
use Rattle.gd_create.specs.NewFile.{repeated}

back : (n x : ℕ) → x < 256 ^ n → number_of (little_bytes n x) ≡ x
back n x lt =
    ap number_of (sym (take_all n (little_bytes n x) (let l = length-bytes_low_first 0 n x in omega (arith, l)))) ∙ ap (λ (zs : List ℕ). number_of (take n zs)) (sym (append-nil (little_bytes n x)))
    ∙ sym (little_from-number_of n (little_bytes n x ++ [])) ∙ little_number-reads_back n x [] lt

pub back_4 : (x : ℕ) → x < 2 ^ 32 → number_of (little_bytes 4 x) ≡ x
back_4 x lt = back 4 x (omega arith)

pub back_8 : (x : ℕ) → x < 2 ^ 64 → number_of (little_bytes 8 x) ≡ x
back_8 x lt = back 8 x (omega arith)

-- ---- bytes that are repeated

pub length-repeated : (bs : List ℕ) (m n : ℕ) → length bs ≡ m → length (repeated n bs) ≡ m * n
length-repeated bs m zero e = omega arith
length-repeated bs m (suc n) e =
    let ih = length-repeated bs m n e in
    let one : m * suc n ≡ m * n + m = grind arith in
    length-append (repeated n bs) bs ∙ omega (arith, ih, one, e)

pub repeated-at : (bs : List ℕ) (m n i k : ℕ) → length bs ≡ m → i < n → k ≤ m → bytes_at (repeated n bs) (m * i) k ≡ take k bs
repeated-at bs m zero i k e lt le = absurd (omega arith)
repeated-at bs m (suc n) i k e lt le =
    let long = length-repeated bs m n e in
    elim (cases_eq i n) [
      | inl same ↦ bytes_at-back (repeated n bs) bs (m * i) 0 k (let at : m * i ≡ m * n = ap (λ (j : ℕ). m * j) same in omega (arith, at, long))
      | inr other ↦
          let next : i + 1 ≤ n = omega arith in
          let below : m * (i + 1) ≤ m * n = mul-le-mul_left m next in
          let one : m * (i + 1) ≡ m * i + m = omega arith in
          bytes_at-front (repeated n bs) bs (m * i) k (omega (arith, below, one, long, le)) ∙ repeated-at bs m n i k e (omega arith) le
    ]
