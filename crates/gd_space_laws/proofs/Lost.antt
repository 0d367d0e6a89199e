-- How many bytes the extents of two files have, by their covers.
use Rattle.std.proofs.Common.{◌≡◌, ℕ, ◌+◌, ◌-◌, ◌<◌, ◌≤◌, List, [], ◌∷◌, ap, inl, inr, arith}
use Rattle.std.proofs.lemmas.Bool.{cases_lt}
use Rattle.std.proofs.lemmas.Bool.Decides.{nat_tests}
use Rattle.gd_format.specs.declared.Extent.{Extent}
use Rattle.gd_format.specs.declared.Header.{Header}
use Rattle.gd_format.specs.declared.Held.{Held}
use Rattle.gd_format.specs.HeaderFault.{header_of}
use Rattle.gd_format.specs.File.{front_of}
use Rattle.gd_format.specs.Covers.{cover, size_sum}
use Rattle.gd_format.specs.Sound.{extent, extents_held, extents, total, lost_total}
use Rattle.gd_file_laws.specs.Cover.{extents_in}
use Rattle.gd_space.proofs.Sides.{cover-in}
use Rattle.gd_map_laws.specs.Sums.{sum_below}
use Rattle.gd_map_laws.proofs.Sums.{sum_add, sum_even, cover_sum, total_is}

-- a cover of bytes before a place, each once at most, is part of that of all bytes before it
part_of_all : (f : ℕ → ℕ) (n : ℕ) → ((b : ℕ) → f b ≤ 1) → ((b : ℕ) → 0 < f b → b < n) → (b : ℕ) → f b ≤ cover (extent 0 n ∷ []) b
part_of_all f n once below b =
    let one = once b in
    elim (cases_lt 0 (f b)) [
      | inl some ↦ let lt = below b some in let here : cover (extent 0 n ∷ []) b ≡ 1 = grind (arith, nat_tests, lt) in omega (arith, here, one)
      | inr none ↦ omega (arith, none)
    ]

sum_most : (f : ℕ → ℕ) (n : ℕ) → ((b : ℕ) → f b ≤ 1) → ((b : ℕ) → 0 < f b → b < n) → sum_below f n ≤ n
sum_most f n once below =
    let e = sum_even (λ b. f b + (cover (extent 0 n ∷ []) b - f b)) (cover (extent 0 n ∷ [])) n (λ b. let p = part_of_all f n once below b in omega (arith, p)) in
    let a = sum_add f (λ b. cover (extent 0 n ∷ []) b - f b) n in
    let s = cover_sum (extent 0 n ∷ []) n (λ b some. let q = cover-in 0 n b some in omega (arith, q)) in
    omega (arith, e, a, s)

-- extents of which each byte is in one at most, and lies before a place
pub fits_before : (ks : List Held) (n : ℕ) → ((b : ℕ) → cover (extents_in ks) b ≤ 1) → ((b : ℕ) → 0 < cover (extents_in ks) b → b < n) → total ks ≤ n
fits_before ks n once below =
    let a = cover_sum (extents_in ks) n below in
    let t = total_is ks in
    let m = sum_most (cover (extents_in ks)) n once below in
    omega (arith, a, t, m)

-- covers that balance, all before a place
pub totals : (ks ks' : List Held) (free free' : List Extent) (n : ℕ) → ((b : ℕ) → cover (extents_in ks) b + cover free' b ≡ cover (extents_in ks') b + cover free b)
    → ((b : ℕ) → 0 < cover (extents_in ks) b → b < n) → ((b : ℕ) → 0 < cover (extents_in ks') b → b < n) → ((b : ℕ) → 0 < cover free b → b < n) → ((b : ℕ) → 0 < cover free' b → b < n)
    → total ks + size_sum free' ≡ total ks' + size_sum free
totals ks ks' free free' n covers one two three four =
    let e = sum_even (λ b. cover (extents_in ks) b + cover free' b) (λ b. cover (extents_in ks') b + cover free b) n covers in
    let p = sum_add (cover (extents_in ks)) (cover free') n in
    let q = sum_add (cover (extents_in ks')) (cover free) n in
    let a = cover_sum (extents_in ks) n one in
    let b = cover_sum (extents_in ks') n two in
    let c = cover_sum free n three in
    let d = cover_sum free' n four in
    let t = total_is ks in
    let u = total_is ks' in
    omega (arith, e, p, q, a, b, c, d, t, u)

-- what is lost, by the header that the file has
pub lost_is : (file : List ℕ) (h : Header) → header_of (front_of file) ≡ h → lost_total file ≡ h.next_block - total (extents_held file h)
unfolding lost_total extents
lost_is file h is = ap (λ (g : Header). g.next_block - total (extents_held file g)) is
