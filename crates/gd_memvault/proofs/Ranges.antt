-- Bytes written over others.
use Rattle.std.proofs.Common.{◌≡◌, ◌∙◌, ap, ap₂, sym, ℕ, ◌+◌, ◌-◌, ◌<◌, ◌≤◌, max, get_or, List, ◌++◌, take, drop, length, replicate, arith}
use Rattle.std.proofs.lemmas.Grind.{common_steps}
use Rattle.std.proofs.lemmas.List.{ext_get_or, get_or-take, length-take, take-append-le, take_all}
use Rattle.gd_vault.specs.Effects.{written}

front_at : (old : List ℕ) (at n i : ℕ) → i < at → get_or (old ++ replicate (at + n - length old) 0) i 0 ≡ get_or (old ++ replicate (at - length old) 0) i 0
front_at old at n i lt = grind (arith, common_steps)

length_zeros : (old : List ℕ) (end : ℕ) → length (old ++ replicate (end - length old) 0) ≡ max (length old) end
length_zeros old end = grind (arith, common_steps)

each_zero : (old : List ℕ) (at n i : ℕ) → i < at → get_or (take at (old ++ replicate (at + n - length old) 0)) i 0 ≡ get_or (take at (old ++ replicate (at - length old) 0)) i 0
each_zero old at n i below = get_or-take at (old ++ replicate (at + n - length old) 0) i 0 below ∙ front_at old at n i below ∙ sym (get_or-take at (old ++ replicate (at - length old) 0) i 0 below)

length_front : (old : List ℕ) (at end : ℕ) → at ≤ end → length (take at (old ++ replicate (end - length old) 0)) ≡ at
length_front old at end le = let all = length_zeros old end in length-take at (old ++ replicate (end - length old) 0) ∙ omega (arith, all)

front_zeros : (old : List ℕ) (at n : ℕ) → take at (old ++ replicate (at + n - length old) 0) ≡ take at (old ++ replicate (at - length old) 0)
front_zeros old at n =
    let long : length (take at (old ++ replicate (at + n - length old) 0)) ≡ at = length_front old at (at + n) (omega arith) in
    let short : length (take at (old ++ replicate (at - length old) 0)) ≡ at = length_front old at at (omega arith) in
    ext_get_or 0 (take at (old ++ replicate (at + n - length old) 0)) (take at (old ++ replicate (at - length old) 0)) (omega (arith, long, short))
    (λ i lt. each_zero old at n i (omega (arith, long)))

after_zeros : (old : List ℕ) (at n : ℕ) → drop (at + n) (old ++ replicate (at + n - length old) 0) ≡ drop (at + n) old
after_zeros old at n = grind (arith, common_steps)

pub written_is : (old part : List ℕ) (at : ℕ) → take at (old ++ replicate (at + length part - length old) 0) ++ part ++ drop (at + length part) (old ++ replicate (at + length part - length old) 0) ≡ written old at part
written_is old part at = ap₂ (λ (a : List ℕ) (b : List ℕ). a ++ part ++ b) (front_zeros old at (length part)) (after_zeros old at (length part))

pub put_all : (len : ℕ) (xs ys zs : List ℕ) → xs ≡ zs → len ≡ length xs → take len (xs ++ drop (length xs) ys) ≡ zs
put_all len xs ys zs is all = ap (λ k. take k (xs ++ drop (length xs) ys)) all ∙ take-append-le (length xs) xs (drop (length xs) ys) (omega arith) ∙ take_all (length xs) xs (omega arith) ∙ is
