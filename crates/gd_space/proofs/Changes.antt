-- What follows of a change of free space.
use Rattle.std.proofs.Common.{◌≡◌, ℕ, ◌+◌, ◌-◌, ◌<◌, ◌≤◌, List, [], ◌∷◌, ◌++◌, length, inl, inr, arith}
use Rattle.std.proofs.lemmas.Bool.Decides.{nat_tests}
use Rattle.std.proofs.lemmas.Bool.{cases_lt}
use Rattle.gd_format.specs.declared.Extent.{Extent}
use Rattle.gd_format.specs.Field.{bytes_at}
use Rattle.gd_format.specs.Covers.{cover, size_sum}
use Rattle.gd_format.specs.Sound.{extent}
use Rattle.gd_space.specs.Effect.{Moves, Keeps, grown}
use Rattle.gd_format.proofs.Covers.{cover-append}
use Rattle.gd_space.specs.SpaceLaws.{IsApart, lost_of}

pub cover-grown_low : (next next' b : ℕ) → b < next → cover (grown next next') b ≡ 0
cover-grown_low next next' b h = grind (arith, nat_tests)

pub cover-grown_high : (next next' b : ℕ) → next' ≤ b → next ≤ next' → cover (grown next next') b ≡ 0
cover-grown_high next next' b h k = grind (arith, nat_tests)

pub cover-one : (at n b : ℕ) → cover (extent at n ∷ []) b ≤ 1
cover-one at n b = grind (arith, nat_tests)

module _ (used : ℕ → ℕ) (free free' given taken : List Extent) (next next' lost : ℕ) (m : Moves free free' next next' given taken lost) (a : IsApart used free given next) where
  once_at : (b : ℕ) → used b + cover free' b + cover taken b ≤ 1
  once_at b =
      let bytes = m.bytes b in
      let once = a.once b in
      elim (cases_lt b next) [
        | inl low ↦ let none = cover-grown_low next next' b low in omega (arith, bytes, once, none)
        | inr high ↦
            let one = cover-one next (next' - next) b in
            elim (cases_lt 0 (used b + cover free b + cover given b)) [
              | inl some ↦ let lt = a.below b some in absurd (omega (arith, lt, high))
              | inr none ↦ omega (arith, bytes, none, one)
            ]
      ]

  below_at : (b : ℕ) → 0 < used b + cover free' b + cover taken b → b < next'
  below_at b some =
      let bytes = m.bytes b in
      let grows = m.grows in
      elim (cases_lt b next') [
        | inl low ↦ low
        | inr high ↦
            let none = cover-grown_high next next' b high grows in
            let old : 0 < used b + cover free b + cover given b = omega (arith, bytes, some, none) in
            let lt = a.below b old in
            absurd (omega (arith, lt, high, grows))
      ]

  pub stays_apart : IsApart used free' taken next'
  stays_apart = record { once = once_at; below = below_at }

pub used_is_kept : (used : ℕ → ℕ) (free given : List Extent) (next : ℕ) (file file' : List ℕ) (at n : ℕ) → IsApart used free given next → Keeps (free ++ given) file file' → at + n ≤ length file → ((b : ℕ) → at ≤ b → b < at + n → 0 < used b) → bytes_at file' at n ≡ bytes_at file at n
used_is_kept used free given next file file' at n apart keeps inside all = keeps.bytes at n inside (λ b low high. (let u = all b low high in let once = apart.once b in let a = cover-append free given b in omega (arith, u, once, a)))

pub take_loses : (free free' : List Extent) (next next' used at n : ℕ) → Moves free free' next next' [] (extent at n ∷ []) 32 → used + size_sum free ≤ next → (lost_of next used free + n ≤ lost_of next' used free') × (lost_of next' used free' ≤ lost_of next used free + n + 32)
take_loses free free' next next' used at n m whole = let g = m.grows in let l = m.least in let k = m.most in (omega (arith, g, l, k), omega (arith, g, l, k))

pub give_gains : (free free' : List Extent) (next next' used at n : ℕ) → Moves free free' next next' (extent at n ∷ []) [] 32 → used + size_sum free + n ≤ next → (lost_of next' used free' + n ≤ lost_of next used free + 32) × (lost_of next used free ≤ lost_of next' used free' + n)
give_gains free free' next next' used at n m whole = let g = m.grows in let l = m.least in let k = m.most in (omega (arith, g, l, k), omega (arith, g, l, k))
