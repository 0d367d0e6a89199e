-- Places in a round of n places.
use Rattle.std.proofs.Common.{◌≡◌, ℕ, ◌+◌, ◌-◌, ◌*◌, ◌%◌, ◌<◌, ◌≤◌, sym, ap, ◌∙◌, inl, inr, arith}
use Rattle.std.proofs.lemmas.Bool.{cases_lt}
use Rattle.std.proofs.lemmas.Nat.{mod_below}
use Rattle.std.proofs.Math.Nat.{mod-eq_of_lt, add-mul-mod_self_left, mod-add-mod}
use Rattle.gd_bucket.specs.Removing.{distance}

pub place-add : (n a t u : ℕ) → ((a + t) % n + u) % n ≡ (a + (t + u)) % n
place-add n a t u = mod-add-mod (a + t) n u ∙ ap (λ (x : ℕ). x % n) (omega arith)

pub around-once : (n a t : ℕ) → (a + (t + n)) % n ≡ (a + t) % n
around-once n a t = let w : a + (t + n) ≡ a + t + n * 1 = omega arith in ap (λ (x : ℕ). x % n) w ∙ add-mul-mod_self_left (a + t) n 1

pub distance-lt : (n a s : ℕ) → 0 < n → distance n a s < n
unfolding distance
distance-lt n a s h = mod_below _ n h

-- how far the place is that comes t places after another one
pub distance-place : (n a t : ℕ) → a < n → t < n → distance n a ((a + t) % n) ≡ t
unfolding distance
distance-place n a t la lt =
    elim (cases_lt (a + t) n) [
      | inl inside ↦
          let p : (a + t) % n ≡ a + t = mod-eq_of_lt inside in
          let q : (a + t) % n + n - a ≡ t + n * 1 = omega (arith, p) in
          ap (λ (x : ℕ). x % n) q ∙ add-mul-mod_self_left t n 1 ∙ mod-eq_of_lt lt
      | inr over ↦
          let w : a + t ≡ (a + t - n) + n * 1 = omega arith in
          let p : (a + t) % n ≡ a + t - n = ap (λ (x : ℕ). x % n) w ∙ add-mul-mod_self_left (a + t - n) n 1 ∙ mod-eq_of_lt (omega arith) in
          let q : (a + t) % n + n - a ≡ t = omega (arith, p) in
          ap (λ (x : ℕ). x % n) q ∙ mod-eq_of_lt lt
    ]

-- the place that is as far as another one is
pub place-distance : (n a s : ℕ) → a < n → s < n → (a + distance n a s) % n ≡ s
unfolding distance
place-distance n a s la ls =
    elim (cases_lt s a) [
      | inl below ↦
          let e : (s + n - a) % n ≡ s + n - a = mod-eq_of_lt (omega arith) in
          let w : a + (s + n - a) ≡ s + n * 1 = omega arith in
          ap (λ (x : ℕ). (a + x) % n) e ∙ ap (λ (x : ℕ). x % n) w ∙ add-mul-mod_self_left s n 1 ∙ mod-eq_of_lt ls
      | inr above ↦
          let w : s + n - a ≡ (s - a) + n * 1 = omega arith in
          let e : (s + n - a) % n ≡ s - a = ap (λ (x : ℕ). x % n) w ∙ add-mul-mod_self_left (s - a) n 1 ∙ mod-eq_of_lt (omega arith) in
          let z : a + (s - a) ≡ s = omega arith in
          ap (λ (x : ℕ). (a + x) % n) e ∙ ap (λ (x : ℕ). x % n) z ∙ mod-eq_of_lt ls
    ]

pub place-same : (n a t u : ℕ) → a < n → t < n → u < n → (a + t) % n ≡ (a + u) % n → t ≡ u
place-same n a t u la lt lu e = sym (distance-place n a t la lt) ∙ ap (distance n a) e ∙ distance-place n a u la lu

-- from a to b and on to c, where c is as far from a as from b at least
pub distance-add : (n a b c : ℕ) → a < n → b < n → c < n → distance n b c ≤ distance n a c → distance n a b + distance n b c ≡ distance n a c
distance-add n a b c la lb lc far =
    let positive : 0 < n = omega arith in
    let x = distance-lt n a b positive in
    let y = distance-lt n b c positive in
    let z = distance-lt n a c positive in
    let whole : (a + (distance n a b + distance n b c)) % n ≡ (a + distance n a c) % n =
    sym (place-add n a (distance n a b) (distance n b c)) ∙ ap (λ (p : ℕ). (p + distance n b c) % n) (place-distance n a b la lb) ∙ place-distance n b c lb lc
    ∙ sym (place-distance n a c la lc) in
    elim (cases_lt (distance n a b + distance n b c) n) [
      | inl inside ↦ place-same n a (distance n a b + distance n b c) (distance n a c) la inside z whole
      | inr over ↦
          let w : distance n a b + distance n b c - n + n ≡ distance n a b + distance n b c = omega arith in
          let less : distance n a b + distance n b c - n < n = omega (arith, x, y) in
          let round : (a + (distance n a b + distance n b c - n)) % n ≡ (a + distance n a c) % n =
          sym (around-once n a (distance n a b + distance n b c - n)) ∙ ap (λ (p : ℕ). (a + p) % n) w ∙ whole in
          let same = place-same n a (distance n a b + distance n b c - n) (distance n a c) la less z round in
          absurd (omega (arith, same, over, x, y, far))
    ]

-- without a round
pub distance-direct : (n a b : ℕ) → a ≤ b → b < n → distance n a b ≡ b - a
unfolding distance
distance-direct n a b le lt =
    let w : b + n - a ≡ (b - a) + n * 1 = omega arith in
    ap (λ (x : ℕ). x % n) w ∙ add-mul-mod_self_left (b - a) n 1 ∙ mod-eq_of_lt (omega arith)
