-- A slot is reached from its home where as many full slots stand directly before it as lie between.
use Rattle.std.proofs.Common.{◌≡◌, ℕ, ◌+◌, ◌-◌, ◌*◌, ◌%◌, ◌<◌, ◌≤◌, true, false, leb, List, refl, sym, ◌∙◌, inl, inr, arith}
use Rattle.std.proofs.lemmas.Bool.{cases_lt, cases_eq, le-leb, lt-leb}
use Rattle.std.proofs.lemmas.Nat.{mod-mul-add, mod_below}
use Rattle.gd_format.specs.First.{all_below}
use Rattle.gd_format.specs.File.{is_full_at, is_full_after}
use Rattle.gd_format.proofs.Firsts.{all_below_fails, all_below_from}
use Rattle.gd_readable.specs.Checks.{IsFullBefore}

mod_small : (x n : ℕ) → x < n → x % n ≡ x
mod_small x n lt =
    let e : 0 * n + x ≡ x = omega arith in
    rw e at (mod-mul-add 0 n x lt)

mod_once : (x n : ℕ) → x < n → (x + n) % n ≡ x
mod_once x n lt =
    let e : 1 * n + x ≡ x + n = omega arith in
    rw e at (mod-mul-add 1 n x lt)

module _ (block : List ℕ) (elems : ℕ) where
  distance_up : (s home : ℕ) → home ≤ s → s < elems → (s + elems - home) % elems ≡ s - home
  distance_up s home le lt =
      let e : s + elems - home ≡ s - home + elems = omega arith in
      rw e (mod_once (s - home) elems (omega arith))

  distance_round : (s home : ℕ) → s < home → home < elems → (s + elems - home) % elems ≡ s + elems - home
  distance_round s home lt inside = mod_small (s + elems - home) elems (omega arith)

  -- the slot that comes j places after the home stands k + 1 places before s
  same_place : (s home j k : ℕ) → s < elems → home < elems → j + (k + 1) ≡ (s + elems - home) % elems → (home + j) % elems ≡ (s + elems - (k + 1)) % elems
  same_place s home j k in_s in_home e =
      elim (cases_lt s home) [
        | inl round ↦
            let d = distance_round s home round in_home in
            let at : home + j ≡ s + elems - (k + 1) = omega (arith, d, e) in
            rw at refl
        | inr up ↦
            let d = distance_up s home up in_s in
            let at : s + elems - (k + 1) ≡ home + j + elems = omega (arith, d, e) in
            let low : home + j < elems = omega (arith, d, e) in
            mod_small (home + j) elems low ∙ sym (rw at (mod_once (home + j) elems low))
      ]

  pub reach_by_run : (s home b d : ℕ) → s < elems → home < elems → IsFullBefore block elems s b → d ≡ (s + elems - home) % elems → all_below d (is_full_after block elems home) ≡ leb d b
  unfolding is_full_after
  reach_by_run s home b d in_s in_home run e =
      let small : (s + elems - home) % elems < elems = mod_below (s + elems - home) elems (omega arith) in
      elim (cases_lt b d) [
        | inl short ↦
            let place = same_place s home (d - 1 - b) b in_s in_home (omega (arith, e)) in
            all_below_fails (is_full_after block elems home) d (d - 1 - b) (omega arith) (rw place (run.ends (omega (arith, e, small)))) ∙ sym (lt-leb d b short)
        | inr long ↦
            all_below_from (is_full_after block elems home) d
            (λ j lt.
            let place = same_place s home j (d - 1 - j) in_s in_home (omega (arith, e)) in
            rw place (run.full (d - 1 - j) (omega arith)))
            ∙ sym (le-leb d b long)
      ]

  -- ---- the full slots before the next slot

  here : (s k : ℕ) → s < elems → k ≡ 0 → (s + 1 + elems - (k + 1)) % elems ≡ s
  here s k lt e =
      let at : s + 1 + elems - (k + 1) ≡ s + elems = omega (arith, e) in
      rw at (mod_once s elems lt)

  before : (s k : ℕ) → 0 < k → (s + 1 + elems - (k + 1)) % elems ≡ (s + elems - (k - 1 + 1)) % elems
  before s k some =
      let at : s + 1 + elems - (k + 1) ≡ s + elems - (k - 1 + 1) = omega arith in
      rw at refl

  pub run_ends_here : (s : ℕ) → s < elems → is_full_at block s ≡ false → IsFullBefore block elems (s + 1) 0
  run_ends_here s lt empty =
      record {
        full = λ k l. absurd (omega arith);
        ends = λ l. rw (here s 0 lt refl) empty;
        few = omega arith;
      }

  pub run_goes_on : (s b c : ℕ) → s < elems → is_full_at block s ≡ true → IsFullBefore block elems s b → c ≤ b + 1 → (b < elems → c ≡ b + 1) → (b ≡ elems → c ≡ b) → IsFullBefore block elems (s + 1) c
  run_goes_on s b c lt full run high more most =
      let few = run.few in
      record {
        full =
            λ k l.
            elim (cases_eq k 0) [
              | inl first ↦ rw (here s k lt first) full
              | inr other ↦ rw (before s k (omega arith)) (run.full (k - 1) (omega arith))
            ];
        ends =
            λ l.
            elim (cases_lt b elems) [
              | inl some ↦ let next : c ≡ b + 1 = more some in let at = before s c (omega arith) in let back : c - 1 + 1 ≡ b + 1 = omega arith in rw (at, back) (run.ends (omega arith))
              | inr all ↦ let same : c ≡ b = most (omega arith) in absurd (omega arith)
            ];
        few =
            elim (cases_lt b elems) [
              | inl some ↦ let next : c ≡ b + 1 = more some in omega arith
              | inr all ↦ let same : c ≡ b = most (omega arith) in omega arith
            ];
      }

  -- from the last slot on down
  last : (k : ℕ) → k < elems → (0 + elems - (k + 1)) % elems ≡ elems - 1 - k
  last k lt =
      let at : 0 + elems - (k + 1) ≡ elems - 1 - k = omega arith in
      rw at (mod_small (elems - 1 - k) elems (omega arith))

  pub run_at_end : (b : ℕ) → b ≤ elems → ((k : ℕ) → k < b → is_full_at block (elems - 1 - k) ≡ true) → (b < elems → is_full_at block (elems - 1 - b) ≡ false) → IsFullBefore block elems 0 b
  run_at_end b le full ends =
      record {
        full = λ k l. rw (last k (omega arith)) (full k l);
        ends = λ l. rw (last b l) (ends l);
        few = le;
      }
