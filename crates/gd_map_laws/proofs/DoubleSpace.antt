-- The space of a file of which the directory is doubled.
use Rattle.std.proofs.Common.{◌≡◌, ℕ, zero, suc, ◌+◌, ◌*◌, ◌/◌, ◌<◌, ◌≤◌, Bool, true, false, List, refl, sym, ap, ◌∙◌, inl, inr, arith}
use Rattle.std.specs.Prelude.{ℤ}
use Rattle.std.proofs.lemmas.Bool.{cases_lt}
use Rattle.gd_format.specs.declared.Header.{Header}
use Rattle.gd_format.specs.declared.Extent.{Extent}
use Rattle.gd_format.specs.HeaderFault.{natural}
use Rattle.gd_format.specs.Bucket.{counts_at, slots_at, free_at}
use Rattle.gd_format.specs.File.{entry_at, entries_of, block_of, is_first}
use Rattle.gd_format.specs.Slots.{count}
use Rattle.gd_format.specs.Sound.{extent}
use Rattle.gd_format.specs.Covers.{has_byte, cover}
use Rattle.gd_file_laws.specs.Parts.{HasParts}
use Rattle.gd_file_laws.proofs.Lists.{bool_cases}
use Rattle.gd_file_laws.proofs.Walk.{first_tells}
use Rattle.gd_map_laws.specs.Space.{one_if, slot_has, free_of, bucket_cover, sum_of, all_cover, grown, IsSpaceRight}
use Rattle.gd_map_laws.specs.Split.{DoubleChange}
use Rattle.gd_map_laws.specs.SplitSpace.{DoubleMoves}
use Rattle.gd_map_laws.proofs.Space.{grown-le, grown-some}
use Rattle.gd_map_laws.proofs.Double.{twice, block_is}
use Rattle.gd_map_laws.proofs.SplitSpace.{same_truth, not_true, first_from}

-- a sum in which the even numbers alone pass
sum_twice : (p q : ℕ → Bool) (f g : ℕ → ℕ) (n : ℕ) → ((k : ℕ) → k < n → q (k * 2) ≡ p k) → ((k : ℕ) → k < n → q (suc (k * 2)) ≡ false) → ((k : ℕ) → k < n → g (k * 2) ≡ f k) → sum_of q g (n * 2) ≡ sum_of p f n
sum_twice p q f g zero even odd same = refl
sum_twice p q f g (suc n) even odd same =
    let ih = sum_twice p q f g n (λ k lt. even k (omega arith)) (λ k lt. odd k (omega arith)) (λ k lt. same k (omega arith)) in
    let size : suc n * 2 ≡ suc (suc (n * 2)) = omega arith in
    let e = even n (omega arith) in
    let o = odd n (omega arith) in
    let s = same n (omega arith) in
    ap (sum_of q g) size
    ∙ bool_cases (p n)
    (λ t. let u : q (n * 2) ≡ true = e ∙ t in rw (o, u, t) (omega (arith, ih, s)))
    (λ f'. let u : q (n * 2) ≡ false = e ∙ f' in rw (o, u, f') (omega (arith, ih)))

module _ (old new : List ℕ) (h h' : Header) (bits_le : h'.dir_bits ≤ 24) (parts : HasParts old h) (change : DoubleChange old new h h') where
  twice_in : (k : ℕ) → k < entries_of h → (k * 2 < entries_of h') × (suc (k * 2) < entries_of h')
  twice_in k lt = let t = twice old new h h' bits_le parts change in (omega (arith, t), omega (arith, t))

  entry_even : (k : ℕ) → k < entries_of h → entry_at new h' (k * 2) ≡ entry_at old h k
  entry_even k lt = let r = twice_in k lt in let e : k * 2 / 2 ≡ k = omega arith in change.entries (k * 2) r.0 ∙ ap (entry_at old h) e

  entry_odd : (k : ℕ) → k < entries_of h → entry_at new h' (suc (k * 2)) ≡ entry_at old h k
  entry_odd k lt = let r = twice_in k lt in let e : suc (k * 2) / 2 ≡ k = omega arith in change.entries (suc (k * 2)) r.1 ∙ ap (entry_at old h) e

  even_first : (k : ℕ) → k < entries_of h → is_first new h' (k * 2) ≡ is_first old h k
  even_first k lt =
      same_truth (is_first new h' (k * 2)) (is_first old h k)
      (λ first. first_from old h k (λ m l e. first_tells new h' (k * 2) (m * 2) first (omega arith) (entry_even m (omega arith) ∙ e ∙ sym (entry_even k lt))))
      (λ first.
      first_from new h' (k * 2)
      (λ j l e.
      let r = twice_in k lt in
      first_tells old h k (j / 2) first (omega arith) (sym (change.entries j (omega (arith, r, l))) ∙ e ∙ entry_even k lt)))

  odd_not_first : (k : ℕ) → k < entries_of h → is_first new h' (suc (k * 2)) ≡ false
  odd_not_first k lt = not_true (is_first new h' (suc (k * 2))) (λ first. first_tells new h' (suc (k * 2)) (k * 2) first (omega arith) (entry_even k lt ∙ sym (entry_odd k lt)))

  module _ (b : ℕ) where
    bucket_even : (k : ℕ) → k < entries_of h → bucket_cover new h' b (k * 2) ≡ bucket_cover old h b k
    unfolding bucket_cover free_of
    bucket_even k lt =
        let r = twice_in k lt in
        let e : k * 2 / 2 ≡ k = omega arith in
        let block : block_of new h' (k * 2) ≡ block_of old h k = block_is old new h h' bits_le parts change (k * 2) r.0 ∙ ap (block_of old h) e in
        let one = ap (λ (z : ℤ). one_if (has_byte (extent (natural z) h'.block) b)) (entry_even k lt) ∙ ap (λ (n : ℕ). one_if (has_byte (extent (natural (entry_at old h k)) n) b)) change.block in
        let slots = ap (λ (x : List ℕ). count (slot_has b) (slots_at x h'.elems)) block ∙ ap (λ (n : ℕ). count (slot_has b) (slots_at (block_of old h k) n)) change.elems in
        let free = ap (λ (x : List ℕ). cover (free_at x (natural (counts_at x).free)) b) block in
        omega (arith, one, slots, free)

    pub whole : (pool pool' : List Extent) → all_cover new h' pool' b + one_if (has_byte (extent h.dir (8 * entries_of h)) b) + cover pool b ≡ all_cover old h pool b + one_if (has_byte (extent h'.dir (8 * entries_of h')) b) + cover pool' b
    unfolding all_cover
    whole pool pool' =
        let s = sum_twice (is_first old h) (is_first new h') (bucket_cover old h b) (bucket_cover new h' b) (entries_of h) even_first odd_not_first bucket_even in
        let t = ap (sum_of (is_first new h') (bucket_cover new h' b)) (twice old new h h' bits_le parts change) in
        let front = ap (λ (n : ℕ). one_if (has_byte (extent 0 n) b)) change.block in
        omega (arith, s, t, front)

    module _ (next next' : ℕ) (pool pool' : List Extent) (right : IsSpaceRight old h next pool) (moves : DoubleMoves h h' next next' pool pool') where
      bounded : all_cover new h' pool' b ≤ all_cover old h pool b + grown next next' b
      bounded = let w = whole pool pool' in let m = moves.moves b in omega (arith, w, m)

      once_here : all_cover new h' pool' b ≤ 1
      once_here =
          let bound = bounded in
          let o = right.once b in
          let g = grown-le next next' b in
          elim (cases_lt 0 (grown next next' b)) [
            | inl some ↦
                let past = grown-some next next' b some in
                elim (cases_lt 0 (all_cover old h pool b)) [
                  | inl there ↦ let lt = right.below b there in absurd (omega (arith, past, lt))
                  | inr none ↦ omega (arith, bound, g, none)
                ]
            | inr none ↦ omega (arith, bound, o, none)
          ]

      below_here : 0 < all_cover new h' pool' b → b < next'
      below_here some =
          let bound = bounded in
          let grows = moves.grows in
          elim (cases_lt 0 (all_cover old h pool b)) [
            | inl there ↦ let lt = right.below b there in omega (arith, lt, grows)
            | inr none ↦ let past = grown-some next next' b (omega (arith, bound, some, none)) in past.1
          ]

pub double_space_right : (old new : List ℕ) (h h' : Header) (next next' : ℕ) (pool pool' : List Extent) → h'.dir_bits ≤ 24 → HasParts old h → DoubleChange old new h h' → IsSpaceRight old h next pool → DoubleMoves h h' next next' pool pool' → IsSpaceRight new h' next' pool'
double_space_right old new h h' next next' pool pool' bits_le parts change right moves =
    record {
      once = λ b. once_here old new h h' bits_le parts change b next next' pool pool' right moves;
      below = λ b some. below_here old new h h' bits_le parts change b next next' pool pool' right moves some;
    }
