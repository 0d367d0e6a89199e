-- The space of a file of which one bucket changes.
use Rattle.std.proofs.Common.{◌≡◌, ◌≢◌, ℕ, zero, suc, ◌+◌, ◌<◌, ◌≤◌, Bool, true, false, ◌&&◌, leb, ltb, List, refl, sym, ◌∙◌, inl, inr, arith}
use Rattle.std.proofs.lemmas.Bool.{cases_eq, cases_lt}
use Rattle.std.proofs.lemmas.Bool.Decides.{nat_tests}
use Rattle.gd_format.specs.declared.Header.{Header}
use Rattle.gd_format.specs.declared.Extent.{Extent}
use Rattle.gd_format.specs.declared.Slot.{Slot}
use Rattle.gd_format.specs.First.{all_below}
use Rattle.gd_format.specs.File.{entry_at, entries_of, block_of, is_first, is_other_entry}
use Rattle.gd_format.specs.Slots.{count}
use Rattle.gd_format.specs.Covers.{cover}
use Rattle.gd_file_laws.proofs.Lists.{bool_cases}
use Rattle.gd_file_laws.proofs.Walk.{same_start}
use Rattle.gd_map_laws.specs.Space.{slot_has, free_of, bucket_cover, sum_of, all_cover, IsSpaceRight, grown, SpaceChange}
use Rattle.gd_map_laws.proofs.Lists.{count-append}
use Rattle.gd_map_laws.proofs.Lookup.{first_of_entry}

-- ---- sums over the numbers that pass

pub sum_le : (p : ℕ → Bool) (f : ℕ → ℕ) (n k : ℕ) → k < n → p k ≡ true → f k ≤ sum_of p f n
sum_le p f zero k lt pk = absurd (omega arith)
sum_le p f (suc n) k lt pk =
    elim (cases_eq k n) [
      | inl same ↦ let pn : p n ≡ true = rw same at pk in rw (same, pn) (omega arith)
      | inr other ↦ let ih = sum_le p f n k (omega arith) pk in omega (arith, ih)
    ]

pub sum_two : (p : ℕ → Bool) (f : ℕ → ℕ) (n j k : ℕ) → j < k → k < n → p j ≡ true → p k ≡ true → f j + f k ≤ sum_of p f n
sum_two p f zero j k jk lt pj pk = absurd (omega arith)
sum_two p f (suc n) j k jk lt pj pk =
    elim (cases_eq k n) [
      | inl same ↦ let pn : p n ≡ true = rw same at pk in let one = sum_le p f n j (omega arith) pj in rw (same, pn) (omega (arith, one))
      | inr other ↦ let ih = sum_two p f n j k jk (omega arith) pj pk in omega (arith, ih)
    ]

pub sum_same : (p q : ℕ → Bool) (f g : ℕ → ℕ) (n : ℕ) → ((j : ℕ) → j < n → p j ≡ q j) → ((j : ℕ) → j < n → p j ≡ true → f j ≡ g j) → sum_of p f n ≡ sum_of q g n
sum_same p q f g zero pq fg = refl
sum_same p q f g (suc n) pq fg =
    let ih = sum_same p q f g n (λ j lt. pq j (omega arith)) (λ j lt pj. fg j (omega arith) pj) in
    let e = pq n (omega arith) in
    bool_cases (p n)
    (λ t. let qn : q n ≡ true = sym e ∙ t in let same = fg n (omega arith) t in rw (t, qn) (omega (arith, ih, same)))
    (λ f'. let qn : q n ≡ false = sym e ∙ f' in rw (f', qn) (omega (arith, ih)))

-- one alone differs
pub sum_change : (p : ℕ → Bool) (f g : ℕ → ℕ) (n k : ℕ) → k < n → p k ≡ true → ((j : ℕ) → j < n → p j ≡ true → j ≢ k → f j ≡ g j) → sum_of p f n + g k ≡ sum_of p g n + f k
sum_change p f g zero k lt pk others = absurd (omega arith)
sum_change p f g (suc n) k lt pk others =
    elim (cases_eq k n) [
      | inl same ↦
          let pn : p n ≡ true = rw same at pk in
          let rest = sum_same p p f g n (λ j l. refl) (λ j l pj. others j (omega arith) pj (λ e. omega (arith, e))) in
          rw (same, pn) (omega (arith, rest))
      | inr other ↦
          let ih = sum_change p f g n k (omega arith) pk (λ j l pj ne. others j (omega arith) pj ne) in
          bool_cases (p n)
          (λ t. let same = others n (omega arith) t (λ e. omega (arith, e)) in rw t (omega (arith, ih, same)))
          (λ f'. rw f' (omega (arith, ih)))
    ]

all_same_below : (n : ℕ) (p q : ℕ → Bool) → ((d : ℕ) → d < n → p d ≡ q d) → all_below n p ≡ all_below n q
all_same_below zero p q h = refl
all_same_below (suc n) p q h = rw (all_same_below n p q (λ d lt. h d (omega arith)), h n (omega arith)) refl

pub first_same : (old new : List ℕ) (h : Header) → ((j : ℕ) → j < entries_of h → entry_at new h j ≡ entry_at old h j) → (j : ℕ) → j < entries_of h → is_first new h j ≡ is_first old h j
unfolding is_first is_other_entry
first_same old new h entries j lt =
    all_same_below j (is_other_entry new h j) (is_other_entry old h j) (λ d l. rw (entries d (omega arith), entries j lt) refl)

-- a byte that is past the end is in what has grown once at most
pub grown-le : (next next' b : ℕ) → grown next next' b ≤ 1
grown-le next next' b = bool_cases (leb next b && ltb b next') (λ t. rw t (omega arith)) (λ f. rw f (omega arith))

pub grown-some : (next next' b : ℕ) → 0 < grown next next' b → (next ≤ b) × (b < next')
grown-some next next' b some =
    bool_cases (leb next b && ltb b next')
    (λ t. (grind (arith, nat_tests), grind (arith, nat_tests)))
    (λ f. let bad : 0 < 0 = rw f at some in absurd (omega arith))

module _ (old new : List ℕ) (h : Header) (i : ℕ) (gone come rest : List Slot) (next next' : ℕ) (pool pool' : List Extent) (li : i < entries_of h) (right : IsSpaceRight old h next pool) (change : SpaceChange old new h i gone come rest next next' pool pool') (b : ℕ) where
  bucket_other : (j : ℕ) → j < entries_of h → entry_at old h j ≢ entry_at old h i → bucket_cover new h b j ≡ bucket_cover old h b j
  unfolding bucket_cover free_of
  bucket_other j lj ne = rw (change.entries j lj, change.others j lj ne) refl

  bucket_at_first : (file : List ℕ) (k j : ℕ) → entry_at file h k ≡ entry_at file h j → bucket_cover file h b k ≡ bucket_cover file h b j
  unfolding bucket_cover free_of block_of
  bucket_at_first file k j e = rw e refl

  bucket_here : bucket_cover new h b i + cover (free_of old h i) b + count (slot_has b) gone ≡ bucket_cover old h b i + cover (free_of new h i) b + count (slot_has b) come
  unfolding bucket_cover
  bucket_here =
      let before = change.before_is (slot_has b) refl in
      let after = change.after_is (slot_has b) refl in
      let x = count-append (slot_has b) gone rest in
      let y = count-append (slot_has b) come rest in
      let e = change.entries i li in
      rw e (omega (arith, before, after, x, y))

  -- the whole
  pub whole : all_cover new h pool' b + cover (free_of old h i) b + count (slot_has b) gone + cover pool b ≡ all_cover old h pool b + cover (free_of new h i) b + count (slot_has b) come + cover pool' b
  unfolding all_cover
  whole =
      let first = first_of_entry old h (entries_of h) i li in
      let k = first.0 in
      let lk : first.0 < entries_of h = let le = first.1 in omega arith in
      let is = sum_same (is_first new h) (is_first old h) (bucket_cover new h b) (bucket_cover new h b) (entries_of h) (first_same old new h change.entries) (λ j l p. refl) in
      let one = sum_change (is_first old h) (bucket_cover new h b) (bucket_cover old h b) (entries_of h) first.0 lk first.2
      (λ j lj pj ne. bucket_other j lj (λ e. ne (same_start old h first.0 j first.2 pj (e ∙ sym first.3)))) in
      let a = bucket_at_first old first.0 i first.3 in
      let c = bucket_at_first new first.0 i (change.entries first.0 lk ∙ first.3 ∙ sym (change.entries i li)) in
      let here = bucket_here in
      omega (arith, is, one, a, c, here)

  bounded : all_cover new h pool' b ≤ all_cover old h pool b + grown next next' b
  bounded = let w = whole in let m = change.moves b in omega (arith, w, m)

  pub once_here : all_cover new h pool' b ≤ 1
  once_here =
      let bound = bounded in
      let o = right.once b in
      let g = grown-le next next' b in
      elim (cases_lt 0 (grown next next' b)) [
        | inl some ↦
            let past = grown-some next next' b some in
            elim (cases_lt 0 (all_cover old h pool b)) [
              | inl there ↦ let lt = right.below b there in absurd (omega (arith, past, lt))
              | inr none ↦ omega (arith, bound, g, none)
            ]
        | inr none ↦ omega (arith, bound, o, none)
      ]

  pub below_here : 0 < all_cover new h pool' b → b < next'
  below_here some =
      let bound = bounded in
      let grows = change.grows in
      elim (cases_lt 0 (all_cover old h pool b)) [
        | inl there ↦ let lt = right.below b there in omega (arith, lt, grows)
        | inr none ↦ let past = grown-some next next' b (omega (arith, bound, some, none)) in past.1
      ]

pub space_changed : (old new : List ℕ) (h : Header) (i : ℕ) (gone come rest : List Slot) (next next' : ℕ) (pool pool' : List Extent) → i < entries_of h → IsSpaceRight old h next pool → SpaceChange old new h i gone come rest next next' pool pool' → IsSpaceRight new h next' pool'
space_changed old new h i gone come rest next next' pool pool' li right change =
    record {
      once = once_here old new h i gone come rest next next' pool pool' li right change;
      below = below_here old new h i gone come rest next next' pool pool' li right change;
    }
