-- The space of a file of which one bucket is split.
use Rattle.std.proofs.Common.{◌≡◌, ◌≢◌, ℕ, zero, suc, ◌+◌, ◌-◌, ◌*◌, ◌/◌, ◌%◌, ◌^◌, ◌<◌, ◌≤◌, Bool, true, false, not, List, refl, sym, ap, ◌∙◌, inl, inr, arith}
use Rattle.std.specs.Ordering.{int_eq}
use Rattle.std.proofs.lemmas.Bool.{cases_eq, cases_lt}
use Rattle.std.proofs.lemmas.Bool.Decides.{Decides-int_eq}
use Rattle.std.proofs.lemmas.Nat.{pow-add, pow_pos, row_fits, div_below, div-mul-add, div-add-mod'}
use Rattle.gd_format.specs.declared.Header.{Header}
use Rattle.gd_format.specs.declared.Extent.{Extent}
use Rattle.gd_format.specs.Field.{bytes_at}
use Rattle.gd_format.specs.HeaderFault.{natural}
use Rattle.gd_format.specs.Bucket.{slots_at}
use Rattle.gd_format.specs.File.{entry_at, entries_of, block_of, is_first, is_other_entry}
use Rattle.gd_format.proofs.Firsts.{all_below_from}
use Rattle.gd_format.specs.Slots.{count}
use Rattle.gd_format.specs.Sound.{extent}
use Rattle.gd_format.specs.Covers.{has_byte, cover}
use Rattle.gd_file_laws.specs.Parts.{HasParts}
use Rattle.gd_file_laws.proofs.Lists.{bool_cases}
use Rattle.gd_file_laws.proofs.Walk.{same_start, first_tells}
use Rattle.gd_map_laws.specs.Space.{one_if, slot_has, block_has, free_of, bucket_cover, sum_of, all_cover, grown, IsSpaceRight, free_in}
use Rattle.gd_map_laws.specs.Split.{SplitChange}
use Rattle.gd_map_laws.specs.SplitSpace.{SplitMoves}
use Rattle.gd_map_laws.proofs.Lookup.{first_of_entry}
use Rattle.gd_map_laws.proofs.Space.{sum_same, sum_change, grown-le, grown-some}
use Rattle.gd_map_laws.proofs.Split.{classify, low_old, high_old, other_new, low_new, other_block, low_block, high_block, in_run, both_counts}

pub same_truth : (a b : Bool) → (a ≡ true → b ≡ true) → (b ≡ true → a ≡ true) → a ≡ b
same_truth true b f g = sym (f refl)
same_truth false true f g = g refl
same_truth false false f g = refl

pub not_true : (b : Bool) → (b ≡ true → ⊥) → b ≡ false
not_true true f = absurd (f refl)
not_true false f = refl

pub first_from : (file : List ℕ) (h : Header) (j : ℕ) → ((k : ℕ) → k < j → entry_at file h k ≢ entry_at file h j) → is_first file h j ≡ true
unfolding is_first is_other_entry
first_from file h j none =
    all_below_from (is_other_entry file h j) j
    (λ k lt. not_of (int_eq (entry_at file h k) (entry_at file h j)) (λ t. none k lt ((Decides-int_eq (entry_at file h k) (entry_at file h j)).0 t)))
  where
    not_of : (b : Bool) → (b ≡ true → ⊥) → not b ≡ true
    not_of true f = absurd (f refl)
    not_of false f = refl

-- one more number passes
sum_more : (p q : ℕ → Bool) (f : ℕ → ℕ) (n m : ℕ) → m < n → p m ≡ false → q m ≡ true → ((j : ℕ) → j < n → j ≢ m → q j ≡ p j) → sum_of q f n ≡ sum_of p f n + f m
sum_more p q f zero m lt pm qm same = absurd (omega arith)
sum_more p q f (suc n) m lt pm qm same =
    elim (cases_eq m n) [
      | inl e ↦
          let pn : p n ≡ false = rw e at pm in
          let qn : q n ≡ true = rw e at qm in
          let rest = sum_same q p f f n (λ j l. same j (omega arith) (λ x. omega (arith, x, e))) (λ j l y. refl) in
          rw (pn, qn, e) (omega (arith, rest))
      | inr other ↦
          let ih = sum_more p q f n m (omega arith) pm qm (λ j l ne. same j (omega arith) ne) in
          let s = same n (omega arith) (λ x. omega (arith, x, other)) in
          bool_cases (p n) (λ t. rw (s, t) (omega (arith, ih))) (λ u. rw (s, u) (omega (arith, ih)))
    ]

-- quotients at the ends of a range
quotient_low : (x d c : ℕ) → x / d ≡ c → c * d ≤ x
quotient_low x d c e = let w : x / d * d + x % d ≡ x = div-add-mod' x d in let f : x / d * d ≡ c * d = ap (λ (y : ℕ). y * d) e in omega (arith, w, f)

quotient_high : (x d c : ℕ) → 0 < d → x / d ≡ c → x < c * d + d
quotient_high x d c positive e = let w : x / d * d + x % d ≡ x = div-add-mod' x d in let f : x / d * d ≡ c * d = ap (λ (y : ℕ). y * d) e in let r : x % d < d = omega arith in omega (arith, w, f, r)

module _ (old new : List ℕ) (h : Header) (i at bits half q : ℕ) (bits_le : h.dir_bits ≤ 24) (parts : HasParts old h) (li : i < entries_of h) (change : SplitChange old new h i at bits half q) where
  half_pos : 0 < half
  half_pos = let e = change.half_is in let p = pow_pos (h.dir_bits - (bits + 1)) in omega (arith, e, p)

  -- the first entry of the second half
  middle_in : (2 * q + 1) * half < entries_of h
  middle_in =
      let l = change.less in
      let whole : bits + 1 + (h.dir_bits - (bits + 1)) ≡ h.dir_bits = omega arith in
      let all : 2 ^ (bits + 1) * 2 ^ (h.dir_bits - (bits + 1)) ≡ entries_of h = sym (pow-add 2 (bits + 1) (h.dir_bits - (bits + 1))) ∙ ap (λ (x : ℕ). 2 ^ x) whole in
      let times : 2 ^ (bits + 1) * half ≡ entries_of h = ap (λ (x : ℕ). 2 ^ (bits + 1) * x) change.half_is ∙ all in
      let even : 2 ^ (bits + 1) ≡ 2 ^ bits * 2 = pow-add 2 bits 1 in
      let below : i / half < 2 ^ (bits + 1) = div_below i half (2 ^ (bits + 1)) half_pos (omega (arith, times)) in
      let top = in_run old new h i at bits half q bits_le parts li change i li refl in
      let fits : 2 * q + 1 < 2 ^ (bits + 1) = omega (arith, below, top, even) in
      let room = row_fits (2 * q + 1) half (2 ^ (bits + 1)) half fits (omega arith) in
      let positive = half_pos in
      omega (arith, room, times, positive)

  middle_top : (2 * q + 1) * half / half ≡ 2 * q + 1
  middle_top = let z : (2 * q + 1) * half + 0 ≡ (2 * q + 1) * half = omega arith in ap (λ (x : ℕ). x / half) (sym z) ∙ div-mul-add (2 * q + 1) half 0 half_pos

  start_top : 2 * q * half / half ≡ 2 * q
  start_top = let z : 2 * q * half + 0 ≡ 2 * q * half = omega arith in ap (λ (x : ℕ). x / half) (sym z) ∙ div-mul-add (2 * q) half 0 half_pos

  more_half : (2 * q + 1) * half ≡ 2 * q * half + half
  more_half = omega arith

  -- ---- which entries come first

  other_first : (j : ℕ) → j < entries_of h → entry_at old h j ≢ entry_at old h i → is_first new h j ≡ is_first old h j
  other_first j lj ne =
      let ej = other_new old new h i at bits half q bits_le parts li change j lj ne in
      same_truth (is_first new h j) (is_first old h j)
      (λ first.
      first_from old h j
      (λ k lt e.
      let ok : entry_at old h k ≢ entry_at old h i = λ x. ne (sym e ∙ x) in
      first_tells new h j k first lt (other_new old new h i at bits half q bits_le parts li change k (omega arith) ok ∙ e ∙ sym ej)))
      (λ first.
      first_from new h j
      (λ k lt e.
      classify old new h i at bits half q bits_le parts li change k (omega arith)
      (λ ok. first_tells old h j k first lt (sym (other_new old new h i at bits half q bits_le parts li change k (omega arith) ok) ∙ e ∙ ej))
      (λ kl. ne (sym ej ∙ sym e ∙ low_new old new h i at bits half q bits_le parts li change k (omega arith) kl))
      (λ kh. change.fresh j lj (sym ej ∙ sym e ∙ change.high k (omega arith) kh))))

  low_first : (j : ℕ) → j < entries_of h → j / half ≡ 2 * q → is_first new h j ≡ is_first old h j
  low_first j lj low =
      let ej = low_new old new h i at bits half q bits_le parts li change j lj low in
      let oj = low_old old new h i at bits half q bits_le parts li change j lj low in
      same_truth (is_first new h j) (is_first old h j)
      (λ first.
      first_from old h j
      (λ k lt e.
      let lk : k < entries_of h = omega arith in
      classify old new h i at bits half q bits_le parts li change k lk
      (λ ok. ok (e ∙ oj))
      (λ kl. first_tells new h j k first lt (low_new old new h i at bits half q bits_le parts li change k lk kl ∙ sym ej))
      (λ kh.
      let a = quotient_low k half (2 * q + 1) kh in
      let b = quotient_high j half (2 * q) half_pos low in
      let m = more_half in
      absurd (omega (arith, a, b, m, lt)))))
      (λ first.
      first_from new h j
      (λ k lt e.
      let lk : k < entries_of h = omega arith in
      classify old new h i at bits half q bits_le parts li change k lk
      (λ ok. ok (sym (other_new old new h i at bits half q bits_le parts li change k lk ok) ∙ e ∙ ej))
      (λ kl. first_tells old h j k first lt (low_old old new h i at bits half q bits_le parts li change k lk kl ∙ sym oj))
      (λ kh. change.fresh i li (sym ej ∙ sym e ∙ change.high k lk kh))))

  high_not_first : (j : ℕ) → j < entries_of h → j / half ≡ 2 * q + 1 → is_first old h j ≡ false
  high_not_first j lj high =
      not_true (is_first old h j)
      (λ first.
      let a = quotient_low j half (2 * q + 1) high in
      let m = more_half in
      let p = half_pos in
      let below : 2 * q * half < j = omega (arith, a, m, p) in
      let lk : 2 * q * half < entries_of h = omega arith in
      let start = low_old old new h i at bits half q bits_le parts li change (2 * q * half) lk start_top in
      first_tells old h j (2 * q * half) first below (start ∙ sym (high_old old new h i at bits half q bits_le parts li change j lj high)))

  middle_first : is_first new h ((2 * q + 1) * half) ≡ true
  middle_first =
      first_from new h ((2 * q + 1) * half)
      (λ k lt e.
      let inside = middle_in in
      let lk : k < entries_of h = omega (arith, lt, inside) in
      let em = change.high ((2 * q + 1) * half) middle_in middle_top in
      classify old new h i at bits half q bits_le parts li change k lk
      (λ ok. change.fresh k lk (sym (other_new old new h i at bits half q bits_le parts li change k lk ok) ∙ e ∙ em))
      (λ kl. change.fresh i li (sym (low_new old new h i at bits half q bits_le parts li change k lk kl) ∙ e ∙ em))
      (λ kh. let a = quotient_low k half (2 * q + 1) kh in absurd (omega (arith, a, lt))))

  rest_not_first : (j : ℕ) → j < entries_of h → j / half ≡ 2 * q + 1 → j ≢ (2 * q + 1) * half → is_first new h j ≡ false
  rest_not_first j lj high ne =
      not_true (is_first new h j)
      (λ first.
      let a = quotient_low j half (2 * q + 1) high in
      let below : (2 * q + 1) * half < j = omega (arith, a, ne) in
      first_tells new h j ((2 * q + 1) * half) first below (change.high ((2 * q + 1) * half) middle_in middle_top ∙ sym (change.high j lj high)))

  firsts_same : (j : ℕ) → j < entries_of h → j ≢ (2 * q + 1) * half → is_first new h j ≡ is_first old h j
  firsts_same j lj ne =
      classify old new h i at bits half q bits_le parts li change j lj
      (λ o. other_first j lj o)
      (λ l. low_first j lj l)
      (λ g. rest_not_first j lj g ne ∙ sym (high_not_first j lj g))

  -- ---- the sums

  module _ (b : ℕ) where
    bucket_other : (j : ℕ) → j < entries_of h → entry_at old h j ≢ entry_at old h i → bucket_cover new h b j ≡ bucket_cover old h b j
    unfolding bucket_cover free_of
    bucket_other j lj ne = rw (other_new old new h i at bits half q bits_le parts li change j lj ne, other_block old new h i at bits half q bits_le parts li change j lj ne) refl

    bucket_low : (j : ℕ) → j < entries_of h → j / half ≡ 2 * q → bucket_cover new h b j ≡ one_if (block_has old h i b) + count (slot_has b) (slots_at (bytes_at new (natural (entry_at old h i)) h.block) h.elems) + cover (free_in (bytes_at new (natural (entry_at old h i)) h.block)) b
    unfolding bucket_cover free_of
    bucket_low j lj l = rw (low_new old new h i at bits half q bits_le parts li change j lj l, low_block old new h i at bits half q bits_le parts li change j lj l) refl

    bucket_high : (j : ℕ) → j < entries_of h → j / half ≡ 2 * q + 1 → bucket_cover new h b j ≡ one_if (has_byte (extent at h.block) b) + count (slot_has b) (slots_at (bytes_at new at h.block) h.elems) + cover (free_in (bytes_at new at h.block)) b
    unfolding bucket_cover free_of
    bucket_high j lj g = rw (change.high j lj g, high_block old new h i at bits half q bits_le parts li change j lj g) refl

    bucket_old : (k : ℕ) → entry_at old h k ≡ entry_at old h i → bucket_cover old h b k ≡ one_if (block_has old h i b) + count (slot_has b) (slots_at (block_of old h i) h.elems) + cover (free_of old h i) b
    unfolding bucket_cover free_of block_of
    bucket_old k e = rw e refl

    -- the first entry of the run stands in the first half
    pub whole : (pool pool' : List Extent) → all_cover new h pool' b + cover (free_of old h i) b + cover pool b ≡ all_cover old h pool b + one_if (has_byte (extent at h.block) b) + cover (free_in (bytes_at new (natural (entry_at old h i)) h.block)) b + cover (free_in (bytes_at new at h.block)) b + cover pool' b
    unfolding all_cover
    whole pool pool' =
        let first = first_of_entry old h (entries_of h) i li in
        let lk : first.0 < entries_of h = let le = first.1 in omega arith in
        let more = sum_more (is_first old h) (is_first new h) (bucket_cover new h b) (entries_of h) ((2 * q + 1) * half) middle_in (high_not_first ((2 * q + 1) * half) middle_in middle_top) middle_first firsts_same in
        let one = sum_change (is_first old h) (bucket_cover new h b) (bucket_cover old h b) (entries_of h) first.0 lk first.2
        (λ j lj pj ne. bucket_other j lj (λ e. ne (same_start old h first.0 j first.2 pj (e ∙ sym first.3)))) in
        let low : bucket_cover new h b first.0 ≡ one_if (block_has old h i b) + count (slot_has b) (slots_at (bytes_at new (natural (entry_at old h i)) h.block) h.elems) + cover (free_in (bytes_at new (natural (entry_at old h i)) h.block)) b =
        classify old new h i at bits half q bits_le parts li change first.0 lk
        (λ o. absurd (o first.3))
        (λ l. bucket_low first.0 lk l)
        (λ g. let no_first = high_not_first first.0 lk g in let is = first.2 in absurd (cc (no_first, is))) in
        let high = bucket_high ((2 * q + 1) * half) middle_in middle_top in
        let before = bucket_old first.0 first.3 in
        let slots = both_counts old new h i at bits half q bits_le parts li change (slot_has b) refl in
        omega (arith, more, one, low, high, before, slots)

    module _ (next next' : ℕ) (pool pool' : List Extent) (right : IsSpaceRight old h next pool) (moves : SplitMoves old new h i at next next' pool pool') where
      bounded : all_cover new h pool' b ≤ all_cover old h pool b + grown next next' b
      bounded = let w = whole pool pool' in let m = moves.moves b in omega (arith, w, m)

      once_here : all_cover new h pool' b ≤ 1
      once_here =
          let bound = bounded in
          let o = right.once b in
          let g = grown-le next next' b in
          elim (cases_lt 0 (grown next next' b)) [
            | inl some ↦
                let past = grown-some next next' b some in
                elim (cases_lt 0 (all_cover old h pool b)) [
                  | inl there ↦ let lt = right.below b there in absurd (omega (arith, past, lt))
                  | inr none ↦ omega (arith, bound, g, none)
                ]
            | inr none ↦ omega (arith, bound, o, none)
          ]

      below_here : 0 < all_cover new h pool' b → b < next'
      below_here some =
          let bound = bounded in
          let grows = moves.grows in
          elim (cases_lt 0 (all_cover old h pool b)) [
            | inl there ↦ let lt = right.below b there in omega (arith, lt, grows)
            | inr none ↦ let past = grown-some next next' b (omega (arith, bound, some, none)) in past.1
          ]

pub split_space_right : (old new : List ℕ) (h : Header) (i at bits half q next next' : ℕ) (pool pool' : List Extent) → h.dir_bits ≤ 24 → HasParts old h → i < entries_of h → SplitChange old new h i at bits half q → IsSpaceRight old h next pool → SplitMoves old new h i at next next' pool pool' → IsSpaceRight new h next' pool'
split_space_right old new h i at bits half q next next' pool pool' bits_le parts li change right moves =
    record {
      once = λ b. once_here old new h i at bits half q bits_le parts li change b next next' pool pool' right moves;
      below = λ b some. below_here old new h i at bits half q bits_le parts li change b next next' pool pool' right moves some;
    }
