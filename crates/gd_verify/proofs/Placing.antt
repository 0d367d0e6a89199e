-- The addresses of the buckets, entry by entry.
use Rattle.std.proofs.Common.{◌≡◌, ℕ, zero, suc, ◌+◌, ◌-◌, ◌*◌, ◌<◌, ◌≤◌, Bool, true, false, cond, List, [], ◌∷◌, ◌++◌, map, take, drop, None, refl, sym, ap, ◌∙◌, inl, inr, arith}
use Rattle.std.specs.Prelude.{ℤ, pos, negsuc}
use Rattle.std.specs.Int.{w64, cast_signed}
use Rattle.std.specs.List.{All, range_with_len, filter}
use Rattle.std.specs.Ordering.{int_eq}
use Rattle.std.proofs.lemmas.Bool.{cases_eq}
use Rattle.std.proofs.lemmas.Bool.Decides.{Decides-int_eq}
use Rattle.std.proofs.lemmas.List.{map-append, append-nil, drop-drop}
use Rattle.std.proofs.lemmas.List.Elements.{All-push, All-nil}
use Rattle.gd_format.specs.declared.Header.{Header}
use Rattle.gd_format.specs.Field.{bytes_at, number_of, u64_at, i64_at}
use Rattle.gd_format.specs.HeaderFault.{natural}
use Rattle.gd_format.specs.Bucket.{is_from_zero}
use Rattle.gd_format.specs.File.{are_counts_right, block_of, dir_fault, entries_of, entry_at, entry_fault, is_first, places_of, first_indexes}
use Rattle.gd_format.proofs.Firsts.{and-true, or_else-none, unless-none}
use Rattle.gd_verify.proofs.Lists.{bool_cases, passing_more, piece}
use Rattle.gd_file_laws.proofs.Walk.{walk_covers, starts}
use Rattle.gd_readable.proofs.Walks.{first_at_start, first_after, not_first, bucket_place}
use Rattle.gd_verify.specs.Known.{IsReadBy, IsPlaced, IsPage, places_below, HasBucket}

-- one entry of a page
pub entry_in_page : (file bytes : List ℕ) (h : Header) (i count e : ℕ) → IsPage file h i count bytes → e < count → i64_at bytes (8 * e) ≡ entry_at file h (i + e)
unfolding entry_at i64_at u64_at
entry_in_page file bytes h i count e page lt =
    let at = page.bytes_are in
    let place : h.dir + 8 * i + 8 * e ≡ h.dir + 8 * (i + e) = omega arith in
    let all : take 8 (drop (8 * e) bytes) ≡ take 8 (drop (h.dir + 8 * (i + e)) file) =
    ap (λ (xs : List ℕ). take 8 (drop (8 * e) xs)) at ∙ piece (8 * e) 8 (8 * count) (drop (h.dir + 8 * i) file) (omega arith)
    ∙ ap (take 8) (drop-drop (8 * e) (h.dir + 8 * i) file) ∙ ap (λ (k : ℕ). take 8 (drop k file)) place in
    ap (λ (xs : List ℕ). cast_signed w64 (number_of xs)) all

module _ (file : List ℕ) (h : Header) (read : IsReadBy file h) where
  entry_is : (k : ℕ) → k < entries_of h → entry_at file h k ≡ pos (natural (entry_at file h k))
  entry_is k lt = (bucket_place file h read.dir k lt (natural (entry_at file h k)) refl).0

  pub entry_from_zero : (k : ℕ) (entry : ℤ) → k < entries_of h → entry ≡ entry_at file h k → is_from_zero entry ≡ false → ⊥
  entry_from_zero k entry lt is low =
      let there : is_from_zero (pos (natural (entry_at file h k))) ≡ false = rw (entry_is k lt) at (rw is at low) in
      cc

  places_yes : (k : ℕ) → is_first file h k ≡ true → places_below file h (k + 1) ≡ places_below file h k ++ natural (entry_at file h k) ∷ []
  unfolding places_below
  places_yes k first =
      let done = filter (is_first file h) (range_with_len 0 k) in
      ap (map (λ i. natural (entry_at file h i))) (passing_more (is_first file h) k ∙ ap (λ (b : Bool). done ++ cond b (k ∷ []) []) first)
      ∙ map-append (λ i. natural (entry_at file h i)) done (k ∷ [])

  places_no : (k : ℕ) → is_first file h k ≡ false → places_below file h (k + 1) ≡ places_below file h k
  unfolding places_below
  places_no k again =
      let done = filter (is_first file h) (range_with_len 0 k) in
      ap (map (λ i. natural (entry_at file h i))) (passing_more (is_first file h) k ∙ ap (λ (b : Bool). done ++ cond b (k ∷ []) []) again ∙ append-nil done)

  first_if : (k : ℕ) (before : ℤ) (old : List ℕ) → k < entries_of h → IsPlaced file h k before old → (entry_at file h k ≡ before → ⊥) → is_first file h k ≡ true
  first_if k before old lt placed differs =
      elim (cases_eq k 0) [
        | inl start ↦ first_at_start file h k start
        | inr later ↦ first_after file h read.dir k (omega arith) lt (λ e. differs (sym e ∙ sym (placed.last (omega arith))))
      ]

  not_first_if : (k : ℕ) (before : ℤ) (old : List ℕ) → k < entries_of h → IsPlaced file h k before old → entry_at file h k ≡ before → is_first file h k ≡ false
  not_first_if k before old lt placed same =
      elim (cases_eq k 0) [
        | inl start ↦ let bad : pos (natural (entry_at file h k)) ≡ negsuc 0 = sym (entry_is k lt) ∙ same ∙ placed.first start in absurd cc
        | inr later ↦ not_first file h k (omega arith) (sym (placed.last (omega arith)) ∙ sym same)
      ]

  pub place_more : (k : ℕ) (entry before : ℤ) (old new : List ℕ) → k < entries_of h → IsPlaced file h k before old → entry ≡ entry_at file h k → (entry ≡ before → new ≡ old) → ((entry ≡ before → ⊥) → new ≡ old ++ natural entry ∷ []) → IsPlaced file h (k + 1) entry new
  place_more k entry before old new lt placed is again more =
      let behind : k + 1 - 1 ≡ k = omega arith in
      record {
        first = λ e. absurd (omega arith);
        last = λ lt. rw behind is;
        places =
            bool_cases (int_eq entry before)
            (λ same.
            let e = (Decides-int_eq entry before).0 same in
            again e ∙ placed.places ∙ sym (places_no k (not_first_if k before old lt placed (sym is ∙ e))))
            (λ other.
            let differs : entry ≡ before → ⊥ = λ e. let bad = (Decides-int_eq entry before).1 e in cc (bad, other) in
            more differs ∙ ap (λ (xs : List ℕ). xs ++ natural entry ∷ []) placed.places ∙ ap (λ (z : ℤ). places_below file h k ++ natural z ∷ []) is ∙ sym (places_yes k (first_if k before old lt placed (λ e. differs (is ∙ e)))));
      }

  -- ---- each bucket

  counts_judged : (s : ℕ) → entry_fault file h s ≡ None → are_counts_right h (block_of file h s) ≡ true
  unfolding entry_fault
  counts_judged s none =
      let a = or_else-none _ _ none in
      let b = or_else-none _ _ a.1 in
      let d = or_else-none _ _ b.1 in
      unless-none _ _ d.0

  counts_right : (k : ℕ) → k < entries_of h → are_counts_right h (block_of file h k) ≡ true
  unfolding dir_fault block_of
  counts_right k lt =
      let w = walk_covers file h (entries_of h) 0 0 read.dir k (omega arith) (omega arith) in
      let s = w.0 in
      let low = w.1 in
      let high = w.2 in
      let at : s + (k - s) ≡ k = omega arith in
      let same = (starts file h s w.3).same (k - s) (omega arith) in
      let entry : entry_at file h k ≡ entry_at file h s = rw at at same in
      let right : are_counts_right h (bytes_at file (natural (entry_at file h s)) h.block) ≡ true = counts_judged s w.3 in
      rw entry right

  has_bucket : (k : ℕ) → k < entries_of h → HasBucket file h (natural (entry_at file h k))
  unfolding are_counts_right block_of
  has_bucket k lt = record {
    ends = (bucket_place file h read.dir k lt (natural (entry_at file h k)) refl).1;
    free = (and-true _ _ (counts_right k lt)).0;
  }

  places_zero : places_below file h 0 ≡ []
  unfolding places_below
  places_zero = refl

  have_below : (n : ℕ) → n ≤ entries_of h → All (HasBucket file h) (places_below file h n)
  have_below zero le = rw places_zero (All-nil (HasBucket file h))
  have_below (suc n) le =
      let next : suc n ≡ n + 1 = omega arith in
      rw next
      (bool_cases (is_first file h n)
      (λ first. rw (places_yes n first) (All-push (HasBucket file h) (places_below file h n) (natural (entry_at file h n)) (have_below n (omega arith)) (has_bucket n (omega arith))))
      (λ again. rw (places_no n again) (have_below n (omega arith))))

  pub have_buckets : All (HasBucket file h) (places_of file h)
  unfolding places_of first_indexes places_below
  have_buckets = have_below (entries_of h) (omega arith)

pub placed_all : (file : List ℕ) (h : Header) (n : ℕ) (before : ℤ) (list : List ℕ) → IsPlaced file h n before list → n ≡ entries_of h → list ≡ places_of file h
unfolding places_of first_indexes places_below
placed_all file h n before list placed e = placed.places ∙ ap (places_below file h) e

pub placed_none : (file : List ℕ) (h : Header) → IsPlaced file h 0 (negsuc 0) []
unfolding places_below
placed_none file h = record { first = λ e. refl; last = λ lt. absurd (omega arith); places = refl }
