-- The addresses of the runs that were judged, in a set.
use Rattle.std.proofs.Common.{◌≡◌, ℕ, zero, suc, ◌+◌, ◌<◌, Bool, true, false, not, ◌&&◌, cond, List, None, refl, sym, ap, ◌∙◌, arith}
use Rattle.std.specs.Prelude.{pos, nat_eq}
use Rattle.std.specs.Ordering.{int_eq}
use Rattle.std.specs.HashSet.{contains}
use Rattle.std.proofs.lemmas.Bool.Decides.{Decides-eqb, Decides-int_eq}
use Rattle.gd_format.specs.declared.Header.{Header}
use Rattle.gd_format.specs.First.{all_below, first_below}
use Rattle.gd_format.specs.File.{entry_at, run_fault, is_first, is_other_entry}
use Rattle.gd_format.proofs.Firsts.{first_below-none, unless-none}
use Rattle.gd_readable.specs.Checks.{Numbers, SeesPlaces, is_entry_other}

bool_cases : (b : Bool) {P : Type 0} → (b ≡ true → P) → (b ≡ false → P) → P
bool_cases true p q = p refl
bool_cases false p q = q refl

number_of_pos : (a q : ℕ) → pos a ≡ pos q → a ≡ q
number_of_pos a q e = cc

module _ (file : List ℕ) (h : Header) where
  same_tests : (i a n : ℕ) → entry_at file h i ≡ pos a → all_below n (is_other_entry file h i) ≡ all_below n (is_entry_other file h a)
  unfolding is_other_entry is_entry_other
  same_tests i a zero e = refl
  same_tests i a (suc n) e = rw (same_tests i a n e, e) refl

  not_not : (b : Bool) → not (not b) ≡ b
  not_not true = refl
  not_not false = refl

  -- the address of an entry is new exactly where the set lacks it
  pub first_by_set : (seen : Numbers) (i a : ℕ) → entry_at file h i ≡ pos a → SeesPlaces seen file h i → (b : Bool) → b ≡ not (contains nat_eq seen a) → b ≡ is_first file h i
  unfolding is_first
  first_by_set seen i a e sees b is = is ∙ ap not (sees a) ∙ not_not _ ∙ sym (same_tests i a i e)

  and_absorbs : (x y : Bool) → (x && y) && y ≡ (x && y)
  and_absorbs true true = refl
  and_absorbs true false = refl
  and_absorbs false y = refl

  one_more : (x y : Bool) → cond y true (not x) ≡ not (x && not y)
  one_more true true = refl
  one_more true false = refl
  one_more false true = refl
  one_more false false = refl

  module _ (i a : ℕ) where
    int_test : (q : ℕ) → int_eq (pos a) (pos q) ≡ nat_eq a q
    int_test q =
        bool_cases (int_eq (pos a) (pos q))
        (λ yes. let e : a ≡ q = number_of_pos a q ((Decides-int_eq (pos a) (pos q)).0 yes) in yes ∙ sym ((Decides-eqb a q).1 e))
        (λ no. bool_cases (nat_eq a q)
        (λ same. let bad = (Decides-int_eq (pos a) (pos q)).1 (ap pos ((Decides-eqb a q).0 same)) in absurd (cc (no, bad)))
        (λ differs. no ∙ sym differs))

    test_at : (q n : ℕ) → entry_at file h n ≡ pos a → is_entry_other file h q n ≡ not (nat_eq a q)
    unfolding is_entry_other
    test_at q n e = rw e (ap not (int_test q))

    -- the tests of the entries before i and of a run of the address a
    run_tests : (q k : ℕ) → ((j : ℕ) → j < suc k → entry_at file h (i + j) ≡ pos a) → all_below (i + suc k) (is_entry_other file h q) ≡ (all_below i (is_entry_other file h q) && not (nat_eq a q))
    run_tests q zero same =
        let first : i + suc zero ≡ suc i = omega arith in
        let here : i + zero ≡ i = omega arith in
        let e : entry_at file h i ≡ pos a = rw here at (same zero (omega arith)) in
        rw first (ap (λ (b : Bool). all_below i (is_entry_other file h q) && b) (test_at q i e))
    run_tests q (suc k) same =
        let next : i + suc (suc k) ≡ suc (i + suc k) = omega arith in
        let ih = run_tests q k (λ j lt. same j (omega arith)) in
        let t = test_at q (i + suc k) (same (suc k) (omega arith)) in
        rw (next, ih, t) (and_absorbs (all_below i (is_entry_other file h q)) (not (nat_eq a q)))

    entries_same : (r : ℕ) → entry_at file h i ≡ pos a → first_below r (run_fault file h i) ≡ None → (j : ℕ) → j < r → entry_at file h (i + j) ≡ pos a
    unfolding run_fault
    entries_same r e none j lt = (Decides-int_eq _ _).0 (unless-none _ _ (first_below-none (run_fault file h i) r none j lt)) ∙ e

    -- a run of the address a, which is put into the set
    pub places_more : (seen after : Numbers) → entry_at file h i ≡ pos a → SeesPlaces seen file h i → ((q : ℕ) → contains nat_eq after q ≡ cond (nat_eq a q) true (contains nat_eq seen q)) → (r : ℕ) → 0 < r → first_below r (run_fault file h i) ≡ None → SeesPlaces after file h (i + r)
    places_more seen after e sees updates zero some none q = absurd (omega arith)
    places_more seen after e sees updates (suc k) some none q =
        updates q ∙ ap (cond (nat_eq a q) true) (sees q) ∙ one_more (all_below i (is_entry_other file h q)) (nat_eq a q)
        ∙ ap not (sym (run_tests q k (entries_same (suc k) e none)))
