-- The stack, block by block.
use Rattle.std.proofs.Common.{◌≡◌, ℕ, zero, suc, ◌+◌, ◌-◌, ◌*◌, ◌^◌, ◌<◌, ◌≤◌, Bool, true, false, not, cond, ◌&&◌, ◌||◌, ◌==◌, leb, ltb, List, [], ◌∷◌, ◌++◌, length, map, take, drop, min, Option, Some, None, refl, sym, ap, ◌∙◌, append_assoc, arith, inl, inr, length-drop}
use Rattle.std.specs.Prelude.{ℤ, nat_eq, pos, negsuc, IfNone, IfSome}
use Rattle.std.specs.List.{flat_map, filter, list_any, IsDistinct}
use Rattle.std.specs.HashSet.{contains}
use Rattle.std.proofs.lemmas.List.{length-take-le, take-take, append-nil}
use Rattle.std.proofs.lemmas.List.Elements.{filter-append}
use Rattle.std.proofs.lemmas.List.Folds.{list_any-append}
use Rattle.std.proofs.lemmas.Grind.{flat_map-append}
use Rattle.std.proofs.lemmas.Map.Keys.{IsDistinct-push}
use Rattle.std.proofs.lemmas.Map.Steps.{length-le_from_distinct_below}
use Rattle.std.proofs.lemmas.Bool.{leb-true, le-leb, cases_lt, eqb-true, ne_eqb, lt-ltb, le-ltb}
use Rattle.gd_base.specs.declared.errors.DbError.TheVariants.{BadAvail}
use Rattle.gd_format.specs.declared.Held.{Held}
use Rattle.gd_format.specs.First.{first_below, all_below, list_below}
use Rattle.gd_format.specs.Field.{bytes_at}
use Rattle.gd_format.specs.HeaderFault.{is_within, natural}
use Rattle.gd_format.specs.Avail.{count_at, next_at, avail_size, is_avail, extents_at}
use Rattle.gd_format.specs.Sound.{stack_at, stack_size, stack_block, is_stack_block, is_other_block, stack_fault_at, stack_fault, stack_places, stack_held, itself, held_by}
use Rattle.gd_format.proofs.Firsts.{and-true, both_true, and-false, first_below_more, first_below_found, first_below_from, first_below-none, list_below_more, length-list_below, unless_true}
use Rattle.gd_verify.specs.Apart.{StandsFor}
use Rattle.gd_verify.specs.Fronts.{front_size, is_stack_front}
use Rattle.gd_readable.specs.Checks.{Numbers}
use Rattle.gd_verify.proofs.Numbers.{bool_cases, eqb-symm, eqb-laws}

pub within-le : (z : ℤ) (high : ℕ) → is_within z 0 high ≡ true → natural z ≤ high
within-le (pos n) high h = let both = and-true _ _ h in leb-true n high both.1
within-le (negsuc n) high h = absurd cc

not_or : (a b : Bool) → (not a && not b) ≡ not (a || b)
not_or true b = refl
not_or false b = refl

or_false : (b : Bool) → (b || false) ≡ b
or_false true = refl
or_false false = refl

or-true : (b : Bool) → (b || true) ≡ true
or-true true = refl
or-true false = refl

cond_or : (a b : Bool) → cond a true b ≡ (b || a)
cond_or true true = refl
cond_or true false = refl
cond_or false true = refl
cond_or false false = refl

-- ---- one block, by the bytes that were read

module _ (file bytes : List ℕ) (most at n : ℕ) (some : n ≡ min (16 + 16 * most) (length file - at)) (read : bytes ≡ bytes_at file at n) where
  bytes_size : length bytes ≡ n
  bytes_size =
      let rest = length-drop at file in
      let size = length-take-le n (drop at file) (omega (arith, rest, some)) in
      ap length read ∙ size

  piece_is : (k : ℕ) → k ≤ n → take k bytes ≡ bytes_at file at k
  piece_is k le = ap (take k) read ∙ take-take k n (drop at file) le

  size_is : 16 ≤ n → front_size bytes ≡ stack_size file at
  unfolding stack_size
  size_is le = ap (λ (xs : List ℕ). avail_size (natural (count_at xs))) (piece_is 16 le)

  -- what both tests say
  record IsRight : Type 0 where
    head : 16 ≤ n
    count : is_within (count_at (bytes_at file at 16)) 0 most ≡ true
    extents : stack_size file at ≤ n
    avail : is_avail (stack_block file at) most ≡ true

  from_front : (is_stack_front bytes most && is_avail (take (front_size bytes) bytes) most) ≡ true → IsRight
  unfolding is_stack_front stack_block
  from_front h =
      let a = and-true _ _ h in
      let b = and-true _ _ a.0 in
      let c = and-true _ _ b.0 in
      let len = bytes_size in
      let head : 16 ≤ n = omega (arith, leb-true 16 (length bytes) c.0) in
      let within : is_within (count_at (bytes_at file at 16)) 0 most ≡ true = rw (← piece_is 16 head) c.1 in
      let size = size_is head in
      let fits : stack_size file at ≤ n = omega (arith, leb-true (front_size bytes) (length bytes) b.1) in
      let block : take (front_size bytes) bytes ≡ bytes_at file at (stack_size file at) = ap (λ (k : ℕ). take k bytes) size ∙ piece_is (stack_size file at) fits in
      record { head = head; count = within; extents = fits; avail = rw block at a.1 }

  to_front : IsRight → (is_stack_front bytes most && is_avail (take (front_size bytes) bytes) most) ≡ true
  unfolding is_stack_front stack_block
  to_front r =
      let len = bytes_size in
      let head = r.head in
      let size = size_is head in
      let fits = r.extents in
      let within : is_within (count_at (take 16 bytes)) 0 most ≡ true = rw (piece_is 16 head) r.count in
      let block : take (front_size bytes) bytes ≡ bytes_at file at (stack_size file at) = ap (λ (k : ℕ). take k bytes) size ∙ piece_is (stack_size file at) fits in
      let avail : is_avail (take (front_size bytes) bytes) most ≡ true = rw block r.avail in
      both_true _ _ (both_true _ _ (both_true _ _ (le-leb 16 (length bytes) (omega arith)) within) (le-leb (front_size bytes) (length bytes) (omega arith))) avail

  from_block : is_stack_block file most at ≡ true → IsRight
  unfolding is_stack_block stack_size
  from_block h =
      let a = and-true _ _ h in
      let b = and-true _ _ a.0 in
      let c = and-true _ _ b.0 in
      let d = and-true (not (at == 0) && ltb at (2 ^ 63)) (leb (at + 16) (length file)) c.0 in
      let head = leb-true (at + 16) (length file) d.1 in
      let whole = leb-true (at + stack_size file at) (length file) b.1 in
      let few = within-le (count_at (bytes_at file at 16)) most c.1 in
      record { head = omega arith; count = c.1; extents = omega arith; avail = a.1 }

  to_block : 0 < at → at < 2 ^ 63 → IsRight → is_stack_block file most at ≡ true
  unfolding is_stack_block
  to_block above low r =
      let head = r.head in
      let fits = r.extents in
      let not_zero : not (at == 0) ≡ true = ap not (ne_eqb at 0 (λ e. omega arith)) in
      both_true _ _ (both_true _ _ (both_true _ _ (both_true _ _ (both_true _ _ not_zero (lt-ltb at (2 ^ 63) low)) (le-leb (at + 16) (length file) (omega arith))) r.count) (le-leb (at + stack_size file at) (length file) (omega arith))) r.avail

  pub block_wrong : (is_stack_front bytes most && is_avail (take (front_size bytes) bytes) most) ≡ false → is_stack_block file most at ≡ false
  block_wrong bad = bool_cases (is_stack_block file most at) (λ good. let front = to_front (from_block good) in absurd (cc (front, bad))) (λ e. e)

  pub block_right : 0 < at → at < 2 ^ 63 → (is_stack_front bytes most && is_avail (take (front_size bytes) bytes) most) ≡ true → is_stack_block file most at ≡ true
  block_right above low good = to_block above low (from_front good)

  pub block_next : (is_stack_front bytes most && is_avail (take (front_size bytes) bytes) most) ≡ true → next_at (take 16 bytes) ≡ next_at (bytes_at file at 16)
  block_next good = ap next_at (piece_is 16 (from_front good).head)

  pub block_held : (is_stack_front bytes most && is_avail (take (front_size bytes) bytes) most) ≡ true → (itself at (front_size bytes) ∷ map (held_by at) (extents_at (take (front_size bytes) bytes))) ≡ stack_held file at
  unfolding stack_held stack_block
  block_held good =
      let r = from_front good in
      let size = size_is r.head in
      let block : take (front_size bytes) bytes ≡ bytes_at file at (stack_size file at) = ap (λ (k : ℕ). take k bytes) size ∙ piece_is (stack_size file at) r.extents in
      ap (λ (k : ℕ). itself at k ∷ map (held_by at) (extents_at (take (front_size bytes) bytes))) size
      ∙ ap (λ (xs : List ℕ). itself at (stack_size file at) ∷ map (held_by at) (extents_at xs)) block

pub far_block : (file : List ℕ) (most at : ℕ) → 2 ^ 63 ≤ at → is_stack_block file most at ≡ false
unfolding is_stack_block
far_block file most at le =
    let high : ltb at (2 ^ 63) ≡ false = le-ltb at (2 ^ 63) le in
    rw (high, and-false) refl

-- ---- what is said of an option, by what is known of it

pub if_none : (r : Option ℕ) {A B : Type 0} → (A → B) → IfNone r A → IfNone r B
if_none None f h = f h
if_none (Some n) f h = tt

pub if_some : (r : Option ℕ) {A : Type 0} {P Q R : ℕ → Type 0} → ((n : ℕ) → A → P n → Q n → R n) → IfSome r (λ n. A) → IfSome r P → IfSome r Q → IfSome r R
if_some None f a p q = tt
if_some (Some n) f a p q = f n a p q

-- ---- the walk down the stack

abbrev is_place : ℕ → Bool
is_place at = not (at == 0)

module _ (file : List ℕ) (most top : ℕ) where
  abbrev pub below : ℕ → List ℕ
  below k = list_below k (stack_at file top)

  -- after k blocks without a refusal
  pub record IsStackTo (k a : ℕ) (known : Numbers) (old list : List Held) : Type 0 where
    pub at : a ≡ stack_at file top k
    pub none : first_below k (stack_fault_at file most top) ≡ None
    pub kept : filter is_place (below k) ≡ below k
    pub seen : (q : ℕ) → contains nat_eq known q ≡ list_any (nat_eq q) (below k)
    pub distinct : IsDistinct nat_eq (below k)
    pub inside : (q : ℕ) → list_any (nat_eq q) (below k) ≡ true → q + 16 ≤ length file
    pub held : list ≡ old ++ flat_map (stack_held file) (below k)

  -- after k blocks, for which a list stands
  pub record IsListedTo (k a : ℕ) (known : Numbers) (old list : List Held) (enough : Bool) : Type 0 where
    pub whole : List Held
    pub stack : IsStackTo k a known old whole
    pub stands : StandsFor whole list enough

  pub stack_starts : (known : Numbers) (old : List Held) → ((q : ℕ) → contains nat_eq known q ≡ false) → IsStackTo 0 top known old old
  unfolding IsDistinct
  stack_starts known old empty = record { at = refl; none = refl; kept = refl; seen = empty; distinct = tt; inside = λ q e. absurd cc; held = sym (append-nil old) }

  none_above : (k : ℕ) → 0 < stack_at file top k → (stack_at file top k == 0) ≡ false
  none_above k lt = ne_eqb (stack_at file top k) 0 (λ e. omega arith)

  -- the tests of the addresses before, by the list of them
  others : (n k : ℕ) → all_below n (is_other_block file top k) ≡ not (list_any (nat_eq (stack_at file top k)) (below n))
  unfolding is_other_block
  others zero k = refl
  others (suc n) k =
      ap (λ (b : Bool). b && not (nat_eq (stack_at file top n) (stack_at file top k))) (others n k)
      ∙ ap (λ (b : Bool). not (list_any (nat_eq (stack_at file top k)) (below n)) && not b) (eqb-symm (stack_at file top n) (stack_at file top k))
      ∙ not_or (list_any (nat_eq (stack_at file top k)) (below n)) (nat_eq (stack_at file top k) (stack_at file top n))
      ∙ ap not (sym (list_any-append (nat_eq (stack_at file top k)) (below n) (stack_at file top n ∷ []) ∙ ap (λ (b : Bool). list_any (nat_eq (stack_at file top k)) (below n) || b) (or_false (nat_eq (stack_at file top k) (stack_at file top n)))))

  fault_at : (k a : ℕ) → a ≡ stack_at file top k → 0 < a → (all_below k (is_other_block file top k) && is_stack_block file most (stack_at file top k)) ≡ false → stack_fault_at file most top k ≡ Some (BadAvail a)
  unfolding stack_fault_at
  fault_at k a is above bad =
      let place : 0 < stack_at file top k = rw is at above in
      rw (none_above k place, bad, is) refl

  -- a refusal after k blocks
  refused : (k a : ℕ) (known : Numbers) (old list : List Held) → IsStackTo k a known old list → 0 < a → k < length file → (all_below k (is_other_block file top k) && is_stack_block file most (stack_at file top k)) ≡ false → stack_fault file most top ≡ Some (BadAvail a)
  unfolding stack_fault
  refused k a known old list s above lt bad = first_below_found (stack_fault_at file most top) (length file) k (BadAvail a) lt s.none (fault_at k a s.at above bad)

  pub stack_repeats : (k a : ℕ) (known : Numbers) (old list : List Held) → IsStackTo k a known old list → 0 < a → k < length file → contains nat_eq known a ≡ true → stack_fault file most top ≡ Some (BadAvail a)
  stack_repeats k a known old list s above lt again =
      let is : list_any (nat_eq (stack_at file top k)) (below k) ≡ true = rw s.at at (sym (s.seen a) ∙ again) in
      let bad : all_below k (is_other_block file top k) ≡ false = others k k ∙ ap not is in
      refused k a known old list s above lt (rw bad refl)

  pub stack_wrong : (k a : ℕ) (known : Numbers) (old list : List Held) → IsStackTo k a known old list → 0 < a → k < length file → is_stack_block file most a ≡ false → stack_fault file most top ≡ Some (BadAvail a)
  stack_wrong k a known old list s above lt wrong =
      let is : is_stack_block file most (stack_at file top k) ≡ false = rw s.at at wrong in
      refused k a known old list s above lt (rw (is, and-false) refl)

  block_inside : (a : ℕ) → is_stack_block file most a ≡ true → a + 16 ≤ length file
  unfolding is_stack_block
  block_inside a h =
      let a1 = and-true _ _ h in
      let b = and-true _ _ a1.0 in
      let c = and-true _ _ b.0 in
      let d = and-true _ _ c.0 in
      leb-true (a + 16) (length file) d.1

  inside_more : (k a q : ℕ) → ((q : ℕ) → list_any (nat_eq q) (below k) ≡ true → q + 16 ≤ length file) → a + 16 ≤ length file → (list_any (nat_eq q) (below k) || list_any (nat_eq q) (a ∷ [])) ≡ true → q + 16 ≤ length file
  inside_more k a q inside here there =
      bool_cases (list_any (nat_eq q) (below k))
      (λ old. inside q old)
      (λ new. let is : list_any (nat_eq q) (a ∷ []) ≡ true = rw new at there in let same = eqb-true q a (sym (or_false (nat_eq q a)) ∙ is) in omega arith)

  below_more : (k a : ℕ) → a ≡ stack_at file top k → below (k + 1) ≡ below k ++ a ∷ []
  below_more k a is = list_below_more (stack_at file top) k ∙ ap (λ (x : ℕ). below k ++ x ∷ []) (sym is)

  no_fault_at : (k a : ℕ) → a ≡ stack_at file top k → all_below k (is_other_block file top k) ≡ true → is_stack_block file most a ≡ true → stack_fault_at file most top k ≡ None
  unfolding stack_fault_at
  no_fault_at k a is other right =
      let block : is_stack_block file most (stack_at file top k) ≡ true = rw is at right in
      rw (other, block) (unless_true _ _ (or-true (stack_at file top k == 0)))

  next_is : (k a next : ℕ) → a ≡ stack_at file top k → 0 < a → next ≡ next_at (bytes_at file a 16) → next ≡ stack_at file top (k + 1)
  next_is k a next is above e =
      let place : 0 < stack_at file top k = rw is at above in
      let to : next ≡ next_at (bytes_at file (stack_at file top k) 16) = rw is at e in
      let more : k + 1 ≡ suc k = omega arith in
      to ∙ rw (more, none_above k place) refl

  -- one more block
  pub stack_more : (k a next : ℕ) (known now : Numbers) (old list more : List Held) → IsStackTo k a known old list → 0 < a → contains nat_eq known a ≡ false → ((q : ℕ) → contains nat_eq now q ≡ cond (nat_eq a q) true (contains nat_eq known q)) → is_stack_block file most a ≡ true → next ≡ next_at (bytes_at file a 16) → more ≡ list ++ stack_held file a → IsStackTo (k + 1) next now old more
  stack_more k a next known now old list more s above new updates right e is =
      let added = below_more k a s.at in
      let fresh : list_any (nat_eq a) (below k) ≡ false = sym (s.seen a) ∙ new in
      let fresh_there : list_any (nat_eq (stack_at file top k)) (below k) ≡ false = rw s.at at fresh in
      let other : all_below k (is_other_block file top k) ≡ true = others k k ∙ ap not fresh_there in
      let place : is_place a ≡ true = ap not (ne_eqb a 0 (λ e. omega arith)) in
      record {
        at = next_is k a next s.at above e;
        none = first_below_more (stack_fault_at file most top) k s.none (no_fault_at k a s.at other right);
        kept = rw added (filter-append is_place (below k) (a ∷ []) ∙ ap (λ (xs : List ℕ). xs ++ filter is_place (a ∷ [])) s.kept ∙ rw place refl);
        seen = λ q. updates q ∙ ap (λ (b : Bool). cond (nat_eq a q) true b) (s.seen q) ∙ cond_or (nat_eq a q) (list_any (nat_eq q) (below k)) ∙ ap (λ (b : Bool). list_any (nat_eq q) (below k) || b) (eqb-symm a q ∙ sym (or_false (nat_eq q a))) ∙ sym (ap (list_any (nat_eq q)) added ∙ list_any-append (nat_eq q) (below k) (a ∷ []));
        distinct = rw added (IsDistinct-push eqb-laws (below k) a s.distinct fresh);
        inside = λ q there. inside_more k a q s.inside (block_inside a right) (sym (list_any-append (nat_eq q) (below k) (a ∷ [])) ∙ sym (ap (list_any (nat_eq q)) added) ∙ there);
        held = is ∙ ap (λ (xs : List Held). xs ++ stack_held file a) s.held ∙ append_assoc old (flat_map (stack_held file) (below k)) (stack_held file a) ∙ ap (λ (xs : List Held). old ++ xs) (sym (ap (flat_map (stack_held file)) added ∙ flat_map-append (stack_held file) (below k) (a ∷ []) ∙ ap (λ (xs : List Held). flat_map (stack_held file) (below k) ++ xs) (append-nil (stack_held file a))));
      }

  -- ---- the end of the stack

  zero_after : (k m : ℕ) → stack_at file top k ≡ 0 → stack_at file top (k + m) ≡ 0
  zero_after k zero z = let same : k + 0 ≡ k = omega arith in rw same z
  zero_after k (suc m) z =
      let before = zero_after k m z in
      let next : k + suc m ≡ suc (k + m) = omega arith in
      rw (next, before) refl

  kept_after : (k m : ℕ) → stack_at file top k ≡ 0 → filter is_place (below k) ≡ below k → filter is_place (below (k + m)) ≡ below k
  kept_after k zero z kept = let same : k + 0 ≡ k = omega arith in rw same kept
  kept_after k (suc m) z kept =
      let next : k + suc m ≡ suc (k + m) = omega arith in
      let here = zero_after k m z in
      rw next (filter-append is_place (below (k + m)) (stack_at file top (k + m) ∷ []) ∙ ap (λ (x : ℕ). filter is_place (below (k + m)) ++ filter is_place (x ∷ [])) here ∙ append-nil (filter is_place (below (k + m))) ∙ kept_after k m z kept)

  none_at_zero : (k : ℕ) → stack_at file top k ≡ 0 → stack_fault_at file most top k ≡ None
  unfolding stack_fault_at
  none_at_zero k z = rw z refl

  pub stack_ends : (k a : ℕ) (known : Numbers) (old list : List Held) → IsStackTo k a known old list → a ≡ 0 → k < length file → stack_fault file most top ≡ None
  unfolding stack_fault
  stack_ends k a known old list s z lt =
      let here : stack_at file top k ≡ 0 = sym s.at ∙ z in
      first_below_from (stack_fault_at file most top) (length file)
      (λ j below_len. elim (cases_lt j k) [
        | inl before ↦ first_below-none (stack_fault_at file most top) k s.none j before
        | inr after ↦ let at : k + (j - k) ≡ j = omega arith in let then = zero_after k (j - k) here in none_at_zero j (rw at at then)
      ])

  pub stack_is_held : (k a : ℕ) (known : Numbers) (old list : List Held) → IsStackTo k a known old list → a ≡ 0 → k < length file → list ≡ old ++ flat_map (stack_held file) (stack_places file top)
  unfolding stack_places
  stack_is_held k a known old list s z lt =
      let here : stack_at file top k ≡ 0 = sym s.at ∙ z in
      let whole : k + (length file - k) ≡ length file = omega arith in
      let kept = kept_after k (length file - k) here s.kept in
      let all : filter is_place (below (length file)) ≡ below k = rw whole at kept in
      s.held ∙ ap (λ (xs : List ℕ). old ++ flat_map (stack_held file) xs) (sym all)

  -- addresses of their own in the file are fewer than its bytes
  pub stack_is_short : (k a : ℕ) (known : Numbers) (old list : List Held) → IsStackTo k a known old list → 512 ≤ length file → k < length file
  stack_is_short k a known old list s long =
      let few = length-le_from_distinct_below (below k) (length file - 15) s.distinct (λ q there. let fits = s.inside q there in omega arith) in
      let size = length-list_below (stack_at file top) k in
      omega (arith, few, size)
