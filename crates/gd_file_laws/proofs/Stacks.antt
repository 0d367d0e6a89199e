-- A stack without a refusal is a list of blocks.
use Rattle.std.proofs.Common.{◌≡◌, ◌≢◌, ℕ, zero, suc, ◌+◌, ◌-◌, ◌*◌, ◌<◌, ◌≤◌, Bool, true, false, not, ◌&&◌, ◌||◌, cond, eqb, List, [], ◌∷◌, ◌++◌, length, map, take, drop, None, refl, sym, ap, ◌∙◌, inl, inr, arith}
use Rattle.std.specs.Prelude.{◌==◌, ◌^◌, nat_lt, nat_le, ◌⊎◌, filter}
use Rattle.std.specs.List.{flat_map, AllByRecursion, IsDistinct, list_any}
use Rattle.std.specs.Int.{w32, cast_signed}
use Rattle.std.proofs.lemmas.Bool.{cases_lt, leb-true}
use Rattle.std.proofs.lemmas.Bool.Decides.{Decides-eqb}
use Rattle.std.proofs.lemmas.List.{map-append, drop-take, take-take}
use Rattle.std.proofs.lemmas.List.Elements.{filter-append}
use Rattle.std.proofs.lemmas.Map.Steps.{length-le_from_distinct_below}
use Rattle.gd_format.specs.declared.Extent.{Extent}
use Rattle.gd_format.specs.declared.Held.{Held}
use Rattle.gd_format.specs.Field.{bytes_at, number_of, u32_at, i32_at}
use Rattle.gd_format.specs.First.{all_below, list_below}
use Rattle.gd_format.specs.HeaderFault.{natural, is_within}
use Rattle.gd_format.specs.Avail.{count_at, next_at, avail_size, is_avail, extents_at, extent_at, raw_avail_at}
use Rattle.gd_format.specs.Sound.{held_by, stack_at, stack_size, stack_block, is_stack_block, is_other_block, stack_fault_at, stack_fault, stack_places, stack_held}
use Rattle.gd_format.specs.Covers.{has_byte, cover}
use Rattle.gd_format.specs.FreeSide.{StackBlock, IsBlockOf, IsStack, block_extent, stack_extents}
use Rattle.gd_format.proofs.Firsts.{and-true, unless-none, unless_true, both_true, first_below_from, first_below-none, all_below_from, all_below-at, length-list_below}
use Rattle.gd_file_laws.specs.Cover.{extents_in, IsOnce}
use Rattle.gd_file_laws.specs.Stack.{places_in, AreDistinct, IsWholeStack, StackShown}
use Rattle.gd_file_laws.proofs.Lists.{bool_cases, all_list_below}
use Rattle.gd_file_laws.proofs.Covers.{cover-append, has_in}

-- ---- addresses one below another

step : List ℕ → ℕ → ℕ
step file at = cond (at == 0) 0 (next_at (bytes_at file at 16))

shift : (file : List ℕ) (top k : ℕ) → stack_at file top (suc k) ≡ stack_at file (stack_at file top 1) k
shift file top zero = refl
shift file top (suc k) = ap (λ (at : ℕ). cond (at == 0) 0 (next_at (bytes_at file at 16))) (shift file top k)

none_below : (file : List ℕ) (k : ℕ) → stack_at file 0 k ≡ 0
none_below file zero = refl
none_below file (suc k) = rw (none_below file k) refl

place_at : List StackBlock → ℕ → ℕ
place_at [] k = 0
place_at (b ∷ bs) zero = b.at
place_at (b ∷ bs) (suc k) = place_at bs k

is_false : (b : Bool) → not b ≡ true → b ≡ false
is_false true h = absurd cc
is_false false h = refl

-- what a right block says of its place
pub right_at : (file : List ℕ) (most at : ℕ) → is_stack_block file most at ≡ true → (not (at == 0) ≡ true) × (at + 16 ≤ length file)
unfolding is_stack_block
right_at file most at h =
    let a = and-true _ (is_avail (stack_block file at) most) h in
    let b = and-true _ (nat_le (at + stack_size file at) (length file)) a.0 in
    let c = and-true _ (is_within (count_at (bytes_at file at 16)) 0 most) b.0 in
    let d = and-true (not (at == 0) && nat_lt at (2 ^ 63)) (nat_le (at + 16) (length file)) c.0 in
    ((and-true (not (at == 0)) (nat_lt at (2 ^ 63)) d.0).0, leb-true (at + 16) (length file) d.1)

first_step : (file : List ℕ) (top : ℕ) → not (top == 0) ≡ true → stack_at file top 1 ≡ next_at (bytes_at file top 16)
first_step file top some = rw (is_false (top == 0) some) refl

module _ (file : List ℕ) (most : ℕ) where
  at_is : (top : ℕ) (bs : List StackBlock) → IsStack file most top bs → (k : ℕ) → stack_at file top k ≡ place_at bs k
  unfolding place_at
  at_is top [] s k = rw s (none_below file k)
  at_is top (b ∷ bs) s zero = sym s.0
  at_is top (b ∷ bs) s (suc k) =
      let some = (right_at file most b.at s.1.right).0 in
      let one : stack_at file top 1 ≡ b.next = ap (λ (t : ℕ). stack_at file t 1) (sym s.0) ∙ first_step file b.at some ∙ sym s.1.next in
      shift file top k ∙ ap (λ (t : ℕ). stack_at file t k) one ∙ at_is b.next bs s.2 k

  right_here : (top : ℕ) (bs : List StackBlock) → IsStack file most top bs → (k : ℕ) → k < length bs → is_stack_block file most (place_at bs k) ≡ true
  unfolding place_at
  right_here top [] s k lt = absurd (omega arith)
  right_here top (b ∷ bs) s zero lt = s.1.right
  right_here top (b ∷ bs) s (suc k) lt = right_here b.next bs s.2 k (omega arith)

place_past : (bs : List StackBlock) (k : ℕ) → length bs ≤ k → place_at bs k ≡ 0
unfolding place_at
place_past [] k le = refl
place_past (b ∷ bs) zero le = absurd (omega arith)
place_past (b ∷ bs) (suc k) le = place_past bs k (omega arith)

all_here : (P : ℕ → Type 0) (bs : List StackBlock) → AllByRecursion P (places_in bs) → (k : ℕ) → k < length bs → P (place_at bs k)
unfolding place_at
all_here P [] h k lt = absurd (omega arith)
all_here P (b ∷ bs) h zero lt = h.0
all_here P (b ∷ bs) h (suc k) lt = all_here P bs h.1 k (omega arith)

all_of : (P : ℕ → Type 0) (bs : List StackBlock) → ((k : ℕ) → k < length bs → P (place_at bs k)) → AllByRecursion P (places_in bs)
unfolding place_at
all_of P [] h = tt
all_of P (b ∷ bs) h = (h 0 (omega arith), all_of P bs (λ k lt. h (suc k) (omega arith)))

two_differ : (bs : List StackBlock) → AreDistinct (places_in bs) → (j k : ℕ) → j < k → k < length bs → place_at bs j ≢ place_at bs k
unfolding place_at
two_differ [] d j k lt below = absurd (omega arith)
two_differ (b ∷ bs) d zero zero lt below = absurd (omega arith)
two_differ (b ∷ bs) d zero (suc k) lt below = λ e. all_here (λ y. y ≢ b.at) bs d.0 k (omega arith) (sym e)
two_differ (b ∷ bs) d (suc j) zero lt below = absurd (omega arith)
two_differ (b ∷ bs) d (suc j) (suc k) lt below = two_differ bs d.1 j k (omega arith) (omega arith)

distinct_of : (bs : List StackBlock) → ((j k : ℕ) → j < k → k < length bs → place_at bs j ≢ place_at bs k) → AreDistinct (places_in bs)
unfolding place_at
distinct_of [] h = tt
distinct_of (b ∷ bs) h = (all_of (λ y. y ≢ b.at) bs (λ k lt e. h 0 (suc k) (omega arith) (omega arith) (sym e)), distinct_of bs (λ j k lt below. h (suc j) (suc k) (omega arith) (omega arith)))

-- ---- numbers that differ, below a number

not_same : (a b : ℕ) → a ≢ b → eqb a b ≡ false
not_same a b ne = bool_cases (eqb a b) (λ t. absurd (ne ((Decides-eqb a b).0 t))) (λ f. f)

is_distinct : (xs : List ℕ) → AreDistinct xs → IsDistinct eqb xs
unfolding IsDistinct
is_distinct [] d = tt
is_distinct (x ∷ xs) d = (each x xs d.0, is_distinct xs d.1)
  where
    each : (x : ℕ) (ys : List ℕ) → AllByRecursion (λ y. y ≢ x) ys → AllByRecursion (λ y. eqb x y ≡ false) ys
    each x [] h = tt
    each x (y ∷ ys) h = (not_same x y (λ e. h.0 (sym e)), each x ys h.1)

found_below : (n : ℕ) (xs : List ℕ) → AllByRecursion (λ x. x < n) xs → (q : ℕ) → list_any (eqb q) xs ≡ true → q < n
found_below n [] h q e = absurd cc
found_below n (x ∷ xs) h q e =
    bool_cases (eqb q x)
    (λ t. let same : q ≡ x = (Decides-eqb q x).0 t in let l = h.0 in omega (arith, same, l))
    (λ f. let rest : list_any (eqb q) xs ≡ true = rw f at e in found_below n xs h.1 q rest)

few : (xs : List ℕ) (n : ℕ) → AreDistinct xs → AllByRecursion (λ x. x < n) xs → length xs ≤ n
few xs n d h = length-le_from_distinct_below xs n (is_distinct xs d) (found_below n xs h)

-- ---- from blocks

list_below_head : {X : Type 0} (f : ℕ → X) (n : ℕ) → list_below (suc n) f ≡ f 0 ∷ list_below n (λ k. f (suc k))
list_below_head f zero = refl
list_below_head f (suc n) = ap (λ (l : List _). l ++ f (suc n) ∷ []) (list_below_head f n)

list_below_same : {X : Type 0} (f g : ℕ → X) (n : ℕ) → ((k : ℕ) → f k ≡ g k) → list_below n f ≡ list_below n g
list_below_same f g zero e = refl
list_below_same f g (suc n) e = rw (list_below_same f g n e, e n) refl

zeros : (n : ℕ) → filter (λ (at : ℕ). not (at == 0)) (list_below n (λ k. 0)) ≡ []
zeros zero = refl
zeros (suc n) = filter-append (λ (at : ℕ). not (at == 0)) (list_below n (λ k. 0)) (0 ∷ []) ∙ rw (zeros n) refl

filter_places : (bs : List StackBlock) (n : ℕ) → length bs ≤ n → AllByRecursion (λ at. not (at == 0) ≡ true) (places_in bs) → filter (λ (at : ℕ). not (at == 0)) (list_below n (place_at bs)) ≡ places_in bs
unfolding place_at
filter_places [] n le h = zeros n
filter_places (b ∷ bs) zero le h = absurd (omega arith)
filter_places (b ∷ bs) (suc n) le h =
    ap (filter (λ (at : ℕ). not (at == 0))) (list_below_head (place_at (b ∷ bs)) n)
    ∙ rw h.0 (ap (λ (l : List ℕ). b.at ∷ l) (filter_places bs n (omega arith) h.1))

-- the count of a block stands in its first bytes
pub head_count : (file : List ℕ) (at n : ℕ) → count_at (bytes_at file at (avail_size n)) ≡ count_at (bytes_at file at 16)
unfolding raw_avail_at i32_at u32_at
head_count file at n =
    let piece : take 4 (drop 4 (bytes_at file at (16 + 16 * n))) ≡ take 4 (drop 4 (bytes_at file at 16)) = inner (drop at file) (16 + 16 * n) (omega arith) in
    ap (λ (x : List ℕ). cast_signed w32 (number_of x)) piece
  where
    inner : (xs : List ℕ) (m : ℕ) → 16 ≤ m → take 4 (drop 4 (take m xs)) ≡ take 4 (drop 4 (take 16 xs))
    inner xs m le =
        let whole : 4 + (m - 4) ≡ m = omega arith in
        ap (λ (k : ℕ). take 4 (drop 4 (take k xs))) (sym whole) ∙ ap (take 4) (drop-take 4 (m - 4) xs) ∙ take-take 4 (m - 4) (drop 4 xs) (omega arith)
        ∙ sym (ap (take 4) (drop-take 4 12 xs) ∙ take-take 4 12 (drop 4 xs) (omega arith))

pub size_of_block : (file : List ℕ) (most : ℕ) (b : StackBlock) → IsBlockOf file most b → stack_size file b.at ≡ avail_size (length b.extents)
unfolding stack_size stack_block
size_of_block file most b block =
    let number : length b.extents ≡ natural (count_at (stack_block file b.at)) = ap length block.extents ∙ length-list_below (extent_at (stack_block file b.at)) (natural (count_at (stack_block file b.at))) in
    let same = ap natural (head_count file b.at (natural (count_at (bytes_at file b.at 16)))) in
    ap avail_size (sym (number ∙ same))

pub extents_held_by : (by : ℕ) (es : List Extent) → extents_in (map (held_by by) es) ≡ es
extents_held_by by [] = refl
extents_held_by by (e ∷ es) = ap (λ (l : List Extent). e ∷ l) (extents_held_by by es)

stack_is : (file : List ℕ) (most top : ℕ) (bs : List StackBlock) → IsStack file most top bs → extents_in (flat_map (stack_held file) (places_in bs)) ≡ stack_extents bs
unfolding stack_held
stack_is file most top [] s = refl
stack_is file most top (b ∷ bs) s =
    let size = size_of_block file most b s.1 in
    let first : extents_in (stack_held file b.at) ≡ block_extent b ∷ b.extents = rw size (ap (λ (l : List Extent). block_extent b ∷ l) (extents_held_by b.at (extents_at (stack_block file b.at)) ∙ sym s.1.extents)) in
    map-append (λ (k : Held). k.extent) (stack_held file b.at) (flat_map (stack_held file) (places_in bs))
    ∙ ap (λ (l : List Extent). l ++ extents_in (flat_map (stack_held file) (places_in bs))) first
    ∙ ap (λ (l : List Extent). (block_extent b ∷ b.extents) ++ l) (stack_is file most b.next bs s.2)

length_places : (bs : List StackBlock) → length (places_in bs) ≡ length bs
length_places [] = refl
length_places (b ∷ bs) = ap suc (length_places bs)

module _ (file : List ℕ) (most top : ℕ) (bs : List StackBlock) (whole : IsWholeStack file most top bs) where
  few_blocks : length bs ≤ length file
  few_blocks =
      let f = few (places_in bs) (length file) whole.distinct
      (all_of (λ x. x < length file) bs (λ k lt. let r = (right_at file most (place_at bs k) (right_here file most top bs whole.stack k lt)).1 in omega (arith, r))) in
      let l = length_places bs in
      omega (arith, f, l)

  none_at : (k : ℕ) → stack_fault_at file most top k ≡ None
  unfolding stack_fault_at is_other_block
  none_at k =
      let here = at_is file most top bs whole.stack k in
      elim (cases_lt k (length bs)) [
        | inl lt ↦
            unless_true _ _
            (or_right (stack_at file top k == 0) _
            (both_true _ _
            (all_below_from _ k
            (λ j below.
            let there = at_is file most top bs whole.stack j in
            let ne = two_differ bs whole.distinct j k below lt in
            differ (stack_at file top j) (stack_at file top k) (λ e. ne (sym there ∙ e ∙ here))))
            (rw here (right_here file most top bs whole.stack k lt))))
        | inr past ↦
            let z : stack_at file top k ≡ 0 = here ∙ place_past bs k past in
            unless_true _ _ (rw z refl)
      ]
    where
      or_right : (a b : Bool) → b ≡ true → (a || b) ≡ true
      or_right true b e = refl
      or_right false b e = e

      differ : (a b : ℕ) → a ≢ b → not (a == b) ≡ true
      differ a b ne = rw (not_same a b ne) refl

  places_are : stack_places file top ≡ places_in bs
  unfolding stack_places
  places_are =
      ap (filter (λ (at : ℕ). not (at == 0))) (list_below_same (stack_at file top) (place_at bs) (length file) (at_is file most top bs whole.stack))
      ∙ filter_places bs (length file) few_blocks
      (all_of (λ at. not (at == 0) ≡ true) bs (λ k lt. (right_at file most (place_at bs k) (right_here file most top bs whole.stack k lt)).0))

  pub shown : StackShown file most top bs
  unfolding stack_fault
  shown =
      record {
        fault = first_below_from (stack_fault_at file most top) (length file) (λ k lt. none_at k);
        places = places_are;
        extents = ap (λ (ps : List ℕ). extents_in (flat_map (stack_held file) ps)) places_are ∙ stack_is file most top bs whole.stack;
      }

-- ---- to blocks

-- a place that is 0, or none below n
zero_or : (f : ℕ → ℕ) (n : ℕ) → ((k : ℕ) × (k < n) × (f k ≡ 0)) ⊎ ((k : ℕ) → k < n → f k ≢ 0)
zero_or f zero = inr (λ k lt. absurd (omega arith))
zero_or f (suc n) =
    elim (zero_or f n) [
      | inl z ↦ let l = z.1 in inl (z.0, omega (arith, l), z.2)
      | inr none ↦
          bool_cases (f n == 0)
          (λ t. inl (n, omega arith, (Decides-eqb (f n) 0).0 t))
          (λ u. inr (λ k lt e.
          elim (cases_lt k n) [
            | inl below ↦ none k below e
            | inr last ↦ let same : k ≡ n = omega arith in let z : f n ≡ 0 = rw same at e in absurd (cc (u, (Decides-eqb (f n) 0).1 z))
          ]))
    ]

pairs_of : (f : ℕ → ℕ) (n : ℕ) → ((j k : ℕ) → j < k → k < n → f j ≢ f k) → AreDistinct (list_below n f)
pairs_of f zero h = tt
pairs_of f (suc n) h =
    rw (list_below_head f n)
    (each_of f 0 n (λ k lt e. h 0 (suc k) (omega arith) (omega arith) (sym e)), pairs_of (λ k. f (suc k)) n (λ j k lt below. h (suc j) (suc k) (omega arith) (omega arith)))
  where
    each_of : (f : ℕ → ℕ) (i m : ℕ) → ((k : ℕ) → k < m → f (suc k) ≢ f i) → AllByRecursion (λ y. y ≢ f i) (list_below m (λ k. f (suc k)))
    each_of f i m e = all_list_below (λ y. y ≢ f i) (λ k. f (suc k)) m e

module _ (file : List ℕ) (most : ℕ) where
  -- blocks from an address on, of which the last one is at most the one before the place n
  pub record Built (top n : ℕ) : Type 0 where
    pub blocks : List StackBlock
    pub stack : IsStack file most top blocks
    pub short : length blocks ≤ n

  build : (top n : ℕ) → ((k : ℕ) → k < n → stack_at file top k ≢ 0 → is_stack_block file most (stack_at file top k) ≡ true) → stack_at file top n ≡ 0 → Built top n
  build top zero good z = record { blocks = []; stack = z; short = omega arith }
  build top (suc n) good z =
      bool_cases (top == 0)
      (λ t. record { blocks = []; stack = (Decides-eqb top 0).0 t; short = omega arith })
      (λ f.
      let one : stack_at file top 1 ≡ next_at (bytes_at file top 16) = rw f refl in
      let rest =
      build (next_at (bytes_at file top 16)) n
      (λ k lt ne.
      let e : stack_at file top (suc k) ≡ stack_at file (next_at (bytes_at file top 16)) k = shift file top k ∙ ap (λ (t : ℕ). stack_at file t k) one in
      rw e at (good (suc k) (omega arith) (λ q. ne (sym e ∙ q))))
      (sym (ap (λ (t : ℕ). stack_at file t n) one) ∙ sym (shift file top n) ∙ z) in
      let short = rest.short in
      record {
        blocks = record { at = top; extents = extents_at (stack_block file top); next = next_at (bytes_at file top 16) } ∷ rest.blocks;
        stack = (refl, record { right = good 0 (omega arith) (λ e. cc (f, (Decides-eqb top 0).1 e)); extents = refl; next = refl }, rest.stack);
        short = omega (arith, short);
      })

  module _ (top : ℕ) (some : 0 < length file) (none : stack_fault file most top ≡ None) where
    passes : (k : ℕ) → k < length file → stack_at file top k ≢ 0 → (all_below k (is_other_block file top k) ≡ true) × (is_stack_block file most (stack_at file top k) ≡ true)
    unfolding stack_fault stack_fault_at
    passes k lt ne =
        let one = unless-none _ _ (first_below-none (stack_fault_at file most top) (length file) none k lt) in
        both (stack_at file top k == 0) _ _ one (not_same (stack_at file top k) 0 ne)
      where
        both : (z a b : Bool) → (z || (a && b)) ≡ true → z ≡ false → (a ≡ true) × (b ≡ true)
        both true a b h e = absurd cc
        both false a b h e = and-true a b h

    differ_at : (j k : ℕ) → j < k → k < length file → stack_at file top k ≢ 0 → stack_at file top j ≢ stack_at file top k
    unfolding is_other_block
    differ_at j k lt below ne e =
        let other = all_below-at (is_other_block file top k) k (passes k below ne).0 j lt in
        absurd (cc (is_false _ other, (Decides-eqb (stack_at file top j) (stack_at file top k)).1 e))

    ends_at : (n : ℕ) × (n < length file) × (stack_at file top n ≡ 0)
    ends_at =
        elim (zero_or (stack_at file top) (length file)) [
          | inl z ↦ z
          | inr all ↦
              let distinct = pairs_of (stack_at file top) (length file) (λ j k lt below. differ_at j k lt below (all k below)) in
              let below =
              all_list_below (λ x. x < length file - 1) (stack_at file top) (length file)
              (λ k lt. let r = (right_at file most (stack_at file top k) (passes k lt (all k lt)).1).1 in omega (arith, r)) in
              let f = few (list_below (length file) (stack_at file top)) (length file - 1) distinct below in
              let l = length-list_below (stack_at file top) (length file) in
              absurd (omega (arith, f, l, some))
        ]

    pub has_blocks : (blocks : List StackBlock) × IsWholeStack file most top blocks
    has_blocks =
        let e = ends_at in
        let lt = e.1 in
        let b = build top e.0 (λ k below ne. (passes k (omega (arith, lt, below)) ne).1) e.2 in
        let short = b.short in (
          b.blocks,
          record {
            stack = b.stack;
            distinct =
                distinct_of b.blocks
                (λ j k below last same.
                let here = at_is file most top b.blocks b.stack k in
                let there = at_is file most top b.blocks b.stack j in
                let right = (right_at file most (place_at b.blocks k) (right_here file most top b.blocks b.stack k last)).0 in
                differ_at j k below (omega (arith, short, lt, last)) (λ z. cc (right, (Decides-eqb (place_at b.blocks k) 0).1 (sym here ∙ z))) (there ∙ same ∙ sym here));
          },
        )

-- ---- blocks whose bytes are apart

covered : (e : Extent) (es : List Extent) (b : ℕ) → has_byte e b ≡ true → cover (e ∷ es) b ≡ 1 + cover es b
covered e es b h = rw h refl

block_covers : (b : StackBlock) (bs : List StackBlock) (x : ℕ) → x ≡ b.at → 1 + cover (stack_extents bs) x ≤ cover (stack_extents (b ∷ bs)) x
block_covers b bs x e =
    let a = cover-append (block_extent b ∷ b.extents) (stack_extents bs) x in
    let h = has_in b.at (avail_size (length b.extents)) x (omega (arith, e)) (omega (arith, e)) in
    let c = covered (block_extent b) b.extents x h in
    omega (arith, a, c)

rest_covers : (b : StackBlock) (bs : List StackBlock) (x : ℕ) → cover (stack_extents bs) x ≤ cover (stack_extents (b ∷ bs)) x
rest_covers b bs x = let a = cover-append (block_extent b ∷ b.extents) (stack_extents bs) x in omega (arith, a)

distinct_blocks : (bs : List StackBlock) → IsOnce (stack_extents bs) → AreDistinct (places_in bs)
distinct_blocks [] once = tt
distinct_blocks (b ∷ bs) once = (
  others b bs (λ some. let o = once b.at in let a = block_covers b bs b.at refl in omega (arith, o, a, some)),
  distinct_blocks bs (λ x. let o = once x in let a = rest_covers b bs x in omega (arith, o, a)),
)
  where
    others : (b : StackBlock) (cs : List StackBlock) → (0 < cover (stack_extents cs) b.at → ⊥) → AllByRecursion (λ y. y ≢ b.at) (places_in cs)
    others b [] free = tt
    others b (c ∷ cs) free = (
      λ same. free (let a = block_covers c cs b.at (sym same) in omega (arith, a)),
      others b cs (λ some. free (let a = rest_covers c cs b.at in omega (arith, a, some))),
    )

pub distinct_apart : (bs : List StackBlock) → IsOnce (stack_extents bs) → AreDistinct (places_in bs)
distinct_apart = distinct_blocks
