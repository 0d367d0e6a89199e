-- The stack stays where a write lies apart from its blocks.
use Rattle.std.proofs.Common.{◌≡◌, ℕ, ◌+◌, ◌-◌, ◌^◌, ◌<◌, ◌≤◌, Bool, true, false, not, ◌&&◌, List, [], ◌∷◌, length, take, drop, refl, sym, ap, subst, ◌∙◌, inl, inr, arith}
use Rattle.std.specs.Prelude.{nat_lt, nat_le, ◌==◌, ℤ, pos, negsuc}
use Rattle.std.proofs.lemmas.Bool.{cases_lt, le-leb, leb-true, ltb-true, lt-ltb}
use Rattle.std.proofs.lemmas.Bool.Decides.{nat_tests}
use Rattle.std.proofs.lemmas.List.{take-take, drop-take}
use Rattle.gd_format.specs.declared.Extent.{Extent}
use Rattle.gd_format.specs.Field.{bytes_at, number_of, i32_at, u32_at, i64_at, u64_at}
use Rattle.gd_format.specs.HeaderFault.{natural, is_within}
use Rattle.gd_format.proofs.Firsts.{and-true, both_true, length-list_below}
use Rattle.gd_format.specs.Covers.{cover}
use Rattle.gd_space.specs.Ranges.{AreApart}
use Rattle.gd_format.specs.Sound.{extent, is_stack_block, stack_block, stack_size}
use Rattle.gd_format.specs.FreeSide.{StackBlock, IsBlockOf, IsStack, stack_extents}
use Rattle.gd_format.specs.Avail.{Avail, avail_size, raw_avail_at, count_at, next_at, extents_at, is_avail, avail_at}
use Rattle.std.specs.List.{AllByRecursion}
use Rattle.gd_space.specs.Spells.{Spells, capacity_at}
use Rattle.gd_space.specs.Stacks.{KeepsBlock}
use Rattle.gd_format.proofs.Covers.{cover-append}
use Rattle.std.specs.Int.{w32, w64, cast_signed, cast_unsigned}

-- a piece of the front of a list
bytes_at-take : (m a n : ℕ) (xs : List ℕ) → a + n ≤ m → bytes_at (take m xs) a n ≡ bytes_at xs a n
bytes_at-take m a n xs h =
    let whole : a + (m - a) ≡ m = omega arith in
    ap (λ (k : ℕ). take n (drop a (take k xs))) (sym whole) ∙ ap (take n) (drop-take a (m - a) xs) ∙ take-take n (m - a) (drop a xs) (omega arith)

-- the count stands in the first bytes
pub count-take : (m : ℕ) (xs : List ℕ) → 8 ≤ m → count_at (take m xs) ≡ count_at xs
unfolding raw_avail_at i32_at u32_at
count-take m xs h = ap (λ (bs : List ℕ). cast_signed w32 (number_of bs)) (bytes_at-take m 4 4 xs h)

pub capacity-take : (m : ℕ) (xs : List ℕ) → 4 ≤ m → capacity_at (take m xs) ≡ capacity_at xs
unfolding raw_avail_at i32_at u32_at
capacity-take m xs h = ap (λ (bs : List ℕ). cast_signed w32 (number_of bs)) (bytes_at-take m 0 4 xs h)

pub next-take : (m : ℕ) (xs : List ℕ) → 16 ≤ m → next_at (take m xs) ≡ next_at xs
unfolding next_at raw_avail_at i64_at u64_at
next-take m xs h = ap (λ (bs : List ℕ). cast_unsigned w64 (cast_signed w64 (number_of bs))) (bytes_at-take m 8 8 xs h)

-- the parts of a block that was read
pub avail-extents : (block : List ℕ) (most : ℕ) → (avail_at block most).extents ≡ extents_at block
unfolding avail_at
avail-extents block most = refl

pub avail-next : (block : List ℕ) (most : ℕ) → (avail_at block most).next_block ≡ next_at block
unfolding avail_at
avail-next block most = refl

pub room-kept : (block : List ℕ) (read : Bool) (old new : Avail) → (read ≡ true → new ≡ avail_at block old.room) → (read ≡ false → new ≡ old) → new.room ≡ old.room
unfolding avail_at
room-kept block true old new yes_ no_ = ap (λ (a : Avail). a.room) (yes_ refl)
room-kept block false old new yes_ no_ = ap (λ (a : Avail). a.room) (no_ refl)

-- ranges whose bytes are in one of two extents at most are apart
common : (a n b m : ℕ) → 0 < n → 0 < m → a < b + m → b < a + n → ((x : ℕ) → cover (extent a n ∷ []) x + cover (extent b m ∷ []) x ≤ 1) → ⊥
common a n b m p q h k once =
    elim (cases_lt a b) [
      | inl below ↦ let o = once b in grind (arith, nat_tests, o)
      | inr above ↦ let o = once a in grind (arith, nat_tests, o)
    ]

pub apart_by_cover : (a n b m : ℕ) → 0 < n → 0 < m → ((x : ℕ) → cover (extent a n ∷ []) x + cover (extent b m ∷ []) x ≤ 1) → AreApart a n b m
apart_by_cover a n b m p q once =
    elim (cases_lt b (a + n)) [
      | inr before ↦ inl before
      | inl k ↦ elim (cases_lt a (b + m)) [ inr after ↦ inr after | inl h ↦ absurd (common a n b m p q h k once) ]
    ]

six : (a b c d e f : Bool) → (a && b && c && d && e && f) ≡ true → (a ≡ true) × (b ≡ true) × (c ≡ true) × (d ≡ true) × (e ≡ true) × (f ≡ true)
six true true true true true f h = (refl, refl, refl, refl, refl, h)
six true true true true false f h = absurd cc
six true true true false e f h = absurd cc
six true true false d e f h = absurd cc
six true false c d e f h = absurd cc
six false b c d e f h = absurd cc

six_true : (a b c d e f : Bool) → a ≡ true → b ≡ true → c ≡ true → d ≡ true → e ≡ true → f ≡ true → (a && b && c && d && e && f) ≡ true
six_true a b c d e f h i j k l m = rw (h, i, j, k, l, m) refl

-- the tests of a block, one by one
pub record IsRight (file : List ℕ) (most at : ℕ) (head body : List ℕ) : Type 0 where
  pub start : not (at == 0) ≡ true
  pub place : at < 2 ^ 63
  pub head_in : at + 16 ≤ length file
  pub few : is_within (count_at head) 0 most ≡ true
  pub body_in : at + avail_size (natural (count_at head)) ≤ length file
  pub avail : is_avail body most ≡ true

pub is_right : (file : List ℕ) (most at : ℕ) → is_stack_block file most at ≡ true → IsRight file most at (bytes_at file at 16) (stack_block file at)
unfolding is_stack_block stack_size
is_right file most at right =
    let t = six (not (at == 0)) (nat_lt at (2 ^ 63)) (nat_le (at + 16) (length file)) (is_within (count_at (bytes_at file at 16)) 0 most) (nat_le (at + avail_size (natural (count_at (bytes_at file at 16)))) (length file)) (is_avail (stack_block file at) most) right in
    record { start = t.0; place = ltb-true at (2 ^ 63) t.1; head_in = leb-true (at + 16) (length file) t.2; few = t.3; body_in = leb-true (at + avail_size (natural (count_at (bytes_at file at 16)))) (length file) t.4; avail = t.5 }

pub from_right : (file : List ℕ) (most at : ℕ) → IsRight file most at (bytes_at file at 16) (stack_block file at) → is_stack_block file most at ≡ true
unfolding is_stack_block stack_size
from_right file most at r =
    six_true (not (at == 0)) (nat_lt at (2 ^ 63)) (nat_le (at + 16) (length file)) (is_within (count_at (bytes_at file at 16)) 0 most) (nat_le (at + avail_size (natural (count_at (bytes_at file at 16)))) (length file)) (is_avail (stack_block file at) most)
    r.start (lt-ltb at (2 ^ 63) r.place) (le-leb (at + 16) (length file) r.head_in) r.few (le-leb (at + avail_size (natural (count_at (bytes_at file at 16)))) (length file) r.body_in) r.avail

right_same : (file file' : List ℕ) (most at : ℕ) → length file ≤ length file' → bytes_at file' at 16 ≡ bytes_at file at 16 → stack_block file' at ≡ stack_block file at → is_stack_block file most at ≡ true → is_stack_block file' most at ≡ true
right_same file file' most at longer head body right =
    let r = is_right file most at right in
    let one = r.head_in in
    let two = r.body_in in
    let longer_right : IsRight file' most at (bytes_at file at 16) (stack_block file at) = record { start = r.start; place = r.place; head_in = omega (arith, one, longer); few = r.few; body_in = omega (arith, two, longer); avail = r.avail } in
    from_right file' most at (subst (λ (x : List ℕ). IsRight file' most at x (stack_block file' at)) (sym head) (subst (λ (x : List ℕ). IsRight file' most at (bytes_at file at 16) x) (sym body) longer_right))

-- how many extents a block has is its count
count-is : (file : List ℕ) (most : ℕ) (b : StackBlock) → IsBlockOf file most b → natural (count_at (bytes_at file b.at 16)) ≡ length b.extents
unfolding stack_block stack_size
count-is file most b is =
    let k : ℕ = avail_size (natural (count_at (bytes_at file b.at 16))) in
    let whole : count_at (stack_block file b.at) ≡ count_at (drop b.at file) = count-take (avail_size (natural (count_at (bytes_at file b.at 16)))) (drop b.at file) (omega arith) in
    let head : count_at (bytes_at file b.at 16) ≡ count_at (drop b.at file) = count-take 16 (drop b.at file) (omega arith) in
    sym (ap (λ (x : List Extent). length x) is.extents ∙ length-list_below _ (natural (count_at (stack_block file b.at))) ∙ ap natural (whole ∙ sym head))

-- a file in which the bytes of the block are the same has it too
pub block_same : (file file' : List ℕ) (most : ℕ) → length file ≤ length file' → (b : StackBlock) → bytes_at file' b.at (avail_size (length b.extents)) ≡ bytes_at file b.at (avail_size (length b.extents)) → IsBlockOf file most b → IsBlockOf file' most b
unfolding stack_block stack_size
block_same file file' most longer b e is =
    let m : ℕ = avail_size (length b.extents) in
    let front : (f : List ℕ) → take 16 (bytes_at f b.at (avail_size (length b.extents))) ≡ bytes_at f b.at 16 = λ f. take-take 16 (avail_size (length b.extents)) (drop b.at f) (omega arith) in
    let head : bytes_at file' b.at 16 ≡ bytes_at file b.at 16 = sym (front file') ∙ ap (take 16) e ∙ front file in
    let count = count-is file most b is in
    let old : stack_block file b.at ≡ bytes_at file b.at (avail_size (length b.extents)) = ap (λ (k : ℕ). bytes_at file b.at (avail_size k)) count in
    let new : stack_block file' b.at ≡ bytes_at file' b.at (avail_size (length b.extents)) = ap (λ (x : List ℕ). bytes_at file' b.at (avail_size (natural (count_at x)))) head ∙ ap (λ (k : ℕ). bytes_at file' b.at (avail_size k)) count in
    let body : stack_block file' b.at ≡ stack_block file b.at = new ∙ e ∙ sym old in
    record {
      right = right_same file file' most b.at longer head body is.right;
      extents = is.extents ∙ ap extents_at (sym body);
      next = is.next ∙ ap next_at (sym head);
    }

pub within-le : (z : ℤ) (most : ℕ) → is_within z 0 most ≡ true → natural z ≤ most
within-le (pos n) most h = leb-true n most (and-true (nat_le 0 n) (nat_le n most) h).1
within-le (negsuc n) most h = omega arith

-- the block ends in the file, and has few extents
pub block_in : (file : List ℕ) (most : ℕ) (b : StackBlock) → IsBlockOf file most b → (b.at + avail_size (length b.extents) ≤ length file) × (length b.extents ≤ most)
block_in file most b is =
    let r = is_right file most b.at is.right in
    let body = r.body_in in
    let count = count-is file most b is in
    let few = within-le (count_at (bytes_at file b.at 16)) most r.few in
    (omega (arith, body, count), omega (arith, few, count))

-- the stack stays where n bytes are written apart from its blocks
pub stack_kept : (file file' : List ℕ) (most at n : ℕ) → 0 < n → length file ≤ length file' → ((a m : ℕ) → a + m ≤ length file → AreApart a m at n → bytes_at file' a m ≡ bytes_at file a m)
    → (top : ℕ) (blocks : List StackBlock) → ((x : ℕ) → cover (stack_extents blocks) x + cover (extent at n ∷ []) x ≤ 1) → IsStack file most top blocks → IsStack file' most top blocks
stack_kept file file' most at n some longer same top [] once is = is
stack_kept file file' most at n some longer same top (b ∷ bs) once is =
    let inside = (block_in file most b is.1).0 in
    let one : (x : ℕ) → cover (extent b.at (avail_size (length b.extents)) ∷ []) x + cover (extent at n ∷ []) x ≤ 1 = λ x. (let o = once x in let c = cover-append b.extents (stack_extents bs) x in omega (arith, o, c)) in
    let rest : (x : ℕ) → cover (stack_extents bs) x + cover (extent at n ∷ []) x ≤ 1 = λ x. (let o = once x in let c = cover-append b.extents (stack_extents bs) x in omega (arith, o, c)) in
    let apart = apart_by_cover b.at (avail_size (length b.extents)) at n (omega arith) some one in
    (is.0, block_same file file' most longer b (same b.at (avail_size (length b.extents)) inside apart) is.1, stack_kept file file' most at n some longer same b.next bs rest is.2)

-- the bytes of its blocks are the same then
pub blocks_kept : (file file' : List ℕ) (most at n : ℕ) → 0 < n → ((a m : ℕ) → a + m ≤ length file → AreApart a m at n → bytes_at file' a m ≡ bytes_at file a m)
    → (top : ℕ) (blocks : List StackBlock) → ((x : ℕ) → cover (stack_extents blocks) x + cover (extent at n ∷ []) x ≤ 1) → IsStack file most top blocks → AllByRecursion (KeepsBlock file file') blocks
blocks_kept file file' most at n some same top [] once is = tt
blocks_kept file file' most at n some same top (b ∷ bs) once is =
    let inside = (block_in file most b is.1).0 in
    let one : (x : ℕ) → cover (extent b.at (avail_size (length b.extents)) ∷ []) x + cover (extent at n ∷ []) x ≤ 1 = λ x. (let o = once x in let c = cover-append b.extents (stack_extents bs) x in omega (arith, o, c)) in
    let rest : (x : ℕ) → cover (stack_extents bs) x + cover (extent at n ∷ []) x ≤ 1 = λ x. (let o = once x in let c = cover-append b.extents (stack_extents bs) x in omega (arith, o, c)) in
    let apart = apart_by_cover b.at (avail_size (length b.extents)) at n (omega arith) some one in
    (same b.at (avail_size (length b.extents)) inside apart, blocks_kept file file' most at n some same b.next bs rest is.2)

pub blocks_same : (file : List ℕ) (blocks : List StackBlock) → AllByRecursion (KeepsBlock file file) blocks
blocks_same file [] = tt
blocks_same file (b ∷ bs) = (refl, blocks_same file bs)

-- a block that was written
pub new_block : (file' bs : List ℕ) (capacity most at next : ℕ) (extents : List Extent) → 0 < at → at < 2 ^ 63 → length extents ≤ most → Spells capacity extents next bs → bytes_at file' at (length bs) ≡ bs → bytes_at file' at 16 ≡ take 16 bs → at + length bs ≤ length file' → IsBlockOf file' most (record { at = at; extents = extents; next = next })
unfolding stack_block stack_size
new_block file' bs capacity most at next extents some small few spells own head ends =
    let count : natural (count_at (bytes_at file' at 16)) ≡ length extents = ap (λ (x : List ℕ). natural (count_at x)) head ∙ ap natural spells.count in
    let size : avail_size (natural (count_at (bytes_at file' at 16))) ≡ length bs = ap avail_size count ∙ sym spells.size in
    let body : stack_block file' at ≡ bs = ap (bytes_at file' at) size ∙ own in
    let sixteen : 16 ≤ length bs = (let s = spells.size in omega (arith, s)) in
    let within : is_within (count_at (bytes_at file' at 16)) 0 most ≡ true = rw head (rw spells.count (both_true (nat_le 0 (length extents)) (nat_le (length extents) most) (le-leb 0 (length extents) (omega arith)) (le-leb (length extents) most few))) in
    let avail : is_avail (stack_block file' at) most ≡ true = rw body (spells.right most few) in
    let positive : not (at == 0) ≡ true = grind (arith, nat_tests) in
    record {
      right = from_right file' most at (record { start = positive; place = small; head_in = omega (arith, ends, sixteen); few = within; body_in = omega (arith, size, ends); avail = avail });
      extents = sym spells.holds ∙ ap extents_at (sym body);
      next = sym spells.follows ∙ ap next_at (sym head);
    }
