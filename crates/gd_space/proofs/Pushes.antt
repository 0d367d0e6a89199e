-- Room that was taken while a block was pushed.
use Rattle.std.proofs.Common.{◌≡◌, ℕ, ◌+◌, ◌-◌, ◌<◌, ◌≤◌, List, [], ◌∷◌, ◌++◌, refl, sym, ap, ◌∙◌, ◌^◌, inl, inr, arith}
use Rattle.std.proofs.lemmas.Bool.{cases_lt}
use Rattle.std.proofs.lemmas.Bool.Decides.{nat_tests}
use Rattle.gd_space.proofs.Sides.{cover-past}
use Rattle.std.specs.List.{AllByRecursion}
use Rattle.gd_format.specs.declared.Extent.{Extent}
use Rattle.gd_format.specs.Covers.{cover}
use Rattle.gd_format.specs.Sound.{extent}
use Rattle.gd_format.specs.FreeSide.{IsBelow, FreeLists, free_extents, stack_extents}
use Rattle.gd_format.specs.declared.Header.{Header}
use Rattle.gd_space.specs.Effect.{grown, Change}
use Rattle.gd_space.specs.Lists.{Step, Split}
use Rattle.gd_format.proofs.Covers.{cover-split, cover-append, size_sum-append, all-append, all-left, all-right}
use Rattle.gd_space.proofs.Tooks.{below-more}

-- the block stands in the lists, and new room is what is taken and what is over
pub chosen_inside : (next n whole : ℕ) (e over : Extent) (table bucket table' bucket' : List Extent) → n ≤ whole → over.at ≡ next + n → over.size ≡ whole - n
    → Step next table bucket table' bucket' [] (e ∷ []) → Step (next + whole) table bucket table' bucket' (grown next (next + whole)) (extent next n ∷ e ∷ over ∷ [])
chosen_inside next n whole e over table bucket table' bucket' le at size s =
    let all : next + whole - next ≡ n + (whole - n) = omega arith in
    record {
      bytes =
          λ b.
          let m = s.bytes b in
          let two : cover (grown next (next + whole)) b ≡ cover (extent next n ∷ []) b + cover (over ∷ []) b =
          ap (λ (k : ℕ). cover (extent next k ∷ []) b) all ∙ cover-split next n (whole - n) b ∙ ap (λ (x : Extent). cover (extent next n ∷ []) b + cover (x ∷ []) b) (sym (ap (λ (k : ℕ). extent k over.size) at ∙ ap (extent (next + n)) size)) in
          omega (arith, m, two);
      sum = let m = s.sum in omega (arith, m, size, le);
      table_below = below-more next (next + whole) table' (omega arith) s.table_below;
      bucket_below = below-more next (next + whole) bucket' (omega arith) s.bucket_below;
    }

-- all is new room: what is taken, the block, and what is over
pub chosen_new : (next n wide whole : ℕ) (over : Extent) (table bucket : List Extent) → n + wide ≤ whole → over.at ≡ next + n + wide → over.size ≡ whole - n - wide
    → AllByRecursion (IsBelow next) table → AllByRecursion (IsBelow next) bucket → Step (next + whole) table bucket table bucket (grown next (next + whole)) (extent next n ∷ extent (next + n) wide ∷ over ∷ [])
chosen_new next n wide whole over table bucket le at size below bucket_below =
    let all : next + whole - next ≡ n + (wide + (whole - n - wide)) = omega arith in
    record {
      bytes =
          λ b.
          let over_is : over ≡ extent (next + n + wide) (whole - n - wide) = ap (λ (k : ℕ). extent k over.size) at ∙ ap (extent (next + n + wide)) size in
          let one : cover (grown next (next + whole)) b ≡ cover (extent next n ∷ []) b + cover (extent (next + n) (wide + (whole - n - wide)) ∷ []) b =
          ap (λ (k : ℕ). cover (extent next k ∷ []) b) all ∙ cover-split next n (wide + (whole - n - wide)) b in
          let two = cover-split (next + n) wide (whole - n - wide) b in
          let three = ap (λ (x : Extent). cover (x ∷ []) b) over_is in
          omega (arith, one, two, three);
      sum = omega (arith, size, le);
      table_below = below-more next (next + whole) table (omega arith) below;
      bucket_below = below-more next (next + whole) bucket (omega arith) bucket_below;
    }

-- no extent has byte 0
pub cover-zero : (next : ℕ) (xs : List Extent) → AllByRecursion (IsBelow next) xs → cover xs 0 ≡ 0
cover-zero next [] below = refl
cover-zero next (e ∷ es) below =
    let ih = cover-zero next es below.1 in
    let start = below.0.start in
    let one : cover (e ∷ []) 0 ≡ 0 = grind (arith, nat_tests) in
    omega (arith, ih, one)

covers-first : (at n : ℕ) → 0 < n → cover (extent at n ∷ []) at ≡ 1
covers-first at n h = grind (arith, nat_tests)

covers-last : (at n : ℕ) → 0 < n → cover (extent at n ∷ []) (at + n - 1) ≡ 1
covers-last at n h = grind (arith, nat_tests)

-- what was taken from extents lies where they lie
pub taken_below : (next : ℕ) (e : Extent) (table bucket table' bucket' : List Extent) → 0 < e.size → e.size < 2 ^ 31 → AllByRecursion (IsBelow next) table → AllByRecursion (IsBelow next) bucket → Step next table bucket table' bucket' [] (e ∷ []) → IsBelow next e
taken_below next e table bucket table' bucket' some fits below bucket_below s = record {
  start = (elim (cases_lt 0 e.at) [
    | inl positive ↦ positive
    | inr none ↦
        let zero_ : e.at ≡ 0 = omega arith in
        let b = s.bytes e.at in
        let c = covers-first e.at e.size some in
        let p = ap (λ (k : ℕ). cover table k) zero_ ∙ cover-zero next table below in
        let q = ap (λ (k : ℕ). cover bucket k) zero_ ∙ cover-zero next bucket bucket_below in
        absurd (omega (arith, b, c, p, q))
  ]);
  some = some;
  fits = fits;
  ends = (elim (cases_lt next (e.at + e.size)) [
    | inr inside ↦ inside
    | inl past ↦
        let b = s.bytes (e.at + e.size - 1) in
        let c = covers-last e.at e.size some in
        let p = cover-past next table (e.at + e.size - 1) below (omega arith) in
        let q = cover-past next bucket (e.at + e.size - 1) bucket_below (omega arith) in
        absurd (omega (arith, b, c, p, q))
  ]);
}

-- half of the table moves to the block, and what is over comes to the table
pub push_steps : (next : ℕ) (a e over : Extent) (table bucket one bucket' two spare new : List Extent) → Step next table bucket one bucket' new (a ∷ e ∷ over ∷ []) → Split next one two spare → IsBelow next over
    → Step next table bucket (two ++ over ∷ []) bucket' new (a ∷ e ∷ spare)
push_steps next a e over table bucket one bucket' two spare new s p below = record {
  bytes = λ b. (let x = s.bytes b in let y = p.bytes b in let z = cover-append two (over ∷ []) b in omega (arith, x, y, z));
  sum = let x = s.sum in let y = p.sum in let z = size_sum-append two (over ∷ []) in omega (arith, x, y, z);
  table_below = all-append (IsBelow next) two (over ∷ []) p.one_below (below, tt);
  bucket_below = s.bucket_below;
}

pub table_below : (next : ℕ) (s : FreeLists) → AllByRecursion (IsBelow next) (free_extents s) → AllByRecursion (IsBelow next) s.table
table_below next s h = all-left (IsBelow next) s.table (stack_extents s.blocks) (all-left (IsBelow next) (s.table ++ stack_extents s.blocks) s.bucket h)

pub bucket_below : (next : ℕ) (s : FreeLists) → AllByRecursion (IsBelow next) (free_extents s) → AllByRecursion (IsBelow next) s.bucket
bucket_below next s h = all-right (IsBelow next) (s.table ++ stack_extents s.blocks) s.bucket h

pub less_lost : {file file' : List ℕ} {h h' : Header} {top top' : ℕ} {s s' : FreeLists} {given taken : List Extent} (lost more : ℕ) → lost ≤ more → Change file file' h h' top top' s s' given taken lost → Change file file' h h' top top' s s' given taken more
less_lost lost more le c = record {
  side = c.side;
  keeps = c.keeps;
  moves = record { grows = c.moves.grows; bytes = c.moves.bytes; least = c.moves.least; most = (let m = c.moves.most in omega (arith, m, le)) };
}
