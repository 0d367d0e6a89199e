-- Room that was taken.
use Rattle.std.proofs.Common.{◌≡◌, ℕ, ◌+◌, ◌-◌, ◌<◌, ◌≤◌, List, [], ◌∷◌, ◌++◌, ap, subst, ◌∙◌, inl, inr, arith}
use Rattle.std.specs.List.{AllByRecursion}
use Rattle.std.proofs.lemmas.Bool.Decides.{nat_tests}
use Rattle.gd_format.specs.declared.Extent.{Extent}
use Rattle.gd_format.specs.Covers.{cover, size_sum}
use Rattle.gd_format.specs.Sound.{extent}
use Rattle.gd_format.specs.FreeSide.{IsBelow, FreeLists, free_extents, stack_extents}
use Rattle.gd_space.specs.Effect.{grown, Moves, LiesInOne}
use Rattle.gd_space.specs.Lists.{Served, Step, Took}
use Rattle.gd_format.proofs.Covers.{cover-append, size_sum-append, cover-split, all-append, all-left, all-right}

pub below-more : (next next' : ℕ) (xs : List Extent) → next ≤ next' → AllByRecursion (IsBelow next) xs → AllByRecursion (IsBelow next') xs
below-more next next' [] le h = tt
below-more next next' (x ∷ xs) le h =
    let ends = h.0.ends in
    (record { start = h.0.start; some = h.0.some; fits = h.0.fits; ends = omega (arith, ends, le) }, below-more next next' xs le h.1)

pub cover-empty : (at b : ℕ) → cover (extent at 0 ∷ []) b ≡ 0
cover-empty at b = grind (arith, nat_tests)

pub in_one-ends : (next : ℕ) (e : Extent) (xs : List Extent) → AllByRecursion (IsBelow next) xs → LiesInOne e xs → e.at + e.size ≤ next
in_one-ends next e [] below k = absurd k
in_one-ends next e (x ∷ xs) below (inl k) = let a = k.ends in let b = below.0.ends in omega (arith, a, b)
in_one-ends next e (x ∷ xs) below (inr k) = in_one-ends next e xs below.1 k

pub took_served : (next : ℕ) (table bucket table' bucket' : List Extent) (at n : ℕ) → 0 < n → AllByRecursion (IsBelow next) table → AllByRecursion (IsBelow next) bucket → Served next table bucket table' bucket' at n → Took next next table bucket table' bucket' at n
took_served next table bucket table' bucket' at n some below bucket_below s =
    let none : next - next ≡ 0 = omega arith in
    record {
      grows = omega arith;
      step = record {
        bytes = λ b. (let e = s.step.bytes b in let z : cover (grown next next) b ≡ 0 = ap (λ (k : ℕ). cover (extent next k ∷ []) b) none ∙ cover-empty next b in omega (arith, e, z));
        sum = let e = s.step.sum in omega (arith, e, none);
        table_below = s.step.table_below;
        bucket_below = s.step.bucket_below;
      };
      place = inl s.inside;
      ends = in_one-ends next (extent at n) (table ++ bucket) (all-append (IsBelow next) table bucket below bucket_below) s.inside;
    }

-- new room of n bytes and a rest, which is put into one of the lists
pub took_grown : (next n rest : ℕ) (table bucket table' bucket' : List Extent) → Step (next + n + rest) table bucket table' bucket' (extent (next + n) rest ∷ []) [] → Took next (next + n + rest) table bucket table' bucket' next n
took_grown next n rest table bucket table' bucket' s =
    let size : next + n + rest - next ≡ n + rest = omega arith in
    record {
      grows = omega arith;
      step = record {
        bytes =
            λ b.
            let e = s.bytes b in
            let two : cover (grown next (next + n + rest)) b ≡ cover (extent next n ∷ []) b + cover (extent (next + n) rest ∷ []) b =
            ap (λ (k : ℕ). cover (extent next k ∷ []) b) size ∙ cover-split next n rest b in
            omega (arith, e, two);
        sum = let e = s.sum in omega (arith, e, size);
        table_below = s.table_below;
        bucket_below = s.bucket_below;
      };
      place = inr (omega arith);
      ends = omega arith;
    }

-- new room of exactly n bytes
pub took_whole : (next n : ℕ) (table bucket : List Extent) → AllByRecursion (IsBelow (next + n)) table → AllByRecursion (IsBelow (next + n)) bucket → Took next (next + n) table bucket table bucket next n
took_whole next n table bucket below bucket_below =
    let size : next + n - next ≡ n = omega arith in
    record {
      grows = omega arith;
      step = record {
        bytes = λ b. (let one : cover (grown next (next + n)) b ≡ cover (extent next n ∷ []) b = ap (λ (k : ℕ). cover (extent next k ∷ []) b) size in omega (arith, one));
        sum = omega (arith, size);
        table_below = below;
        bucket_below = bucket_below;
      };
      place = inr (omega arith);
      ends = omega arith;
    }

pub took_put : (next n whole : ℕ) (e : Extent) (table bucket table' bucket' : List Extent) → n ≤ whole → e.at ≡ next + n → e.size ≡ whole - n → Step (next + whole) table bucket table' bucket' (e ∷ []) [] → Took next (next + whole) table bucket table' bucket' next n
took_put next n whole e table bucket table' bucket' le at size s =
    let all : next + n + (whole - n) ≡ next + whole = omega arith in
    let same : e ≡ extent (next + n) (whole - n) = ap (λ (k : ℕ). extent k e.size) at ∙ ap (extent (next + n)) size in
    let step : Step (next + n + (whole - n)) table bucket table' bucket' (extent (next + n) (whole - n) ∷ []) [] = rw (all, ← same) s in
    let took = took_grown next n (whole - n) table bucket table' bucket' step in
    rw (← all) took

pub took_exact : (next n whole : ℕ) (table bucket : List Extent) → n ≤ whole → whole - n ≤ 0 → AllByRecursion (IsBelow next) table → AllByRecursion (IsBelow next) bucket → Took next (next + whole) table bucket table bucket next n
took_exact next n whole table bucket le none below bucket_below =
    let same : n ≡ whole = omega (arith, le, none) in
    let took = took_whole next n table bucket (below-more next (next + n) table (omega arith) below) (below-more next (next + n) bucket (omega arith) bucket_below) in
    subst (λ k. Took next (next + k) table bucket table bucket next n) same took

pub cover-side : (s : FreeLists) (b : ℕ) → cover (free_extents s) b ≡ cover s.table b + cover (stack_extents s.blocks) b + cover s.bucket b
cover-side s b = let one = cover-append (s.table ++ stack_extents s.blocks) s.bucket b in let two = cover-append s.table (stack_extents s.blocks) b in omega (arith, one, two)

pub size_sum-side : (s : FreeLists) → size_sum (free_extents s) ≡ size_sum s.table + size_sum (stack_extents s.blocks) + size_sum s.bucket
size_sum-side s = let one = size_sum-append (s.table ++ stack_extents s.blocks) s.bucket in let two = size_sum-append s.table (stack_extents s.blocks) in omega (arith, one, two)

-- what is taken from the table, the bucket and new room moves so much of the whole free side
pub took_moves : (next next' : ℕ) (s s' : FreeLists) (at n : ℕ) → s'.blocks ≡ s.blocks → Took next next' s.table s.bucket s'.table s'.bucket at n → Moves (free_extents s) (free_extents s') next next' [] (extent at n ∷ []) 32
took_moves next next' s s' at n same t =
    let grows = t.grows in
    let sum = t.step.sum in
    let old = size_sum-side s in
    let new = size_sum-side s' in
    let stack = ap (λ x. size_sum (stack_extents x)) same in
    record {
      grows = grows;
      bytes =
          λ b.
          let e = t.step.bytes b in
          let o = cover-side s b in
          let n_ = cover-side s' b in
          let k = ap (λ x. cover (stack_extents x) b) same in
          omega (arith, e, o, n_, k);
      least = omega (arith, sum, old, new, stack, grows);
      most = omega (arith, sum, old, new, stack, grows);
    }

pub took_below : (next next' : ℕ) (s s' : FreeLists) (at n : ℕ) → s'.blocks ≡ s.blocks → Took next next' s.table s.bucket s'.table s'.bucket at n → AllByRecursion (IsBelow next) (free_extents s) → AllByRecursion (IsBelow next') (free_extents s')
took_below next next' s s' at n same t below =
    let front = all-left (IsBelow next) (s.table ++ stack_extents s.blocks) s.bucket below in
    let stack = all-right (IsBelow next) s.table (stack_extents s.blocks) front in
    let stack_more = below-more next next' (stack_extents s.blocks) t.grows stack in
    all-append (IsBelow next') (s'.table ++ stack_extents s'.blocks) s'.bucket
    (all-append (IsBelow next') s'.table (stack_extents s'.blocks) t.step.table_below (rw same stack_more)) t.step.bucket_below
