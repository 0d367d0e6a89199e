-- Sums over bytes, and free extents in lists.
use Rattle.std.proofs.Common.{◌≡◌, ℕ, zero, suc, ◌+◌, ◌-◌, ◌≤◌, List, [], ◌++◌, sym, ap, ◌∙◌, inl, inr, arith}
use Rattle.std.specs.List.{AllByRecursion}
use Rattle.std.proofs.lemmas.Bool.{cases_lt}
use Rattle.gd_format.specs.declared.Extent.{Extent}
use Rattle.gd_format.specs.declared.Header.{Header}
use Rattle.gd_format.specs.Covers.{cover, size_sum}
use Rattle.gd_format.specs.FreeSide.{FreeLists, IsBelow, IsFreeSide, free_extents, stack_extents}
use Rattle.gd_format.proofs.Covers.{cover-append, size_sum-append, all-append, all-left, all-right}
use Rattle.gd_map_laws.specs.Space.{all_cover, IsSpaceRight}
use Rattle.gd_map_laws.specs.Frame.{KeepsBut}
use Rattle.gd_space.specs.Calls.{free_lists}
use Rattle.gd_space.specs.Effect.{Keeps}
use Rattle.gd_space.proofs.Sides.{cover-past}
use Rattle.gd_map_laws.specs.Sums.{sum_below}
use Rattle.gd_map_laws.proofs.Sums.{cover_sum}

-- where nothing is from m on
sum_past : (f : ℕ → ℕ) (m k : ℕ) → ((b : ℕ) → m ≤ b → f b ≡ 0) → sum_below f (m + k) ≡ sum_below f m
sum_past f m zero none = ap (sum_below f) (let e : m + 0 ≡ m = omega arith in e)
sum_past f m (suc k) none =
    let ih = sum_past f m k none in
    let z = none (m + k) (omega arith) in
    let e : m + suc k ≡ suc (m + k) = omega arith in
    ap (sum_below f) e ∙ (let s : sum_below f (suc (m + k)) ≡ sum_below f (m + k) = omega (arith, z) in s ∙ ih)

-- all that is counted lies before the end of space
pub sum_all : (file : List ℕ) (h : Header) (next n : ℕ) (pool : List Extent) → IsSpaceRight file h next pool → next ≤ n → sum_below (all_cover file h pool) n ≡ sum_below (all_cover file h pool) next
sum_all file h next n pool right le =
    let e : next + (n - next) ≡ n = omega arith in
    ap (sum_below (all_cover file h pool)) (sym e)
    ∙ sum_past (all_cover file h pool) next (n - next)
    (λ b past. elim (cases_lt 0 (all_cover file h pool b)) [ inl some ↦ let l = right.below b some in absurd (omega (arith, l, past)) | inr none ↦ omega (arith, none) ])

-- lists of free extents below a place, by their sizes
pub below_sum : (next : ℕ) (es : List Extent) → AllByRecursion (IsBelow next) es → sum_below (cover es) next ≡ size_sum es
below_sum next es below =
    cover_sum es next (λ b some. elim (cases_lt b next) [ inl lt ↦ lt | inr past ↦ let z = cover-past next es b below past in absurd (omega (arith, z, some)) ])

pub cover_lists : (s : FreeLists) (b : ℕ) → cover (free_extents s) b ≡ cover s.table b + cover (stack_extents s.blocks) b + cover s.bucket b
cover_lists s b =
    let a = cover-append (s.table ++ stack_extents s.blocks) s.bucket b in
    let c = cover-append s.table (stack_extents s.blocks) b in
    omega (arith, a, c)

pub size_lists : (s : FreeLists) → size_sum (free_extents s) ≡ size_sum s.table + size_sum (stack_extents s.blocks) + size_sum s.bucket
size_lists s =
    let a = size_sum-append (s.table ++ stack_extents s.blocks) s.bucket in
    let c = size_sum-append s.table (stack_extents s.blocks) in
    omega (arith, a, c)

abbrev pub without : FreeLists → FreeLists
without s = free_lists s.table s.blocks []

pub cover_without : (s : FreeLists) (b : ℕ) → cover (free_extents (without s)) b + cover s.bucket b ≡ cover (free_extents s) b
cover_without s b = let a = cover_lists s b in let c = cover_lists (without s) b in omega (arith, a, c)

pub size_without : (s : FreeLists) → size_sum (free_extents (without s)) + size_sum s.bucket ≡ size_sum (free_extents s)
size_without s = let a = size_lists s in let c = size_lists (without s) in omega (arith, a, c)

pub below_bucket : (next : ℕ) (s : FreeLists) → AllByRecursion (IsBelow next) (free_extents s) → AllByRecursion (IsBelow next) s.bucket
below_bucket next s below = all-right (IsBelow next) (s.table ++ stack_extents s.blocks) s.bucket below

pub below_without : (next : ℕ) (s : FreeLists) → AllByRecursion (IsBelow next) (free_extents s) → AllByRecursion (IsBelow next) (free_extents (without s))
below_without next s below = all-append (IsBelow next) (s.table ++ stack_extents s.blocks) [] (all-left (IsBelow next) (s.table ++ stack_extents s.blocks) s.bucket below) tt

-- the loose extents go out of the free side
pub side_without : (file : List ℕ) (h : Header) (top : ℕ) (s : FreeLists) → IsFreeSide file h top s → IsFreeSide file h top (without s)
side_without file h top s side = record {
  behind = side.behind;
  short = side.short;
  stack = side.stack;
  below = below_without h.next_block s side.below;
  once = λ b. let o = side.once b in let c = cover_without s b in omega (arith, o, c);
}

-- what free space alone changes
pub keeps_free : (free given : List Extent) (old new : List ℕ) → given ≡ [] → Keeps (free ++ given) old new → KeepsBut (cover free) old new
keeps_free free given old new none keeps = record {
  longer = keeps.longer;
  bytes = λ at n fits clear. keeps.bytes at n fits (λ b low high. let z = clear b low high in let a = cover-append free given b in let e = ap (λ (l : List Extent). cover l b) none in omega (arith, z, a, e));
}
