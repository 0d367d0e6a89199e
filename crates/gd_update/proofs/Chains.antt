-- From call to call within a split and a doubling.
use Rattle.std.proofs.Common.{◌≡◌, ℕ, ◌+◌, ◌-◌, ◌*◌, ◌^◌, ◌<◌, ◌≤◌, true, List, [], ◌∷◌, length, Some, refl, ap, subst, ◌∙◌, inl, inr, arith}
use Rattle.std.specs.Prelude.{ℤ, pos, negsuc}
use Rattle.std.proofs.lemmas.Bool.{cases_lt}
use Rattle.gd_format.specs.declared.Extent.{Extent}
use Rattle.gd_format.specs.declared.Header.{Header}
use Rattle.gd_format.specs.HeaderFault.{natural, is_within, dir_size_of}
use Rattle.gd_format.specs.Bucket.{Bucket, is_from_zero}
use Rattle.gd_format.specs.File.{entry_at, entries_of}
use Rattle.gd_format.specs.FreeSide.{FreeLists, IsFreeSide}
use Rattle.gd_format.specs.Sound.{extent}
use Rattle.gd_file_laws.specs.Frame.{written}
use Rattle.gd_map_laws.proofs.Stays.{within_ends}
use Rattle.gd_map_laws.proofs.Put.{written_size}
use Rattle.gd_space.specs.Effect.{Change, Given}
use Rattle.gd_update.specs.Held.{IsHeld, IsBucketOf, Holds, HasBucket, index_at}
use Rattle.gd_update.specs.Steps.{Steps, KeepsBuckets}
use Rattle.gd_open.proofs.Files.{told_before}
use Rattle.gd_space.specs.Calls.{free_lists}
use Rattle.gd_vault.specs.Frame.{Within, OneFile, NoName}
use Rattle.gd_update.specs.Places.{IsCopyPlace}
use Rattle.gd_update.specs.Runs.{IsDoubled}
use Rattle.gd_update.specs.SplitLaws.{doubled, DoubleMade}
use Rattle.gd_update.proofs.SplitParts.{index_in}
use Rattle.gd_update.proofs.DoubleParts.{apart, ends, old_entries}
use Rattle.gd_vault.specs.Content.{File, Content}
use Rattle.gd_vault.specs.Views.{View, HasFile, content_of}

-- a vault tells one content, and that one file
pub one_file : (v : View) (f : ℕ) (c d : Content) (x y : File) → content_of v.told ≡ Some c → c.files f ≡ Some x → content_of v.told ≡ Some d → d.files f ≡ Some y → x ≡ y
one_file v f c d x y tc fc td fd = let same : c ≡ d = cc (tc, td) in cc (same, fc, fd)

-- the bucket of a hash lies in the file
pub bucket_in : (file : List ℕ) (h : Header) (top : ℕ) (s : FreeLists) (hash at : ℕ) (bucket : Bucket) → IsHeld file h top s → hash < 2 ^ 31 → IsBucketOf file h hash at bucket → at + h.block ≤ length file
bucket_in file h top s hash at bucket held small is =
    let li = index_in h hash held.file_is.bits small in
    let e = within_ends (entry_at file h (index_at h hash)) (length file - h.block) (held.file_is.parts.dir.in_file (index_at h hash) li) in
    let fits = held.file_is.parts.dir.block_fits in
    let same = ap natural is.entry in
    omega (arith, e, fits, same)

from_zero : (z : ℤ) (n : ℕ) → is_within z 0 n ≡ true → is_from_zero z ≡ true
from_zero (pos m) n e = refl
from_zero (negsuc m) n e = absurd cc

-- the directory may be copied to the room that was taken
pub copy_place : (old mid : List ℕ) (h h1 : Header) (top top1 : ℕ) (s s1 : FreeLists) (at : ℕ) (held : IsHeld old h top s) (taken : Change old mid h h1 top top1 s s1 [] (extent at (2 * dir_size_of h.dir_bits) ∷ []) 32) → h1.next_block ≤ 2 ^ 46 → IsCopyPlace mid h.dir at (entries_of h)
copy_place old mid h h1 top top1 s s1 at held taken low =
    let d = held.file_is.dir in
    let longer = taken.keeps.longer in
    let e = ends old mid h h1 top top1 s s1 at held taken in
    record {
      inside = omega (arith, d, longer);
      right = λ k lt. ap is_from_zero (old_entries old mid h h1 top top1 s s1 at held taken k lt) ∙ from_zero (entry_at old h k) (length old - h.block) (held.file_is.parts.dir.in_file k lt);
      apart = (elim (cases_lt at (h.dir + 8 * entries_of h)) [
        | inr past ↦ inl past
        | inl before ↦ elim (cases_lt h.dir (at + 16 * entries_of h)) [
          | inr behind ↦ inr behind
          | inl meets ↦ elim (cases_lt at h.dir) [
            | inl first ↦ absurd (apart old mid h h1 top top1 s s1 at held taken h.dir (omega arith) (omega (arith, before, first)) (omega (arith, first)) (omega (arith, meets)))
            | inr other ↦ absurd (apart old mid h h1 top top1 s s1 at held taken at other before (omega arith) (omega (arith, before, other, meets)))
          ]
        ]
      ]);
      low = omega (arith, e, low);
    }

-- the free side does not speak of the directory
pub side_doubled : (file : List ℕ) (h : Header) (top at : ℕ) (s : FreeLists) → IsFreeSide file h top s → IsFreeSide file (doubled h at) top s
side_doubled file h top at s side = record { behind = side.behind; short = side.short; stack = side.stack; below = side.below; once = side.once }

pub double_made : (old mid copied new : List ℕ) (h h1 h2 : Header) (top top1 top2 : ℕ) (s s1 s2 : FreeLists) (at n count : ℕ) → n ≡ dir_size_of h.dir_bits → count ≡ entries_of h → IsHeld old h top s → h.dir_bits < 24
    → Change old mid h h1 top top1 s s1 [] (extent at (2 * n) ∷ []) 32 → h1 ≡ record h { next_block = h1.next_block } → IsDoubled h.dir at count mid copied
    → Given copied new (doubled h1 at) h2 top1 top2 s1 s2 (extent h.dir n) → h2 ≡ record (doubled h1 at) { next_block = h2.next_block } → DoubleMade old mid copied new h h1 h2 top top1 top2 s s1 s2 at
double_made old mid copied new h h1 h2 top top1 top2 s s1 s2 at n count en ec held less taken header copy given end = record {
  held = held;
  less = less;
  taken = subst (λ (k : ℕ). Change old mid h h1 top top1 s s1 [] (extent at (2 * k) ∷ []) 32) en taken;
  header = header;
  copy = subst (λ (k : ℕ). IsDoubled h.dir at k mid copied) ec copy;
  given = subst (λ (k : ℕ). Given copied new (doubled h1 at) h2 top1 top2 s1 s2 (extent h.dir k)) en given;
  end = end;
}

-- what lay in the file before a taking and two writes lies in it afterwards
pub run_inside : (x : List ℕ) (a t u y : File) (at other : ℕ) (one two : List ℕ) (n : ℕ) → length x ≤ length a.bytes → t.bytes ≡ written a.bytes other two → u.bytes ≡ written t.bytes at one → u ≡ y → n ≤ length x → n ≤ length y.bytes
run_inside x a t u y at other one two n longer te ue same inside =
    let p = written_size a.bytes other two in
    let q = written_size t.bytes at one in
    let e = ap (λ (z : List ℕ). length z) te in
    let f = ap (λ (z : List ℕ). length z) ue in
    let g = ap (λ (z : File). length z.bytes) same in
    omega (arith, p, q, e, f, g, longer, inside)

-- what is required of the file holds again after a step
pub holds_after : (u v : View) (f : ℕ) (h h' : Header) (top top' : ℕ) (table loose table' loose' : List Extent) (more : ℕ) (P : List ℕ → Type 0) → Within (OneFile f) NoName u v → HasFile u f → Holds u f h top table loose → Steps u v f h h' top top' table loose table' loose' more P → Holds v f h' top' table' loose'
holds_after u v f h h' top top' table loose table' loose' more P w has holds steps c y told there =
    let b = told_before u v f w has c told in
    let held = holds b.0 b.1 b.2 b.3 in
    let a = steps b.0 b.1 held.0 b.2 b.3 held.1 in
    let one = one_file v f a.content c a.file y a.told a.there told there in
    (a.blocks, subst (λ (z : File). IsHeld z.bytes h' top' (free_lists table' a.blocks loose')) one a.step.held)

pub buckets_after : (u v : View) (f : ℕ) (h h' : Header) (top top' : ℕ) (table loose table' loose' : List Extent) (more : ℕ) (P : List ℕ → Type 0) → Within (OneFile f) NoName u v → HasFile u f → Holds u f h top table loose → Steps u v f h h' top top' table loose table' loose' more P
    → (c : Content) (y : File) → content_of v.told ≡ Some c → c.files f ≡ Some y → P y.bytes
buckets_after u v f h h' top top' table loose table' loose' more P w has holds steps c y told there =
    let b = told_before u v f w has c told in
    let held = holds b.0 b.1 b.2 b.3 in
    let a = steps b.0 b.1 held.0 b.2 b.3 held.1 in
    let one = one_file v f a.content c a.file y a.told a.there told there in
    subst (λ (z : File). P z.bytes) one a.buckets

-- the bucket of a hash stays where it was
pub bucket_stays : (u v : View) (f : ℕ) (h h' : Header) (top top' : ℕ) (table loose table' loose' : List Extent) (more : ℕ) → Within (OneFile f) NoName u v → HasFile u f → Holds u f h top table loose
    → Steps u v f h h' top top' table loose table' loose' more (λ file. KeepsBuckets u f h file h') → (hash at : ℕ) (bucket : Bucket) → hash < 2 ^ 31 → HasBucket u f h hash at bucket → HasBucket v f h' hash at bucket
bucket_stays u v f h h' top top' table loose table' loose' more w has holds steps hash at bucket small is c y told there =
    let b = told_before u v f w has c told in
    buckets_after u v f h h' top top' table loose table' loose' more (λ file. KeepsBuckets u f h file h') w has holds steps c y told there hash at bucket small b.0 b.1 b.2 b.3 (is b.0 b.1 b.2 b.3)
