-- The start of a row: a new file of block 512.
use Rattle.std.proofs.Common.{◌≡◌, ℕ, ◌*◌, ◌^◌, ◌<◌, ◌≤◌, List, [], ◌∷◌, length, Option, Some, None, refl, sym, ap, subst, ◌∙◌, inl, inr, arith}
use Rattle.std.proofs.Math.Pow.{pow_mono}
use Rattle.std.proofs.lemmas.Bool.{cases_lt}
use Rattle.gd_base.specs.declared.errors.Format.{Format}
use Rattle.gd_base.specs.declared.errors.Format.TheVariants.{Standard}
use Rattle.gd_format.specs.declared.Header.{Header}
use Rattle.gd_format.specs.declared.Extent.{Extent}
use Rattle.gd_format.specs.Avail.{Avail, avail_at}
use Rattle.gd_format.specs.Bucket.{Bucket}
use Rattle.gd_format.specs.Sound.{extent, most_of, table_of}
use Rattle.gd_format.specs.Covers.{cover}
use Rattle.gd_format.specs.FreeSide.{IsFreeSide, free_extents}
use Rattle.gd_space.specs.Held.{HeldSpace}
use Rattle.gd_space.specs.Calls.{free_lists}
use Rattle.gd_space.specs.SpaceLaws.{IsApart}
use Rattle.gd_space.proofs.Changes.{cover-one}
use Rattle.gd_space.proofs.Sides.{cover-in}
use Rattle.gd_memvault.specs.Memory.{MemState, memory_told}
use Rattle.gd_memvault.specs.Log.{told_of}
use Rattle.gd_memvault.specs.LogData.{LogData}
use Rattle.gd_memvault.specs.DiskData.{DiskData}
use Rattle.gd_vault.specs.Content.{File, Content}
use Rattle.gd_vault.specs.Views.{View, HasFile, IsAt, content_of}
use Rattle.gd_create.specs.NewFile.{IsNewBlock, IsNewHeader, new_header, new_file}
use Rattle.gd_create.specs.Stands.{Stands}
use Rattle.gd_create.proofs.News.{is_new, length-new}
use Rattle.gd_create.proofs.Powers.{is_header, fits}
use Rattle.gd_space_tests.specs.Trial.{FitsTrial}

-- a vault in memory tells its content
pub tells : (m : MemState) → (c : Content) × (content_of (memory_told m) ≡ Some c)
tells m = by m.disk m.log
  where
    by : (d : DiskData) (log : Option LogData) → (c : Content) × (content_of (told_of d log) ≡ Some c)
    by d None = (_, refl)
    by d (Some l) = (_, refl)

pub is_512 : IsNewBlock 512 6
is_512 = record { least = omega arith; most = omega arith; size = refl }

six_bits : (bits : ℕ) → 6 ≤ bits → 512 ≡ 8 * 2 ^ bits → bits ≡ 6
six_bits bits least e =
    elim (cases_lt 6 bits) [
      | inl more ↦ let up : 2 ^ 7 ≤ 2 ^ bits = pow_mono {i = 7} {j = bits} (omega (arith, more)) in absurd (omega (arith, up, e))
      | inr not ↦ omega (arith, least, not)
    ]

pub header_512 : (h : Header) (size : ℕ) → IsNewHeader h → h.format ≡ Standard → h.block ≡ size → 512 ≤ size → size ≤ 512 → h ≡ new_header Standard 512 6
header_512 h size is format block low high =
    let e : h.block ≡ 512 = omega (arith, block, low, high) in
    let bits : h.dir_bits ≡ 6 = six_bits h.dir_bits is.sizes.least (sym e ∙ is.sizes.size) in
    is.fields ∙ ap (λ (k : Format). new_header k h.block h.dir_bits) format ∙ ap (λ (n : ℕ). new_header Standard n h.dir_bits) e ∙ ap (new_header Standard 512) bits

-- the bytes of the file that was made
pub made_bytes : (m : MemState) (v w : View) (f : ℕ) (h : Header) → v.told ≡ memory_told m → h ≡ new_header Standard 512 6 → HasFile v f → IsAt v (λ c. (x : File) → c.files f ≡ Some x → x.bytes ≡ [])
    → ((x : File) → Stands v f x → x.bytes ≡ [] → Stands w f (record x { bytes = new_file h.format h.block h.dir_bits })) → IsAt w (λ c. (x : File) → c.files f ≡ Some x → x.bytes ≡ new_file Standard 512 6)
unfolding new_header
made_bytes m v w f h same e has empty made c told x there =
    let t = tells m in
    let was : content_of v.told ≡ Some t.0 = ap content_of same ∙ t.1 in
    let y = has t.0 was in
    let s = made y.0 (record { content = t.0; told = was; there = y.1 }) (empty t.0 was y.0 y.1) in
    let one : s.content ≡ c = (let whole : Some s.content ≡ Some c = sym s.told ∙ told in cc) in
    let two : record y.0 { bytes = new_file h.format h.block h.dir_bits } ≡ x = (let whole : Some (record y.0 { bytes = new_file h.format h.block h.dir_bits }) ≡ Some x = sym s.there ∙ ap (λ (k : Content). k.files f) one ∙ there in cc) in
    ap (λ (k : File). k.bytes) (sym two) ∙ ap (λ (g : Header). new_file g.format g.block g.dir_bits) e

-- ---- the free side

abbrev first_free : List Extent
first_free = extent 1536 512 ∷ []

first_inside : (b : ℕ) → 0 < cover first_free b → b < 2048
first_inside b some = let q = cover-in 1536 512 b some in omega (arith, q)

new_side : (bytes : List ℕ) → length bytes ≡ 1536 → IsFreeSide bytes (new_header Standard 512 6) 0 (free_lists [] [] first_free)
unfolding new_header
new_side bytes long = record {
  behind = omega arith;
  short = omega (arith, long);
  stack = refl;
  below = (record { start = omega arith; some = omega arith; fits = omega arith; ends = omega arith }, tt);
  once = λ b. cover-one 1536 512 b;
}

side_of : (bytes : List ℕ) (table : Avail) (bucket : List Extent) (room : ℕ) → length bytes ≡ 1536 → table ≡ record { extents = []; next_block = 0; room = room } → bucket ≡ first_free → IsFreeSide bytes (new_header Standard 512 6) table.next_block (free_lists table.extents [] bucket)
side_of bytes table bucket room long e k =
    subst (λ (t : Avail). IsFreeSide bytes (new_header Standard 512 6) t.next_block (free_lists t.extents [] bucket)) (sym e)
    (subst (λ (l : List Extent). IsFreeSide bytes (new_header Standard 512 6) 0 (free_lists [] [] l)) (sym k) (new_side bytes long))

apart_of : (table : Avail) (bucket : List Extent) (room : ℕ) → table ≡ record { extents = []; next_block = 0; room = room } → bucket ≡ first_free → IsApart (cover []) (free_extents (free_lists table.extents [] bucket)) [] 2048
apart_of table bucket room e k =
    let all : free_extents (free_lists table.extents [] bucket) ≡ first_free = ap (λ (t : Avail). free_extents (free_lists t.extents [] bucket)) e ∙ k in
    subst (λ (l : List Extent). IsApart (cover []) l [] 2048) (sym all) (record {
      once = λ b. let o = cover-one 1536 512 b in omega (arith, o);
      below = λ b some. first_inside b (omega (arith, some));
    })

pub starts : (m : MemState) (v : View) (f : ℕ) (s : HeldSpace) (b : Bucket) → v.told ≡ memory_told m → HasFile v f → IsAt v (λ c. (x : File) → c.files f ≡ Some x → x.bytes ≡ new_file Standard 512 6)
    → s.block ≡ 512 → IsAt v (λ c. (x : File) → c.files f ≡ Some x → s.table ≡ avail_at (table_of x.bytes (new_header Standard 512 6)) (most_of (new_header Standard 512 6))) → b.free ≡ first_free → length b.slots ≡ 16
    → FitsTrial v f (new_header Standard 512 6) s b []
unfolding new_header
starts m v f s b same has bytes block table free slots =
    let t = tells m in
    let told : content_of v.told ≡ Some t.0 = ap content_of same ∙ t.1 in
    let y = has t.0 told in
    let is = bytes t.0 told y.0 y.1 in
    let long : length y.0.bytes ≡ 1536 = ap (λ (l : List ℕ). length l) is ∙ length-new Standard 512 6 is_512 in
    let room : ℕ = most_of (new_header Standard 512 6) in
    let empty : s.table ≡ record { extents = []; next_block = 0; room = most_of (new_header Standard 512 6) } =
    table t.0 told y.0 y.1 ∙ ap (λ (l : List ℕ). avail_at (table_of l (new_header Standard 512 6)) (most_of (new_header Standard 512 6))) is ∙ (is_new Standard 512 6 is_512).table (most_of (new_header Standard 512 6)) in
    let none : length s.table.extents ≡ 0 = ap (λ (a : Avail). length a.extents) empty in
    record {
      header = is_header Standard 512 6 is_512;
      fields = fits Standard 512 6 is_512;
      small = refl;
      block = block;
      fits = omega (arith, none);
      slots = slots;
      free = record {
        content = t.0;
        file = y.0;
        told = told;
        there = y.1;
        blocks = [];
        side = side_of y.0.bytes s.table b.free (most_of (new_header Standard 512 6)) long empty free;
        apart = apart_of s.table b.free (most_of (new_header Standard 512 6)) empty free;
      };
      below = tt;
    }

-- the same after the table was read, for the header that was made
pub starts_at : (m : MemState) (u v : View) (f : ℕ) (h : Header) (s : HeldSpace) (b : Bucket) (used : List Extent) → u.told ≡ memory_told m → v.told ≡ u.told → h ≡ new_header Standard 512 6 → used ≡ [] → HasFile u f
    → IsAt u (λ c. (x : File) → c.files f ≡ Some x → x.bytes ≡ new_file Standard 512 6) → s.block ≡ h.block → IsAt u (λ c. (x : File) → c.files f ≡ Some x → s.table ≡ avail_at (table_of x.bytes h) (most_of h)) → b.free ≡ first_free → length b.slots ≡ 16
    → FitsTrial v f h s b used
unfolding new_header
starts_at m u v f h s b used same asks e none has bytes block table free slots =
    let back : (k : Content) → content_of v.told ≡ Some k → content_of u.told ≡ Some k = λ k told. ap content_of (sym asks) ∙ told in
    subst (λ (l : List Extent). FitsTrial v f h s b l) (sym none)
    (subst (λ (g : Header). FitsTrial v f g s b []) (sym e)
    (starts m v f s b (asks ∙ same) (λ k told. has k (back k told)) (λ k told. bytes k (back k told)) (block ∙ ap (λ (g : Header). g.block) e)
    (λ k told x there. table k (back k told) x there ∙ ap (λ (g : Header). avail_at (table_of x.bytes g) (most_of g)) e) free slots))
