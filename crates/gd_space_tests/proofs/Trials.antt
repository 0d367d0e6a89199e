-- A take and a give keep what a row of them needs.
use Rattle.std.proofs.Common.{◌≡◌, ℕ, ◌+◌, ◌-◌, ◌^◌, ◌<◌, ◌≤◌, List, [], ◌∷◌, ◌++◌, length, get_or, sym, ap, subst, ◌∙◌, inl, inr, arith}
use Rattle.std.specs.List.{AllByRecursion, remove}
use Rattle.std.proofs.lemmas.Bool.{cases_lt}
use Rattle.std.proofs.lemmas.Bool.Decides.{nat_tests}
use Rattle.gd_format.specs.declared.Header.{Header}
use Rattle.gd_format.specs.declared.Extent.{Extent}
use Rattle.gd_format.specs.Headers.{IsHeader}
use Rattle.gd_format.specs.Bucket.{Bucket}
use Rattle.gd_format.specs.Sound.{extent}
use Rattle.gd_format.specs.Covers.{cover}
use Rattle.gd_format.specs.FreeSide.{IsBelow, free_extents}
use Rattle.gd_format.proofs.Covers.{cover-append, cover-remove, all-append}
use Rattle.gd_layout.specs.Fits.{FitsHeader}
use Rattle.gd_space.specs.Held.{HeldSpace}
use Rattle.gd_space.specs.Effect.{CanBeGiven}
use Rattle.gd_space.specs.Calls.{Done, Gave, free_lists}
use Rattle.gd_space.specs.SpaceLaws.{IsApart}
use Rattle.gd_space.proofs.Changes.{stays_apart}
use Rattle.gd_space.proofs.Elements.{all-at, all-remove}
use Rattle.gd_space.proofs.Sides.{cover-in}
use Rattle.gd_vault.specs.Views.{View}
use Rattle.gd_space_tests.specs.Trial.{FitsTrial}

-- ---- the header

header_next : (h h' : Header) → h' ≡ record h { next_block = h'.next_block } → h'.next_block ≤ 2 ^ 46 → IsHeader h → FitsHeader h → IsHeader h' × FitsHeader h'
header_next h h' e le is fits =
    subst (λ (g : Header). IsHeader g × FitsHeader g) (sym e) (
      record { block = is.block; bits = is.bits; dir = is.dir; elems = is.elems; next_block = le; least = is.least; most = is.most },
      record { format = fits.format; block = fits.block; dir = fits.dir; bits = fits.bits; elems = fits.elems; next_block = omega (arith, le); avail_size = fits.avail_size; words = fits.words },
    )

block_kept : (h h' : Header) → h' ≡ record h { next_block = h'.next_block } → h'.block ≡ h.block
block_kept h h' e = ap (λ (g : Header). g.block) e

size_kept : (h h' : Header) → h' ≡ record h { next_block = h'.next_block } → h'.avail_size ≡ h.avail_size
size_kept h h' e = ap (λ (g : Header). g.avail_size) e

-- ---- extents that end before a place

below_more : (next next' : ℕ) (es : List Extent) → next ≤ next' → AllByRecursion (IsBelow next) es → AllByRecursion (IsBelow next') es
below_more next next' [] le all = tt
below_more next next' (e ∷ es) le all =
    let ends = all.0.ends in (
      record { start = all.0.start; some = all.0.some; fits = all.0.fits; ends = omega (arith, ends, le) },
      below_more next next' es le all.1,
    )

-- their bytes stand behind the first one
start_some : (next b : ℕ) (es : List Extent) → AllByRecursion (IsBelow next) es → 0 < cover es b → 0 < b
start_some next b [] all some = absurd (omega arith)
start_some next b (e ∷ es) all some =
    elim (cases_lt 0 (cover es b)) [
      | inl later ↦ start_some next b es all.1 later
      | inr none ↦
          let start = all.0.start in
          let here : 0 < cover (extent e.at e.size ∷ []) b = omega (arith, some, none) in
          let in_ = cover-in e.at e.size b here in
          omega (arith, start, in_)
    ]

first_byte : (at n : ℕ) → 0 < n → cover (extent at n ∷ []) at ≡ 1
first_byte at n some = grind (arith, nat_tests)

last_byte : (at n : ℕ) → 0 < n → cover (extent at n ∷ []) (at + n - 1) ≡ 1
last_byte at n some = grind (arith, nat_tests)

-- ---- a take

module _ (old new : View) (f : ℕ) (h h' : Header) (s s' : HeldSpace) (b b' : Bucket) (used : List Extent) (at n : ℕ) (fits : FitsTrial old f h s b used) (done : Done old new f h h' s.table.next_block s'.table.next_block s.table.extents b.free s'.table.extents b'.free [] (extent at n ∷ []) 32) (is : h' ≡ record h { next_block = h'.next_block }) (le : h'.next_block ≤ 2 ^ 46) (few : length s'.table.extents ≤ h.avail_size) (block : s'.block ≡ s.block) (slots : b'.slots ≡ b.slots) (some : 0 < n) (small : n < 2 ^ 31) where
  pub took : FitsTrial new f h' s' b' (used ++ extent at n ∷ [])
  took =
      let was = fits.free in
      let a = done was.content was.file was.blocks was.told was.there was.side in
      let moves = a.change.moves in
      let grows = moves.grows in
      let free = free_extents (free_lists s.table.extents was.blocks b.free) in
      let free' = free_extents (free_lists s'.table.extents a.blocks b'.free) in
      let apart = stays_apart (cover used) (free_extents (free_lists s.table.extents was.blocks b.free)) (free_extents (free_lists s'.table.extents a.blocks b'.free)) [] (extent at n ∷ []) h.next_block h'.next_block 32 moves was.apart in
      let heads = header_next h h' is le fits.header fits.fields in
      let ends : at + n ≤ h'.next_block = (let last = last_byte at n some in let q = apart.below (at + n - 1) (omega (arith, last)) in omega (arith, q, some)) in
      let start : 0 < at =
      (let one = first_byte at n some in
      let m = moves.bytes at in
      elim (cases_lt 0 (cover free at)) [
        | inl there ↦ start_some h.next_block at free was.side.below there
        | inr none ↦
            let in_grown : 0 < cover (extent h.next_block (h'.next_block - h.next_block) ∷ []) at = omega (arith, one, m, none) in
            let q = cover-in h.next_block (h'.next_block - h.next_block) at in_grown in
            let behind = was.side.behind in
            omega (arith, q, behind)
      ]) in
      let lists : (x : ℕ) → cover (used ++ extent at n ∷ []) x ≡ cover used x + cover (extent at n ∷ []) x = cover-append used (extent at n ∷ []) in
      record {
        header = heads.0;
        fields = heads.1;
        small = block_kept h h' is ∙ fits.small;
        block = block ∙ fits.block ∙ sym (block_kept h h' is);
        fits = (let e = size_kept h h' is in omega (arith, e, few));
        slots = ap length slots ∙ fits.slots;
        free = record {
          content = a.content;
          file = a.file;
          told = a.told;
          there = a.there;
          blocks = a.blocks;
          side = a.change.side;
          apart = record {
            once = λ x. let o = apart.once x in let l = lists x in omega (arith, o, l);
            below = λ x many. apart.below x (let l = lists x in omega (arith, l, many));
          };
        };
        below = all-append (IsBelow h'.next_block) used (extent at n ∷ []) (below_more h.next_block h'.next_block used grows fits.below) (record { start = start; some = some; fits = small; ends = ends }, tt);
      }

-- ---- a give

module _ (old new : View) (f : ℕ) (h h' : Header) (s s' : HeldSpace) (b b' : Bucket) (used : List Extent) (i : ℕ) (e : Extent) (fits : FitsTrial old f h s b used) (gave : Gave old new f h h' s.table.next_block s'.table.next_block s.table.extents b.free s'.table.extents b'.free e) (is : h' ≡ record h { next_block = h'.next_block }) (le : h'.next_block ≤ 2 ^ 46) (few : length s'.table.extents ≤ h.avail_size) (block : s'.block ≡ s.block) (slots : b'.slots ≡ b.slots) (lt : i < length used) (there : e ≡ get_or used i e) where
  pub gave_back : FitsTrial new f h' s' b' (remove used i)
  gave_back =
      let was = fits.free in
      let a = gave was.content was.file was.blocks was.told was.there was.side in
      let moves = a.given.moves in
      let grows = moves.grows in
      let free = free_extents (free_lists s.table.extents was.blocks b.free) in
      let here : IsBelow h.next_block e = subst (λ (x : Extent). IsBelow h.next_block x) (sym there) (all-at e (IsBelow h.next_block) used i lt fits.below) in
      let split : (x : ℕ) → cover (remove used i) x + cover (e ∷ []) x ≡ cover used x = λ x. ap (λ (k : Extent). cover (remove used i) x + cover (k ∷ []) x) there ∙ cover-remove e used i x lt in
      let given : IsApart (cover (remove used i)) (free_extents (free_lists s.table.extents was.blocks b.free)) (e ∷ []) h.next_block = record {
        once = λ x. let o = was.apart.once x in let l = split x in omega (arith, o, l);
        below = λ x many. was.apart.below x (let l = split x in omega (arith, l, many));
      } in
      let apart = stays_apart (cover (remove used i)) (free_extents (free_lists s.table.extents was.blocks b.free)) (free_extents (free_lists s'.table.extents a.blocks b'.free)) (e ∷ []) [] h.next_block h'.next_block 32 moves given in
      let can : CanBeGiven h.next_block (free_extents (free_lists s.table.extents was.blocks b.free)) e = record {
        start = λ some. here.start;
        fits = here.fits;
        ends = here.ends;
        once = λ x. let o = given.once x in omega (arith, o);
      } in
      let heads = header_next h h' is le fits.header fits.fields in
      record {
        header = heads.0;
        fields = heads.1;
        small = block_kept h h' is ∙ fits.small;
        block = block ∙ fits.block ∙ sym (block_kept h h' is);
        fits = (let q = size_kept h h' is in omega (arith, q, few));
        slots = ap length slots ∙ fits.slots;
        free = record { content = a.content; file = a.file; told = a.told; there = a.there; blocks = a.blocks; side = a.given.side can; apart = apart };
        below = below_more h.next_block h'.next_block (remove used i) grows (all-remove (IsBelow h.next_block) used i fits.below);
      }

-- what the extent in use is
pub used_below : (next : ℕ) (used : List Extent) (i : ℕ) (e : Extent) → i < length used → e ≡ get_or used i e → AllByRecursion (IsBelow next) used → IsBelow next e
used_below next used i e lt there all = subst (λ (x : Extent). IsBelow next x) (sym there) (all-at e (IsBelow next) used i lt all)
