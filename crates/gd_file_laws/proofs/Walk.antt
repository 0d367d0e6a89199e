-- What the walk over the directory tells of each entry.
use Rattle.std.proofs.Common.{◌≡◌, ℕ, zero, suc, ◌+◌, ◌-◌, ◌*◌, ◌/◌, ◌%◌, ◌<◌, ◌≤◌, ◌↔◌, true, leb, List, length, None, refl, sym, ap, ◌∙◌, inl, inr, arith}
use Rattle.std.proofs.lemmas.Bool.{cases_lt, cases_order}
use Rattle.std.proofs.lemmas.Bool.Decides.{Decides-int_eq, Decides-eqb, nat_tests}
use Rattle.std.proofs.lemmas.Nat.{pow_pos, div-mul-add, div-add-mod'}
use Rattle.gd_format.specs.declared.Header.{Header}
use Rattle.gd_base.specs.declared.errors.DbError.TheVariants.{BadHashTable}
use Rattle.gd_format.specs.First.{or_else, unless, first_below}
use Rattle.gd_format.specs.HeaderFault.{natural, is_within, header_of}
use Rattle.gd_format.specs.File.{IsReadable, file_fault, front_of, dir_fault, entry_at, entries_of, entries_fault, entry_fault, is_block_in, run_fault, is_other_entry, run_at, block_of, slots_fault, slot_fault, reach_fault, is_slot_right, are_counts_right, is_count_right, is_first, is_reached, is_full_at}
use Rattle.gd_format.proofs.Firsts.{or_else-none, unless-none, and-true, not_or-true, first_below-none, all_below-at}
use Rattle.gd_file_laws.specs.Parts.{IsDirRight, IsSlotRight, IsBucketRight, HasParts, HasReadableParts}

leb-true : (a b : ℕ) → leb a b ≡ true → a ≤ b
leb-true a b h = grind (arith, nat_tests)

-- what no refusal at an entry says
pub record Starts (file : List ℕ) (h : Header) (s : ℕ) : Type 0 where
  pub block_fits : h.block ≤ length file
  pub in_file : is_within (entry_at file h s) 0 (length file - h.block) ≡ true
  pub first : is_first file h s ≡ true
  pub counts : are_counts_right h (block_of file h s) ≡ true
  pub multiple : s % run_at file h s ≡ 0
  pub same : (j : ℕ) → j < run_at file h s → entry_at file h (s + j) ≡ entry_at file h s
  pub slots : slots_fault file h.elems (block_of file h s) (natural (entry_at file h s)) (s / run_at file h s) ≡ None

module _ (file : List ℕ) (h : Header) where
  pub run_pos : (i : ℕ) → 0 < run_at file h i
  unfolding run_at
  run_pos i = pow_pos _

  pub starts : (s : ℕ) → entry_fault file h s ≡ None → Starts file h s
  unfolding entry_fault is_block_in run_fault
  starts s none =
      let a = or_else-none _ _ none in
      let b = or_else-none _ _ a.1 in
      let c = or_else-none _ _ b.1 in
      let d = or_else-none _ _ c.1 in
      let e = or_else-none _ _ d.1 in
      let f = or_else-none _ _ e.1 in
      let fits = and-true _ _ (unless-none _ _ a.0) in
      record {
        block_fits = leb-true _ _ fits.0;
        in_file = fits.1;
        first = unless-none _ _ b.0;
        counts = unless-none _ _ c.0;
        multiple = (Decides-eqb _ _).0 (unless-none _ _ d.0);
        same = λ j lt. (Decides-int_eq _ _).0 (unless-none _ _ (first_below-none (run_fault file h s) (run_at file h s) e.0 j lt));
        slots = f.0;
      }

  -- each entry is in a run that was judged
  pub walk_covers : (n covered i : ℕ) → entries_fault file h n covered i ≡ None → (k : ℕ) → i + covered ≤ k → k < i + n → (s : ℕ) × (s ≤ k) × (k < s + run_at file h s) × (entry_fault file h s ≡ None)
  walk_covers zero covered i none k low high = absurd (omega arith)
  walk_covers (suc n) (suc covered) i none k low high = walk_covers n covered (i + 1) none k (omega arith) (omega arith)
  walk_covers (suc n) zero i none k low high =
      let both = or_else-none (entry_fault file h i) (entries_fault file h n (run_at file h i - 1) (i + 1)) none in
      let positive = run_pos i in
      elim (cases_lt k (i + run_at file h i)) [
        | inl inside ↦ (i, omega arith, inside, both.0)
        | inr past ↦ walk_covers n (run_at file h i - 1) (i + 1) both.1 k (omega arith) (omega arith)
      ]

  -- a number in the run of r numbers from s on
  pub same_run : (s k r : ℕ) → s % r ≡ 0 → s ≤ k → k < s + r → k / r ≡ s / r
  same_run s k r multiple low high =
      let whole : s / r * r + s % r ≡ s = div-add-mod' s r in
      let at : s / r * r + (k - s) ≡ k = omega (arith, whole, multiple) in
      rw (← at) (div-mul-add (s / r) r (k - s) (omega arith))

  -- a number of the same run lies in it
  pub in_run : (s k r : ℕ) → 0 < r → s % r ≡ 0 → k / r ≡ s / r → (s ≤ k) × (k < s + r)
  in_run s k r positive multiple e =
      let whole : s / r * r + s % r ≡ s = div-add-mod' s r in
      let other : k / r * r + k % r ≡ k = div-add-mod' k r in
      let rest : k % r < r = omega arith in
      let product : k / r * r ≡ s / r * r = ap (λ (x : ℕ). x * r) e in
      (omega (arith, whole, other, product), omega (arith, whole, other, product, rest))

  -- an entry and the start of its run
  pub record Covered (k : ℕ) : Type 0 where
    pub s : ℕ
    pub low : s ≤ k
    pub high : k < s + run_at file h s
    pub judged : Starts file h s

  pub covered : dir_fault file h ≡ None → (k : ℕ) → k < entries_of h → Covered k
  unfolding dir_fault
  covered none k lt =
      let w = walk_covers (entries_of h) 0 0 none k (omega arith) (omega arith) in
      record { s = w.0; low = w.1; high = w.2; judged = starts w.0 w.3 }

  module _ (k : ℕ) (c : Covered k) where
    pub entry_is : entry_at file h k ≡ entry_at file h c.s
    entry_is =
        let low = c.low in
        let high = c.high in
        let at : c.s + (k - c.s) ≡ k = omega arith in
        let e = c.judged.same (k - c.s) (omega arith) in
        rw at at e

    pub block_is : block_of file h k ≡ block_of file h c.s
    unfolding block_of
    block_is = rw entry_is refl

    run_is : run_at file h k ≡ run_at file h c.s
    unfolding run_at
    run_is = rw block_is refl

    top_is : k / run_at file h k ≡ c.s / run_at file h c.s
    top_is = rw run_is (same_run c.s k (run_at file h c.s) c.judged.multiple c.low c.high)

  pub first_tells : (s t : ℕ) → is_first file h s ≡ true → t < s → entry_at file h t ≡ entry_at file h s → ⊥
  unfolding is_first is_other_entry
  first_tells s t first lt e =
      let differs = all_below-at _ s first t lt in
      let same = (Decides-int_eq (entry_at file h t) (entry_at file h s)).1 e in
      absurd (cc (differs, same))

  pub same_start : (s t : ℕ) → is_first file h s ≡ true → is_first file h t ≡ true → entry_at file h t ≡ entry_at file h s → t ≡ s
  same_start s t fs ft e =
      elim (cases_order t s) [
        | inl same ↦ same
        | inr other ↦ elim other [ inl lt ↦ absurd (first_tells s t fs lt e) | inr gt ↦ absurd (first_tells t s ft gt (sym e)) ]
      ]

  module _ (none : dir_fault file h ≡ None) where
    one_run : (i j : ℕ) → i < entries_of h → j < entries_of h → (entry_at file h j ≡ entry_at file h i) ↔ (j / run_at file h i ≡ i / run_at file h i)
    one_run i j li lj =
        let ci = covered none i li in
        let cj = covered none j lj in
        let run_i = run_is i ci in
        let same_entry : entry_at file h j ≡ entry_at file h i → j / run_at file h i ≡ i / run_at file h i =
        λ e.
        let starts_same : cj.s ≡ ci.s = same_start ci.s cj.s ci.judged.first cj.judged.first (sym (entry_is j cj) ∙ e ∙ entry_is i ci) in
        let low : ci.s ≤ j = rw starts_same at cj.low in
        let high : j < ci.s + run_at file h ci.s = rw starts_same at cj.high in
        rw run_i (same_run ci.s j (run_at file h ci.s) ci.judged.multiple low high ∙ sym (same_run ci.s i (run_at file h ci.s) ci.judged.multiple ci.low ci.high)) in
        let same_top : j / run_at file h i ≡ i / run_at file h i → entry_at file h j ≡ entry_at file h i =
        λ e.
        let at : j / run_at file h ci.s ≡ ci.s / run_at file h ci.s = (rw run_i at e) ∙ same_run ci.s i (run_at file h ci.s) ci.judged.multiple ci.low ci.high in
        let inside = in_run ci.s j (run_at file h ci.s) (run_pos ci.s) ci.judged.multiple at in
        let place : ci.s + (j - ci.s) ≡ j = omega (arith, inside) in
        let e2 = ci.judged.same (j - ci.s) (omega (arith, inside, place)) in
        let same : entry_at file h j ≡ entry_at file h ci.s = rw place at e2 in
        same ∙ sym (entry_is i ci) in
        (same_entry, same_top)

    dir_right : 0 < entries_of h → IsDirRight file h
    dir_right some =
        record {
          block_fits = (covered none 0 some).judged.block_fits;
          in_file = λ i lt. let c = covered none i lt in rw (entry_is i c) c.judged.in_file;
          one_run = one_run;
        }

  slot_right : (block : List ℕ) (top s : ℕ) → is_slot_right file block top s ≡ true → IsSlotRight file block top s
  unfolding is_slot_right
  slot_right block top s e =
      let a = and-true _ _ e in
      let b = and-true _ _ a.0 in
      let c = and-true _ _ b.0 in
      record { fields = c.0; record_in = c.1; key = b.1; new = a.1 }

  slot_judged : (block : List ℕ) (at top s : ℕ) → slot_fault file block at top s ≡ None → is_full_at block s ≡ true → IsSlotRight file block top s
  unfolding slot_fault
  slot_judged block at top s e full = slot_right block top s (not_or-true _ _ (unless-none _ _ e) full)

  reach_judged : (block : List ℕ) (at s : ℕ) → reach_fault block h.elems at s ≡ None → is_full_at block s ≡ true → is_reached block h.elems s ≡ true
  unfolding reach_fault
  reach_judged block at s e full = not_or-true _ _ (unless-none _ _ e) full

  bucket_right : (block : List ℕ) (at top : ℕ) → are_counts_right h block ≡ true → slots_fault file h.elems block at top ≡ None → IsBucketRight file h block top
  unfolding slots_fault
  bucket_right block at top counts none =
      let slots = first_below h.elems (slot_fault file block at top) in
      let reaches = first_below h.elems (reach_fault block h.elems at) in
      let a = or_else-none (unless (is_count_right block h.elems) (BadHashTable at)) (or_else slots (or_else reaches None)) none in
      let b = or_else-none slots (or_else reaches None) a.1 in
      let c = or_else-none reaches None b.1 in
      record {
        counts = counts;
        count = unless-none _ _ a.0;
        slots = λ s lt full. slot_judged block at top s (first_below-none (slot_fault file block at top) h.elems b.0 s lt) full;
        reached = λ s lt full. reach_judged block at s (first_below-none (reach_fault block h.elems at) h.elems c.0 s lt) full;
      }

  pub has_parts : dir_fault file h ≡ None → HasParts file h
  has_parts none =
      record {
        dir = dir_right none (pow_pos h.dir_bits);
        buckets =
            λ i lt.
            let c = covered none i lt in
            rw (top_is i c, block_is i c) (bucket_right (block_of file h c.s) (natural (entry_at file h c.s)) (c.s / run_at file h c.s) c.judged.counts c.judged.slots);
      }

pub readable : (file : List ℕ) → IsReadable file → HasReadableParts file
unfolding file_fault
readable file none =
    let both = or_else-none _ _ none in
    record { header = both.0; parts = has_parts file (header_of (front_of file)) both.1 }
