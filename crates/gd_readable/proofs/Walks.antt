-- What a walk over the directory of a readable file meets.
use Rattle.std.proofs.Common.{◌≡◌, ℕ, ◌+◌, ◌-◌, ◌/◌, ◌<◌, ◌≤◌, ◌≢◌, true, false, List, length, None, refl, sym, ap, ◌∙◌, inl, inr, arith}
use Rattle.std.specs.Prelude.{ℤ, pos, negsuc}
use Rattle.std.proofs.lemmas.Bool.{cases_eq, leb-true}
use Rattle.std.proofs.lemmas.Bool.Decides.{Decides-int_eq}
use Rattle.gd_format.specs.declared.Header.{Header}
use Rattle.gd_base.specs.declared.errors.DbError.TheVariants.{BadHashTable}
use Rattle.gd_format.specs.First.{or_else, unless, first_below}
use Rattle.gd_format.specs.HeaderFault.{natural, is_within, header_of}
use Rattle.gd_format.specs.Bucket.{raw_slot_at}
use Rattle.gd_format.specs.File.{file_fault, dir_fault, front_of, entry_at, entries_of, is_other_entry, run_at, block_of, slots_fault, slot_fault, reach_fault, are_fields_right, is_slot_right, is_record_in, is_count_right, is_first, is_full_at}
use Rattle.gd_file_laws.proofs.Walk.{covered, entry_is, block_is}
use Rattle.gd_format.proofs.Firsts.{or_else-none, unless-none, and-true, not_or-true, first_below-none, all_below_fails}

place_of : (z : ℤ) (block len at : ℕ) → block ≤ len → is_within z 0 (len - block) ≡ true → at ≡ natural z → (z ≡ pos at) × (at + block ≤ len)
place_of (pos n) block len at le within e = let both = and-true _ _ within in let low = leb-true n (len - block) both.1 in (ap pos (sym e), omega (arith, low, e))
place_of (negsuc n) block len at le within e = absurd cc

module _ (file : List ℕ) (h : Header) where
  -- ---- where an address comes first

  pub first_at_start : (i : ℕ) → i ≡ 0 → is_first file h i ≡ true
  unfolding is_first
  first_at_start i e = rw e refl

  pub not_first : (i : ℕ) → 0 < i → entry_at file h (i - 1) ≡ entry_at file h i → is_first file h i ≡ false
  unfolding is_first is_other_entry
  not_first i some e =
      let same = (Decides-int_eq (entry_at file h (i - 1)) (entry_at file h i)).1 e in
      all_below_fails (is_other_entry file h i) i (i - 1) (omega arith) (rw same refl)

  pub first_after : dir_fault file h ≡ None → (i : ℕ) → 0 < i → i < entries_of h → entry_at file h (i - 1) ≢ entry_at file h i → is_first file h i ≡ true
  first_after none i some lt differs =
      let c = covered file h none i lt in
      let low = c.low in
      let high = c.high in
      elim (cases_eq c.s i) [
        | inl same ↦ rw same at c.judged.first
        | inr before ↦
            let at : c.s + (i - 1 - c.s) ≡ i - 1 = omega arith in
            let e = c.judged.same (i - 1 - c.s) (omega arith) in
            let last : entry_at file h (i - 1) ≡ entry_at file h c.s = rw at at e in
            absurd (differs (last ∙ sym (entry_is file h i c)))
      ]

  -- ---- the bucket of an entry

  pub place_in : dir_fault file h ≡ None → (i : ℕ) → i < entries_of h → (h.block ≤ length file) × (is_within (entry_at file h i) 0 (length file - h.block) ≡ true)
  place_in none i lt =
      let c = covered file h none i lt in
      (c.judged.block_fits, rw (entry_is file h i c) c.judged.in_file)

  pub bucket_place : dir_fault file h ≡ None → (i : ℕ) → i < entries_of h → (at : ℕ) → at ≡ natural (entry_at file h i) → (entry_at file h i ≡ pos at) × (at + h.block ≤ length file)
  bucket_place none i lt at e =
      let in_file = place_in none i lt in
      place_of (entry_at file h i) h.block (length file) at in_file.0 in_file.1 e

  slot_judged : (block : List ℕ) (at top s : ℕ) → slot_fault file block at top s ≡ None → is_full_at block s ≡ true → is_slot_right file block top s ≡ true
  unfolding slot_fault
  slot_judged block at top s none full = not_or-true _ _ (unless-none _ _ none) full

  slots_judged : (block : List ℕ) (at top : ℕ) → slots_fault file h.elems block at top ≡ None → (s : ℕ) → s < h.elems → is_full_at block s ≡ true → is_slot_right file block top s ≡ true
  unfolding slots_fault
  slots_judged block at top none s lt full =
      let slots = first_below h.elems (slot_fault file block at top) in
      let reaches = first_below h.elems (reach_fault block h.elems at) in
      let a = or_else-none (unless (is_count_right block h.elems) (BadHashTable at)) (or_else slots (or_else reaches None)) none in
      let b = or_else-none slots (or_else reaches None) a.1 in
      slot_judged block at top s (first_below-none (slot_fault file block at top) h.elems b.0 s lt) full

  -- a full slot is right under the top bits of its run
  slot_right : dir_fault file h ≡ None → (i : ℕ) → i < entries_of h → (s : ℕ) → s < h.elems → is_full_at (block_of file h i) s ≡ true → (top : ℕ) × (is_slot_right file (block_of file h i) top s ≡ true)
  slot_right none i lt s slot full =
      let c = covered file h none i lt in
      let full_there : is_full_at (block_of file h c.s) s ≡ true = rw (block_is file h i c) at full in
      (c.s / run_at file h c.s, rw (block_is file h i c) (slots_judged (block_of file h c.s) (natural (entry_at file h c.s)) (c.s / run_at file h c.s) c.judged.slots s slot full_there))

  right_parts : (block : List ℕ) (top s : ℕ) → is_slot_right file block top s ≡ true → (are_fields_right (raw_slot_at block s) ≡ true) × (is_record_in (length file) (raw_slot_at block s) ≡ true)
  unfolding is_slot_right
  right_parts block top s right = let a = and-true _ _ (and-true _ _ (and-true _ _ right).0).0 in (a.0, a.1)

  -- the record of a full slot lies in the file
  pub record_in : dir_fault file h ≡ None → (i : ℕ) → i < entries_of h → (s : ℕ) → s < h.elems → is_full_at (block_of file h i) s ≡ true → is_record_in (length file) (raw_slot_at (block_of file h i) s) ≡ true
  record_in none i lt s slot full = let r = slot_right none i lt s slot full in (right_parts (block_of file h i) r.0 s r.1).1

  pub fields_in : dir_fault file h ≡ None → (i : ℕ) → i < entries_of h → (s : ℕ) → s < h.elems → is_full_at (block_of file h i) s ≡ true → are_fields_right (raw_slot_at (block_of file h i) s) ≡ true
  fields_in none i lt s slot full = let r = slot_right none i lt s slot full in (right_parts (block_of file h i) r.0 s r.1).0

pub dir_none : (file : List ℕ) → file_fault file ≡ None → dir_fault file (header_of (front_of file)) ≡ None
unfolding file_fault
dir_none file none = (or_else-none _ _ none).1
