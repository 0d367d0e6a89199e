-- A walk over a directory whose parts are right finds no fault.
use Rattle.std.proofs.Common.{◌≡◌, ℕ, zero, suc, ◌+◌, ◌-◌, ◌*◌, ◌/◌, ◌%◌, ◌^◌, ◌<◌, ◌≤◌, ◌≢◌, Bool, true, false, not, List, None, refl, sym, ap, ◌∙◌, inl, inr, arith}
use Rattle.std.specs.Prelude.{ℤ, pos, negsuc}
use Rattle.std.specs.Bool.{Decides}
use Rattle.std.specs.Ordering.{int_eq}
use Rattle.std.proofs.lemmas.Bool.{le-leb, leb-true, cases_eq, cases_lt}
use Rattle.std.proofs.lemmas.Bool.Decides.{Decides-int_eq, Decides-eqb}
use Rattle.std.proofs.lemmas.Nat.{row_fits, pow-add, div-mul-add, div-add-mod'}
use Rattle.std.proofs.Math.Nat.{mul-le-mul_right, mod-eq_of_lt}
use Rattle.gd_format.specs.declared.Header.{Header}
use Rattle.gd_format.specs.HeaderFault.{natural, is_within, header_of}
use Rattle.gd_format.specs.Bucket.{counts_at}
use Rattle.gd_format.specs.File.{IsReadable, file_fault, front_of, dir_fault, entry_at, entries_of, entries_fault, entry_fault, is_block_in, run_fault, is_other_entry, run_at, block_of, slots_fault, slot_fault, reach_fault, is_slot_right, are_counts_right, is_first, is_reached, is_full_at, bits_at}
use Rattle.gd_format.proofs.Firsts.{and-true, or_else_both, unless_true, both_true, not_or_from, first_below_from, all_below_from}
use Rattle.gd_file_laws.proofs.Walk.{run_pos, same_run, in_run}
use Rattle.gd_file_laws.specs.Parts.{IsSlotRight, IsBucketRight, HasParts, HasReadableParts}

differs : {P : Type 0} (b : Bool) → Decides b P → (P → ⊥) → not b ≡ true
differs true d apart = absurd (apart (d.0 refl))
differs false d apart = refl

module _ (file : List ℕ) (h : Header) where
  slot_passes : (block : List ℕ) (at top s : ℕ) → (is_full_at block s ≡ true → IsSlotRight file block top s) → slot_fault file block at top s ≡ None
  unfolding slot_fault is_slot_right
  slot_passes block at top s right =
      unless_true _ _ (not_or_from _ _ (λ full. let r = right full in both_true _ _ (both_true _ _ (both_true _ _ r.fields r.record_in) r.key) r.new))

  reach_passes : (block : List ℕ) (at s : ℕ) → (is_full_at block s ≡ true → is_reached block h.elems s ≡ true) → reach_fault block h.elems at s ≡ None
  unfolding reach_fault
  reach_passes block at s right = unless_true _ _ (not_or_from _ _ right)

  slots_right : (block : List ℕ) (at top : ℕ) → IsBucketRight file h block top → slots_fault file h.elems block at top ≡ None
  unfolding slots_fault
  slots_right block at top b =
      or_else_both _ _ (unless_true _ _ b.count)
      (or_else_both _ _ (first_below_from _ h.elems (λ s lt. slot_passes block at top s (b.slots s lt)))
      (or_else_both _ _ (first_below_from _ h.elems (λ s lt. reach_passes block at s (b.reached s lt))) refl))

-- two multiples of r
multiples_fit : (q m r i n : ℕ) → q * r ≡ i → n ≡ m * r → i < n → i + r ≤ n
multiples_fit q m r i n a b lt =
    elim (cases_lt q m) [
      | inl below ↦ let e = row_fits q r m r below (omega arith) in omega (arith, e)
      | inr above ↦ let e = mul-le-mul_right r above in absurd (omega (arith, e))
    ]

-- the number before one that is no multiple of r
one_back : (m r : ℕ) → 0 < r → m % r ≢ 0 → (m - 1) / r ≡ m / r
one_back m r positive ne =
    let whole : m / r * r + m % r ≡ m = div-add-mod' m r in
    let rest : m % r < r = omega arith in
    let at : m / r * r + (m % r - 1) ≡ m - 1 = omega (arith, whole) in
    rw (← at) (div-mul-add (m / r) r (m % r - 1) (omega arith))

within_le : (z : ℤ) (n : ℕ) → is_within z 0 n ≡ true → natural z ≤ n
within_le (pos m) n h = leb-true m n (and-true _ _ h).1
within_le (negsuc m) n h = omega arith

module _ (file : List ℕ) (h : Header) (parts : HasParts file h) where
  pub bits_within : (i : ℕ) → i < entries_of h → bits_at (block_of file h i) ≤ h.dir_bits
  unfolding are_counts_right
  bits_within i lt =
      let c = counts_at (block_of file h i) in
      within_le c.bits h.dir_bits (and-true (is_within c.free 0 6) (is_within c.bits 0 h.dir_bits) (parts.buckets i lt).counts).1

  -- the runs divide the directory
  runs_in : (i : ℕ) → i < entries_of h → entries_of h ≡ 2 ^ bits_at (block_of file h i) * run_at file h i
  unfolding run_at
  runs_in i lt =
      let bits : ℕ = bits_at (block_of file h i) in
      let le = bits_within i lt in
      let e : bits_at (block_of file h i) + (h.dir_bits - bits_at (block_of file h i)) ≡ h.dir_bits = omega (arith, le) in
      sym (ap (λ (x : ℕ). 2 ^ x) e) ∙ pow-add 2 (bits_at (block_of file h i)) (h.dir_bits - bits_at (block_of file h i))

  run_fits : (i : ℕ) → i < entries_of h → i % run_at file h i ≡ 0 → i + run_at file h i ≤ entries_of h
  run_fits i lt multiple =
      let whole = div-add-mod' i (run_at file h i) in
      multiples_fit (i / run_at file h i) (2 ^ bits_at (block_of file h i)) (run_at file h i) i (entries_of h) (omega (arith, whole, multiple)) (runs_in i lt) lt

  next_start : (i : ℕ) → i < entries_of h → i % run_at file h i ≡ 0 → (m : ℕ) → m ≡ i + run_at file h i → m < entries_of h → m % run_at file h m ≡ 0
  next_start i li multiple m at lm =
      elim (cases_eq (m % run_at file h m) 0) [
        | inl same ↦ same
        | inr other ↦
            let r : ℕ = run_at file h m in
            let q : ℕ = run_at file h i in
            let pr : 0 < run_at file h m = run_pos file h m in
            let pq : 0 < run_at file h i = run_pos file h i in
            let back = one_back m (run_at file h m) pr other in
            let here = same_run file h i (m - 1) (run_at file h i) multiple (omega arith) (omega arith) in
            let with_m = (parts.dir.one_run m (m - 1) lm (omega arith)).1 back in
            let with_i = (parts.dir.one_run i (m - 1) li (omega arith)).1 here in
            let inside = in_run file h i m (run_at file h i) pq multiple ((parts.dir.one_run i m li lm).0 (sym with_m ∙ with_i)) in
            absurd (omega (arith, inside))
      ]

  is_first_here : (i : ℕ) → i < entries_of h → i % run_at file h i ≡ 0 → is_first file h i ≡ true
  unfolding is_first is_other_entry
  is_first_here i li multiple =
      all_below_from _ i
      (λ j lt.
      differs (int_eq (entry_at file h j) (entry_at file h i)) (Decides-int_eq (entry_at file h j) (entry_at file h i))
      (λ e.
      let top = (parts.dir.one_run i j li (omega arith)).0 e in
      let inside = in_run file h i j (run_at file h i) (run_pos file h i) multiple top in
      omega (arith, inside)))

  no_fault_here : (i : ℕ) → i < entries_of h → i % run_at file h i ≡ 0 → entry_fault file h i ≡ None
  unfolding entry_fault is_block_in run_fault
  no_fault_here i li multiple =
      let at = natural (entry_at file h i) in
      let bucket = parts.buckets i li in
      let room = run_fits i li multiple in
      or_else_both _ _ (unless_true _ _ (both_true _ _ (le-leb _ _ parts.dir.block_fits) (parts.dir.in_file i li)))
      (or_else_both _ _ (unless_true _ _ (is_first_here i li multiple))
      (or_else_both _ _ (unless_true _ _ bucket.counts)
      (or_else_both _ _ (unless_true _ _ ((Decides-eqb _ _).1 multiple))
      (or_else_both _ _ (first_below_from _ (run_at file h i)
      (λ j lt.
      let top = same_run file h i (i + j) (run_at file h i) multiple (omega arith) (omega arith) in
      unless_true _ _ ((Decides-int_eq _ _).1 ((parts.dir.one_run i (i + j) li (omega (arith, room))).1 top))))
      (or_else_both _ _ (slots_right file h (block_of file h i) at (i / run_at file h i) bucket) refl)))))

  walk_none : (n covered i : ℕ) → n + i ≡ entries_of h → ((m : ℕ) → m ≡ i + covered → m < entries_of h → m % run_at file h m ≡ 0) → entries_fault file h n covered i ≡ None
  walk_none zero covered i e start = refl
  walk_none (suc n) (suc covered) i e start = walk_none n covered (i + 1) (omega arith) (λ m at lt. start m (omega arith) lt)
  walk_none (suc n) zero i e start =
      let li : i < entries_of h = omega arith in
      let multiple = start i (omega arith) li in
      let positive = run_pos file h i in
      or_else_both _ _ (no_fault_here i li multiple)
      (walk_none n (run_at file h i - 1) (i + 1) (omega arith) (λ m at lt. next_start i li multiple m (omega (arith, positive, at)) lt))

zero_start : (m r : ℕ) → 0 < r → m ≡ 0 + 0 → m % r ≡ 0
zero_start m r positive e = mod-eq_of_lt (omega arith) ∙ omega arith

pub no_dir_fault : (file : List ℕ) (h : Header) → HasParts file h → dir_fault file h ≡ None
unfolding dir_fault
no_dir_fault file h parts =
    walk_none file h parts (entries_of h) 0 0 (omega arith) (λ m at lt. zero_start m (run_at file h m) (run_pos file h m) at)

pub made_readable : (file : List ℕ) → HasReadableParts file → IsReadable file
unfolding file_fault
made_readable file r = or_else_both _ _ r.header (no_dir_fault file (header_of (front_of file)) r.parts)
