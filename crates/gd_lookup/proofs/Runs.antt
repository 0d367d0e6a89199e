-- From run to run of the directory of a readable file.
use Rattle.std.proofs.Common.{◌≡◌, ℕ, zero, suc, ◌+◌, ◌-◌, ◌*◌, ◌/◌, ◌%◌, ◌^◌, ◌<◌, ◌≤◌, Bool, true, false, List, [], ◌∷◌, ◌++◌, map, None, refl, sym, ap, ◌∙◌, inl, inr, arith}
use Rattle.std.proofs.lemmas.Bool.{cases_lt}
use Rattle.std.proofs.lemmas.Bool.Decides.{Decides-eqb}
use Rattle.std.proofs.lemmas.List.{append_assoc}
use Rattle.std.proofs.lemmas.Nat.{pow_pos, div-add-mod', div-mul-add}
use Rattle.std.specs.List.{flat_map}
use Rattle.std.specs.Prelude.{◌==◌}
use Rattle.gd_base.specs.declared.errors.DbError.TheVariants.{BadBucket, BadDirEntry}
use Rattle.gd_format.specs.First.{first_below, or_else, unless}
use Rattle.gd_format.specs.declared.Header.{Header}
use Rattle.gd_format.specs.Bucket.{raw_slot_at}
use Rattle.gd_format.specs.HeaderFault.{natural}
use Rattle.gd_format.specs.File.{are_counts_right, bits_at, is_block_in, run_fault, slots_fault, block_of, bucket_records, dir_fault, entries_fault, entries_of, entry_at, entry_fault, is_first, is_full_at, record_of, records, run_at}
use Rattle.gd_format.proofs.Firsts.{or_else-none, unless-none}
use Rattle.gd_file_laws.specs.Parts.{HasParts}
use Rattle.gd_file_laws.proofs.Lists.{bool_cases}
use Rattle.gd_file_laws.proofs.Made.{bits_within}
use Rattle.gd_map_laws.specs.Space.{sum_of}
use Rattle.gd_readable.specs.Left.{buckets_left, passing_from, slots_left}
use Rattle.gd_readable.proofs.Passing.{buckets_step, no_slots, passing_no, passing_yes, slots_step, starts_whole}
use Rattle.gd_readable.proofs.Runs.{run_ends}
use Rattle.gd_file_laws.proofs.Walk.{starts}
use Rattle.gd_readable.proofs.Walks.{not_first}
use Rattle.gd_lookup.specs.Counting.{Begins, behind}
use Rattle.gd_open.specs.Files.{IsOpen}
use Rattle.gd_open.proofs.Blocks.{open_dir, open_parts}

-- ---- lists of what passes

passing_skip : (p : ℕ → Bool) (n a k : ℕ) → a + k ≤ n → ((j : ℕ) → a ≤ j → j < a + k → p j ≡ false) → passing_from p n a ≡ passing_from p n (a + k)
passing_skip p n a zero le none = ap (passing_from p n) (omega arith)
passing_skip p n a (suc k) le none =
    passing_no p n a (omega arith) (none a (omega arith) (omega arith)) ∙ passing_skip p n (a + 1) k (omega arith) (λ j low high. none j (omega arith) (omega arith))
    ∙ ap (passing_from p n) (omega arith)

sum_skip : (p : ℕ → Bool) (f : ℕ → ℕ) (a k : ℕ) → ((j : ℕ) → a ≤ j → j < a + k → p j ≡ false) → sum_of p f (a + k) ≡ sum_of p f a
sum_skip p f a zero none = ap (sum_of p f) (omega arith)
sum_skip p f a (suc k) none =
    let at : a + suc k ≡ suc (a + k) = omega arith in
    let ih = sum_skip p f a k (λ j low high. none j low (omega arith)) in
    let last = none (a + k) (omega arith) (omega arith) in
    ap (sum_of p f) at ∙ rw last (omega (arith, ih))

sum_step : (p : ℕ → Bool) (f : ℕ → ℕ) (a k : ℕ) → 0 < k → p a ≡ true → ((j : ℕ) → a < j → j < a + k → p j ≡ false) → sum_of p f (a + k) ≡ sum_of p f a + f a
sum_step p f a k some first none =
    let at : a + k ≡ a + 1 + (k - 1) = omega arith in
    let one : a + 1 ≡ suc a = omega arith in
    let here : sum_of p f (a + 1) ≡ sum_of p f a + f a = ap (sum_of p f) one ∙ rw first refl in
    ap (sum_of p f) at ∙ sum_skip p f (a + 1) (k - 1) (λ j low high. none j (omega arith) (omega arith)) ∙ here

module _ (file : List ℕ) (h : Header) where
  -- ---- runs

  skip : (n covered i : ℕ) → covered ≤ n → entries_fault file h n covered i ≡ None → entries_fault file h (n - covered) 0 (i + covered) ≡ None
  skip n zero i le e = let a : n - 0 ≡ n = omega arith in let b : i + 0 ≡ i = omega arith in rw (a, b) e
  skip zero (suc c) i le e = absurd (omega arith)
  skip (suc n) (suc c) i le e =
      let a : suc n - suc c ≡ n - c = omega arith in
      let b : i + suc c ≡ i + 1 + c = omega arith in
      rw (a, b) (skip n c (i + 1) (omega arith) e)

  multiple : (s : ℕ) → entry_fault file h s ≡ None → s % run_at file h s ≡ 0
  unfolding entry_fault
  multiple s none =
      let a = or_else-none (unless (is_block_in file h s) (BadDirEntry s)) _ none in
      let b = or_else-none (unless (is_first file h s) (BadDirEntry s)) _ a.1 in
      let c = or_else-none (unless (are_counts_right h (block_of file h s)) (BadBucket (natural (entry_at file h s)))) _ b.1 in
      let runs = first_below (run_at file h s) (run_fault file h s) in
      let slots = slots_fault file h.elems (block_of file h s) (natural (entry_at file h s)) (s / run_at file h s) in
      let d = or_else-none (unless (s % run_at file h s == 0) (BadDirEntry s)) (or_else runs (or_else slots None)) c.1 in
      (Decides-eqb (s % run_at file h s) 0).0 (unless-none (s % run_at file h s == 0) (BadDirEntry s) d.0)

  pub run_some : (i : ℕ) → 0 < run_at file h i
  unfolding run_at
  run_some i = pow_pos _

  run_within : HasParts file h → (i : ℕ) → i < entries_of h → i % run_at file h i ≡ 0 → i + run_at file h i ≤ entries_of h
  unfolding run_at
  run_within parts i lt m = run_ends i h.dir_bits (bits_at (block_of file h i)) (2 ^ (h.dir_bits - bits_at (block_of file h i))) refl m lt (bits_within file h parts i lt)

  pub record Step (i : ℕ) : Type 0 where
    pub first : is_first file h i ≡ true
    pub others : (j : ℕ) → i < j → j < i + run_at file h i → is_first file h j ≡ false
    pub same : (j : ℕ) → j < run_at file h i → entry_at file h (i + j) ≡ entry_at file h i
    pub ends : i + run_at file h i ≤ entries_of h
    pub next : Begins file h (i + run_at file h i)
    pub whole : i % run_at file h i ≡ 0

  step_of : HasParts file h → (i n : ℕ) → i < entries_of h → entries_of h - i ≡ suc n → entries_fault file h (suc n) 0 i ≡ None → Step i
  step_of parts i n lt e none =
      let both = or_else-none (entry_fault file h i) (entries_fault file h n (run_at file h i - 1) (i + 1)) none in
      let s = starts file h i both.0 in
      let m = multiple i both.0 in
      let in_dir = run_within parts i lt m in
      let some = run_some i in
      record {
        first = s.first;
        others =
            λ j low high.
            let a : i + (j - i) ≡ j = omega arith in
            let b : i + (j - 1 - i) ≡ j - 1 = omega arith in
            let x : entry_at file h j ≡ entry_at file h i = rw a at (s.same (j - i) (omega arith)) in
            let y : entry_at file h (j - 1) ≡ entry_at file h i = rw b at (s.same (j - 1 - i) (omega arith)) in
            not_first file h j (omega arith) (y ∙ sym x);
        same = s.same;
        ends = in_dir;
        next =
            record {
              within = in_dir;
              judged =
                  let after = skip n (run_at file h i - 1) (i + 1) (omega arith) both.1 in
                  let c : n - (run_at file h i - 1) ≡ entries_of h - (i + run_at file h i) = omega arith in
                  let d : i + 1 + (run_at file h i - 1) ≡ i + run_at file h i = omega arith in
                  rw (c, d) at after;
            };
        whole = m;
      }

  pub step : HasParts file h → (i : ℕ) → i < entries_of h → Begins file h i → Step i
  step parts i lt b =
      let e : entries_of h - i ≡ suc (entries_of h - i - 1) = omega arith in
      step_of parts i (entries_of h - i - 1) lt e (rw e at b.judged)

  pub begins_first : dir_fault file h ≡ None → Begins file h 0
  unfolding dir_fault
  begins_first none = record { within = omega arith; judged = let e : entries_of h - 0 ≡ entries_of h = omega arith in rw e none }

  -- the start of the run of an entry
  covers : (n covered i : ℕ) → entries_fault file h n covered i ≡ None → (k : ℕ) → i + covered ≤ k → k < i + n → (s : ℕ) × (i ≤ s) × (s ≤ k) × (k < s + run_at file h s) × (entries_fault file h (i + n - s) 0 s ≡ None)
  covers zero covered i none k low high = absurd (omega arith)
  covers (suc n) (suc covered) i none k low high =
      let r = covers n covered (i + 1) none k (omega arith) (omega arith) in
      let e : i + 1 + n - r.0 ≡ i + suc n - r.0 = omega arith in
      (r.0, let l = r.1 in omega arith, r.2, r.3, rw e at r.4)
  covers (suc n) zero i none k low high =
      let both = or_else-none (entry_fault file h i) (entries_fault file h n (run_at file h i - 1) (i + 1)) none in
      let positive = run_some i in
      elim (cases_lt k (i + run_at file h i)) [
        | inl inside ↦ (i, omega arith, omega arith, inside, let e : i + suc n - i ≡ suc n = omega arith in rw e none)
        | inr past ↦
            let r = covers n (run_at file h i - 1) (i + 1) both.1 k (omega arith) (omega arith) in
            let e : i + 1 + n - r.0 ≡ i + suc n - r.0 = omega arith in
            (r.0, let l = r.1 in omega arith, r.2, r.3, rw e at r.4)
      ]

  -- ---- what is left from a run on

  buckets_skip : (a k : ℕ) → a + k ≤ entries_of h → ((j : ℕ) → a ≤ j → j < a + k → is_first file h j ≡ false) → buckets_left file h a ≡ buckets_left file h (a + k)
  unfolding buckets_left
  buckets_skip a k le none = ap (flat_map (λ j. bucket_records file h.elems (block_of file h j))) (passing_skip (is_first file h) (entries_of h) a k le none)

  pub left_step : (i : ℕ) → i < entries_of h → Step i → buckets_left file h i ≡ slots_left file h.elems (block_of file h i) 0 ++ buckets_left file h (i + run_at file h i)
  left_step i lt s =
      let some = run_some i in
      let ends = s.ends in
      let at : i + 1 + (run_at file h i - 1) ≡ i + run_at file h i = omega arith in
      buckets_step file h i i (passing_yes (is_first file h) (entries_of h) i lt s.first)
      ∙ ap (λ (l : List (List ℕ × List ℕ)). slots_left file h.elems (block_of file h i) 0 ++ l)
      (buckets_skip (i + 1) (run_at file h i - 1) (omega arith) (λ j low high. s.others j (omega arith) (omega arith)) ∙ ap (buckets_left file h) at)

  pub sum_run : (f : ℕ → ℕ) (i : ℕ) → Step i → sum_of (is_first file h) f (i + run_at file h i) ≡ sum_of (is_first file h) f i + f i
  sum_run f i s = sum_step (is_first file h) f i (run_at file h i) (run_some i) s.first s.others

  -- what comes before an entry, and before a slot
  buckets_before : (a : ℕ) → a ≤ entries_of h → (l : List (List ℕ × List ℕ)) × (buckets_left file h 0 ≡ l ++ buckets_left file h a)
  buckets_before zero le = ([], refl)
  buckets_before (suc a) le =
      let r = buckets_before a (omega arith) in
      let one : a + 1 ≡ suc a = omega arith in
      bool_cases (is_first file h a)
      (λ t. (
        r.0 ++ slots_left file h.elems (block_of file h a) 0,
        r.1 ∙ ap (λ (l : List (List ℕ × List ℕ)). r.0 ++ l) (buckets_step file h a a (passing_yes (is_first file h) (entries_of h) a (omega arith) t)) ∙ sym (append_assoc r.0 _ _)
            ∙ ap (λ (n : ℕ). (r.0 ++ slots_left file h.elems (block_of file h a) 0) ++ buckets_left file h n) one,
      ))
      (λ f. (
        r.0,
        r.1 ∙ ap (λ (l : List (List ℕ × List ℕ)). r.0 ++ l) (buckets_skip a 1 (omega arith) (λ j low high. let e : a ≡ j = omega arith in rw (← e) f) ∙ ap (buckets_left file h) one),
      ))

module _ (file : List ℕ) (h : Header) (o : IsOpen file h) where
  pub records_are : records file ≡ buckets_left file h 0
  records_are =
      sym (starts_whole file h [] o.header) ∙ ap (λ (l : List (List ℕ × List ℕ)). l ++ buckets_left file h 0) (no_slots file [] h.elems h.elems (omega arith))

  -- the run of an entry
  pub record RunOf (i : ℕ) : Type 0 where
    pub start : ℕ
    pub low : start < entries_of h
    pub begins : Begins file h start
    pub block_is : block_of file h i ≡ block_of file h start
    pub run_is : run_at file h i ≡ run_at file h start
    pub behind_is : behind file h i ≡ start + run_at file h start

  behind_start : (i s r : ℕ) → s ≤ i → i < s + r → s % r ≡ 0 → (i / r + 1) * r ≡ s + r
  behind_start i s r le lt m =
      let whole : s / r * r + s % r ≡ s = div-add-mod' s r in
      let at : s / r * r + (i - s) ≡ i = omega (arith, whole, m) in
      let q : i / r ≡ s / r = rw at at (div-mul-add (s / r) r (i - s) (omega arith)) in
      let e : (i / r + 1) * r ≡ (s / r + 1) * r = ap (λ (x : ℕ). (x + 1) * r) q in
      omega (arith, e, whole, m)

  pub run_of_entry : (i : ℕ) → i < entries_of h → RunOf i
  unfolding dir_fault run_at block_of
  run_of_entry i lt =
      let c = covers file h (entries_of h) 0 0 (open_dir file h o) i (omega arith) (omega arith) in
      let s = c.0 in
      let e : 0 + entries_of h - s ≡ entries_of h - s = omega arith in
      let b : Begins file h s = record { within = let l = c.2 in omega arith; judged = rw e at c.4 } in
      let low : s < entries_of h = (let l = c.2 in omega arith) in
      let t = step file h (open_parts file h o) s low b in
      let at : s + (i - s) ≡ i = (let l = c.2 in omega arith) in
      let same : entry_at file h i ≡ entry_at file h s = rw at at (t.same (i - s) (let l = c.2 in let r = c.3 in omega arith)) in
      let block : block_of file h i ≡ block_of file h s = rw same refl in
      let run : run_at file h i ≡ run_at file h s = ap (λ (x : List ℕ). 2 ^ (h.dir_bits - bits_at x)) block in
      record {
        start = s;
        low = low;
        begins = b;
        block_is = block;
        run_is = run;
        behind_is = ap (λ (r : ℕ). (i / r + 1) * r) run ∙ behind_start i s (run_at file h s) c.2 c.3 t.whole;
      }

  slots_skip : (block : List ℕ) (a : ℕ) → a < h.elems → is_full_at block a ≡ false → slots_left file h.elems block a ≡ slots_left file h.elems block (a + 1)
  unfolding slots_left
  slots_skip block a lt f = ap (map (λ t. record_of file (raw_slot_at block t))) (passing_no (is_full_at block) h.elems a lt f)

  slots_before : (block : List ℕ) (a : ℕ) → a ≤ h.elems → (l : List (List ℕ × List ℕ)) × (slots_left file h.elems block 0 ≡ l ++ slots_left file h.elems block a)
  slots_before block zero le = ([], refl)
  slots_before block (suc a) le =
      let r = slots_before block a (omega arith) in
      let one : a + 1 ≡ suc a = omega arith in
      bool_cases (is_full_at block a)
      (λ t. (
        r.0 ++ record_of file (raw_slot_at block a) ∷ [],
        r.1 ∙ ap (λ (l : List (List ℕ × List ℕ)). r.0 ++ l) (slots_step file block h.elems a a (passing_yes (is_full_at block) h.elems a (omega arith) t)) ∙ sym (append_assoc r.0 (record_of file (raw_slot_at block a) ∷ []) _)
            ∙ ap (λ (n : ℕ). (r.0 ++ record_of file (raw_slot_at block a) ∷ []) ++ slots_left file h.elems block n) one,
      ))
      (λ f. (r.0, r.1 ∙ ap (λ (l : List (List ℕ × List ℕ)). r.0 ++ l) (slots_skip block a (omega arith) f ∙ ap (slots_left file h.elems block) one)))

  -- the record of a full slot among all, and what follows it
  pub record_among : (i s : ℕ) → i < entries_of h → s < h.elems → is_full_at (block_of file h i) s ≡ true → (l : List (List ℕ × List ℕ)) × (records file ≡ l ++ record_of file (raw_slot_at (block_of file h i) s) ∷ (slots_left file h.elems (block_of file h i) (s + 1) ++ buckets_left file h (behind file h i)))
  record_among i s lt place full =
      let r = run_of_entry i lt in
      let block = block_of file h i in
      let a = buckets_before file h r.start (let l = r.low in omega arith) in
      let t = step file h (open_parts file h o) r.start r.low r.begins in
      let here : buckets_left file h r.start ≡ slots_left file h.elems block 0 ++ buckets_left file h (behind file h i) = rw (r.block_is, r.behind_is) (left_step file h r.start r.low t) in
      let b = slots_before block s (omega arith) in
      let one = slots_step file block h.elems s s (passing_yes (is_full_at block) h.elems s place full) in
      let rest = buckets_left file h (behind file h i) in (
        a.0 ++ b.0,
        records_are ∙ a.1
            ∙ ap (λ (l : List (List ℕ × List ℕ)). a.0 ++ l)
            (here ∙ ap (λ (l : List (List ℕ × List ℕ)). l ++ rest) (b.1 ∙ ap (λ (l : List (List ℕ × List ℕ)). b.0 ++ l) one) ∙ append_assoc b.0 _ rest)
            ∙ sym (append_assoc a.0 b.0 _),
      )
