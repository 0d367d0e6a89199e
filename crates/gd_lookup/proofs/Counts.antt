-- The number of records, from run to run.
use Rattle.std.proofs.Common.{◌≡◌, ℕ, ◌+◌, ◌-◌, ◌<◌, ◌≤◌, true, List, length, take, drop, refl, sym, ap, ◌∙◌, arith}
use Rattle.std.specs.Prelude.{ℤ, pos, negsuc}
use Rattle.std.specs.Int.{w32, cast_signed}
use Rattle.std.proofs.lemmas.List.{take-take, drop-take}
use Rattle.gd_format.specs.declared.Header.{Header}
use Rattle.gd_format.specs.Bucket.{counts_at, is_from_zero}
use Rattle.gd_format.specs.Field.{bytes_at, i32_at, u32_at, number_of}
use Rattle.gd_format.specs.First.{count_below}
use Rattle.gd_format.specs.HeaderFault.{is_number, is_within, natural}
use Rattle.gd_format.specs.File.{are_counts_right, block_of, entries_of, entry_at, is_count_right, is_first, is_full_at, records, run_at}
use Rattle.gd_format.proofs.Firsts.{and-true}
use Rattle.gd_map_laws.specs.Space.{sum_of}
use Rattle.gd_map_laws.proofs.Fronts.{records_count}
use Rattle.gd_lookup.specs.Counting.{Begins, have_share, run_of}
use Rattle.gd_open.specs.Files.{IsOpen}
use Rattle.gd_open.proofs.Blocks.{open_dir, open_header, open_parts}
use Rattle.gd_lookup.proofs.Runs.{begins_first, step, sum_run}

-- ---- the counts in the first bytes of a block

word_in_front : (xs : List ℕ) (n at : ℕ) → at + 4 ≤ n → i32_at (take n xs) at ≡ i32_at xs at
unfolding i32_at u32_at
word_in_front xs n at le =
    let whole : at + (n - at) ≡ n = omega arith in
    ap (λ (ys : List ℕ). cast_signed w32 (number_of (take 4 ys))) (ap (λ (m : ℕ). drop at (take m xs)) (sym whole) ∙ drop-take at (n - at) xs)
    ∙ ap (λ (ys : List ℕ). cast_signed w32 (number_of ys)) (take-take 4 (n - at) (drop at xs) (omega arith))

counts_in_front : (xs : List ℕ) (n : ℕ) → 112 ≤ n → counts_at (take n xs) ≡ counts_at xs
counts_in_front xs n le = rw (word_in_front xs n 0 (omega arith), word_in_front xs n 104 (omega arith), word_in_front xs n 108 (omega arith)) refl

module _ (file : List ℕ) (h : Header) (o : IsOpen file h) (i : ℕ) (lt : i < entries_of h) where
  -- those that are read alone are those of the bucket
  pub head_counts : (at : ℕ) → at ≡ natural (entry_at file h i) → counts_at (bytes_at file at 112) ≡ counts_at (block_of file h i)
  unfolding block_of
  head_counts at place =
      ap (λ (a : ℕ). counts_at (bytes_at file a 112)) place ∙ counts_in_front (drop (natural (entry_at file h i)) file) 112 (omega arith)
      ∙ sym (counts_in_front (drop (natural (entry_at file h i)) file) h.block (let room = (open_header file h o).slots in omega (arith, room)))

  number_from : (z : ℤ) (n : ℕ) → is_number z n ≡ true → is_from_zero z ≡ true
  number_from (pos m) n e = refl
  number_from (negsuc m) n e = absurd cc

  pub shares : have_share h.dir_bits (counts_at (block_of file h i)) ≡ true
  unfolding are_counts_right is_count_right
  shares =
      let right = (open_parts file h o).buckets i lt in
      let c = counts_at (block_of file h i) in
      let a = (and-true (is_within c.free 0 6) (is_within c.bits 0 h.dir_bits) right.counts).1 in
      let b = number_from c.full (count_below h.elems (is_full_at (block_of file h i))) right.count in
      rw (a, b) refl

  pub run_is : run_of h.dir_bits (counts_at (block_of file h i)) ≡ run_at file h i
  unfolding run_at
  run_is = refl

-- ---- the sum so far

abbrev pub full_in : List ℕ → Header → ℕ → ℕ
full_in file h i = natural (counts_at (block_of file h i)).full

pub record Counted (file : List ℕ) (h : Header) (i total : ℕ) : Type 0 where
  pub begins : Begins file h i
  pub sum : total ≡ sum_of (is_first file h) (full_in file h) i

module _ (file : List ℕ) (h : Header) (o : IsOpen file h) where
  pub counted_none : Counted file h 0 0
  counted_none = record { begins = begins_first file h (open_dir file h o); sum = refl }

  pub counted_more : (i total run full : ℕ) → Counted file h i total → i < entries_of h → run ≡ run_at file h i → full ≡ full_in file h i → Counted file h (i + run) (total + full)
  counted_more i total run full c lt r f =
      let s = step file h (open_parts file h o) i lt c.begins in
      rw (r, f) (record { begins = s.next; sum = let e = sum_run file h (full_in file h) i s in let t = c.sum in omega (arith, e, t) })

  pub counted_all : (i total : ℕ) → Counted file h i total → entries_of h ≤ i → total ≡ length (records file)
  counted_all i total c le =
      let w = c.begins.within in
      let end : i ≡ entries_of h = omega arith in
      c.sum ∙ ap (sum_of (is_first file h) (full_in file h)) end ∙ sym (rw o.header (records_count file o.readable))
