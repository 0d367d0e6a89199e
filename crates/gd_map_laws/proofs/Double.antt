-- A doubled directory keeps the parts and the map.
use Rattle.std.proofs.Common.{◌≡◌, ℕ, ◌+◌, ◌-◌, ◌*◌, ◌/◌, ◌^◌, ◌<◌, ◌≤◌, List, length, sym, ap, ◌∙◌, arith}
use Rattle.std.proofs.lemmas.Nat.{shr-shr, pow-add, div_below}
use Rattle.std.proofs.Math.Nat.{div-div-eq-div-mul}
use Rattle.gd_format.specs.declared.Header.{Header}
use Rattle.gd_format.specs.Hash.{hash_of}
use Rattle.gd_format.specs.HeaderFault.{is_within}
use Rattle.gd_format.specs.Bucket.{counts_at, slots_at}
use Rattle.gd_format.specs.File.{entry_at, entries_of, run_at, block_of, bits_at, are_counts_right}
use Rattle.gd_format.proofs.Firsts.{and-true, both_true}
use Rattle.gd_file_laws.specs.Parts.{IsBucketRight, HasParts}
use Rattle.gd_file_laws.proofs.Made.{bits_within}
use Rattle.gd_map_laws.specs.Lookup.{lookup, slot_records, index_of, value_at}
use Rattle.gd_map_laws.specs.Split.{DoubleChange, MapStays}
use Rattle.gd_map_laws.proofs.Lookup.{index_below}
use Rattle.gd_map_laws.proofs.Update.{kept_records}
use Rattle.gd_map_laws.proofs.FileUpdate.{within_longer}
use Rattle.gd_map_laws.proofs.Split.{still_right}

module _ (old new : List ℕ) (h h' : Header) (bits_le : h'.dir_bits ≤ 24) (parts : HasParts old h) (change : DoubleChange old new h h') where
  old_bits : h.dir_bits ≤ 24
  old_bits = let e = change.bits in omega arith

  pub twice : entries_of h' ≡ entries_of h * 2
  twice = ap (λ (x : ℕ). 2 ^ x) change.bits ∙ pow-add 2 h.dir_bits 1

  pub half_below : (j : ℕ) → j < entries_of h' → j / 2 < entries_of h
  half_below j lt = let e = twice in div_below j 2 (entries_of h) (omega arith) (omega (arith, e))

  pub block_is : (j : ℕ) → j < entries_of h' → block_of new h' j ≡ block_of old h (j / 2)
  unfolding block_of
  block_is j lt = rw (change.entries j lt, change.block) (change.blocks (j / 2) (half_below j lt))

  run_is : (j : ℕ) → j < entries_of h' → run_at new h' j ≡ 2 * run_at old h (j / 2)
  unfolding run_at
  run_is j lt =
      let le = bits_within old h parts (j / 2) (half_below j lt) in
      let b = change.bits in
      let e : h'.dir_bits - bits_at (block_of old h (j / 2)) ≡ 1 + (h.dir_bits - bits_at (block_of old h (j / 2))) = omega arith in
      ap (λ (x : List ℕ). 2 ^ (h'.dir_bits - bits_at x)) (block_is j lt) ∙ ap (λ (x : ℕ). 2 ^ x) e ∙ pow-add 2 1 (h.dir_bits - bits_at (block_of old h (j / 2)))

  over : (j k : ℕ) → j < entries_of h' → k / run_at new h' j ≡ k / 2 / run_at old h (j / 2)
  over j k lt = ap (λ (x : ℕ). k / x) (run_is j lt) ∙ sym (div-div-eq-div-mul k 2 (run_at old h (j / 2)))

  bucket_doubled : (block : List ℕ) (top : ℕ) → IsBucketRight new h block top → IsBucketRight new h' block top
  unfolding are_counts_right
  bucket_doubled block top right =
      let c = and-true (is_within (counts_at block).free 0 6) (is_within (counts_at block).bits 0 h.dir_bits) right.counts in
      record {
        counts = both_true _ _ c.0 (within_longer (counts_at block).bits h.dir_bits h'.dir_bits (let b = change.bits in omega arith) c.1);
        count = rw change.elems right.count;
        slots = λ s lt full. right.slots s (let e = change.elems in omega arith) full;
        reached = λ s lt full. rw change.elems (right.reached s (let e = change.elems in omega arith) full);
      }

  new_parts : HasParts new h'
  new_parts =
      record {
        dir = record {
          block_fits = let a = parts.dir.block_fits in let b = change.longer in let e = change.block in omega arith;
          in_file = λ j lj. rw (change.entries j lj, change.block) (within_longer (entry_at old h (j / 2)) (length old - h.block) (length new - h.block) (let b = change.longer in omega arith) (parts.dir.in_file (j / 2) (half_below j lj)));
          one_run = λ j k lj lk. rw (change.entries j lj, change.entries k lk, over j k lj, over j j lj) (parts.dir.one_run (j / 2) (k / 2) (half_below j lj) (half_below k lk));
        };
        buckets =
            λ j lj.
            let lt = half_below j lj in
            rw (block_is j lj, over j j lj)
            (bucket_doubled (block_of old h (j / 2)) (j / 2 / run_at old h (j / 2))
            (still_right old new h (block_of old h (j / 2)) (j / 2 / run_at old h (j / 2)) old_bits change.longer (bits_within old h parts (j / 2) lt) (parts.buckets (j / 2) lt) (change.records (j / 2) lt)));
      }

  index_half : (key : List ℕ) → index_of h' key / 2 ≡ index_of h key
  unfolding index_of
  index_half key =
      let b = change.bits in
      let whole : 31 - h'.dir_bits + 1 ≡ 31 - h.dir_bits = omega arith in
      let e : hash_of key / 2 ^ (31 - h'.dir_bits) / 2 ^ 1 ≡ hash_of key / 2 ^ (31 - h.dir_bits) = shr-shr (hash_of key) (31 - h'.dir_bits) 1 ∙ ap (λ (x : ℕ). hash_of key / 2 ^ x) whole in
      e

  map_stays : (key : List ℕ) → value_at new h' key ≡ value_at old h key
  unfolding value_at
  map_stays key =
      let lt = index_below h' key bits_le in
      let e : block_of new h' (index_of h' key) ≡ block_of old h (index_of h key) = block_is (index_of h' key) lt ∙ ap (block_of old h) (index_half key) in
      ap (λ (block : List ℕ). lookup key (slot_records new (slots_at block h'.elems))) e
      ∙ ap (λ (n : ℕ). lookup key (slot_records new (slots_at (block_of old h (index_of h key)) n))) change.elems
      ∙ ap (lookup key) (kept_records old new (slots_at (block_of old h (index_of h key)) h.elems) (change.records (index_of h key) (index_below h key old_bits)))

  pub double_stays : MapStays old new h h'
  double_stays = record { parts = new_parts; map = map_stays }
