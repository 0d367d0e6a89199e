-- The refusal of an entry of the directory, by the tests in their order.
use Rattle.std.proofs.Common.{◌≡◌, ℕ, ◌-◌, ◌/◌, ◌%◌, ◌^◌, ◌==◌, true, false, List, Some, None, refl}
use Rattle.std.specs.Prelude.{pos}
use Rattle.std.proofs.lemmas.Bool.Decides.{Decides-eqb}
use Rattle.gd_base.specs.declared.errors.DbError.{DbError}
use Rattle.gd_base.specs.declared.errors.DbError.TheVariants.{BadDirEntry, BadBucket}
use Rattle.gd_format.specs.declared.Header.{Header}
use Rattle.gd_format.specs.First.{first_below}
use Rattle.gd_format.specs.File.{are_counts_right, bits_at, block_of, entry_at, entry_fault, is_block_in, is_first, run_at, run_fault, slots_fault}

module _ (file : List ℕ) (h : Header) (i : ℕ) where
  pub not_new : is_block_in file h i ≡ true → is_first file h i ≡ false → entry_fault file h i ≡ Some (BadDirEntry i)
  unfolding entry_fault
  not_new inside seen = rw (inside, seen) refl

  module _ (a : ℕ) (block : List ℕ) where
    pub wrong_counts : is_block_in file h i ≡ true → entry_at file h i ≡ pos a → block ≡ block_of file h i → is_first file h i ≡ true → are_counts_right h block ≡ false → entry_fault file h i ≡ Some (BadBucket a)
    unfolding entry_fault
    wrong_counts inside entry is new counts =
        let wrong : are_counts_right h (block_of file h i) ≡ false = rw is at counts in
        rw (inside, new, wrong, entry) refl

    pub run_is : (r : ℕ) → block ≡ block_of file h i → r ≡ 2 ^ (h.dir_bits - bits_at block) → r ≡ run_at file h i
    unfolding run_at
    run_is r is e = rw is at e

    module _ (r : ℕ) where
      multiple : r ≡ run_at file h i → i % r ≡ 0 → (i % run_at file h i == 0) ≡ true
      multiple e zero = let at : i % run_at file h i ≡ 0 = rw e at zero in (Decides-eqb (i % run_at file h i) 0).1 at

      pub wrong_run : is_block_in file h i ≡ true → block ≡ block_of file h i → is_first file h i ≡ true → are_counts_right h block ≡ true → r ≡ run_at file h i → i % r ≡ 0 → (e : DbError) → first_below r (run_fault file h i) ≡ Some e → entry_fault file h i ≡ Some e
      unfolding entry_fault
      wrong_run inside is new counts run zero e other =
          let right : are_counts_right h (block_of file h i) ≡ true = rw is at counts in
          let fault : first_below (run_at file h i) (run_fault file h i) ≡ Some e = rw run at other in
          rw (inside, new, right, multiple run zero, fault) refl

      pub wrong_slots : is_block_in file h i ≡ true → entry_at file h i ≡ pos a → block ≡ block_of file h i → is_first file h i ≡ true → are_counts_right h block ≡ true → r ≡ run_at file h i → i % r ≡ 0 → first_below r (run_fault file h i) ≡ None → (e : DbError) → slots_fault file h.elems block a (i / r) ≡ Some e → entry_fault file h i ≡ Some e
      unfolding entry_fault
      wrong_slots inside entry is new counts run zero none e slots =
          let right : are_counts_right h (block_of file h i) ≡ true = rw is at counts in
          let same : first_below (run_at file h i) (run_fault file h i) ≡ None = rw run at none in
          let fault : slots_fault file h.elems (block_of file h i) a (i / run_at file h i) ≡ Some e = rw (is, run) at slots in
          rw (inside, new, right, multiple run zero, same, entry, fault) refl

      pub right_entry : is_block_in file h i ≡ true → entry_at file h i ≡ pos a → block ≡ block_of file h i → is_first file h i ≡ true → are_counts_right h block ≡ true → r ≡ run_at file h i → i % r ≡ 0 → first_below r (run_fault file h i) ≡ None → slots_fault file h.elems block a (i / r) ≡ None → entry_fault file h i ≡ None
      unfolding entry_fault
      right_entry inside entry is new counts run zero none slots =
          let right : are_counts_right h (block_of file h i) ≡ true = rw is at counts in
          let same : first_below (run_at file h i) (run_fault file h i) ≡ None = rw run at none in
          let fault : slots_fault file h.elems (block_of file h i) a (i / run_at file h i) ≡ None = rw (is, run) at slots in
          rw (inside, new, right, multiple run zero, same, entry, fault) refl
