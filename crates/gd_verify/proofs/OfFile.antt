-- Refusals of a file are neither a fault of the vault nor want of memory.
use Rattle.std.proofs.Common.{◌≡◌, ℕ, zero, suc, ◌+◌, ◌-◌, ◌/◌, ◌%◌, Bool, true, false, ◌&&◌, ◌||◌, ◌==◌, not, List, [], ◌∷◌, ◌++◌, length, map, Option, Some, None, refl, sym}
use Rattle.std.specs.Prelude.{nat_le, IfSome}
use Rattle.gd_base.specs.declared.errors.DbError.{DbError}
use Rattle.gd_base.specs.declared.errors.DbError.TheVariants.{BadAvail, BadBucket, BadDirEntry, BadHashEntry, BadHashTable, NeedRecovery}
use Rattle.gd_format.specs.declared.Header.{Header}
use Rattle.gd_format.specs.declared.Held.{Held}
use Rattle.gd_format.specs.First.{all_below, first_below, first_some, or_else, unless}
use Rattle.gd_format.specs.HeaderFault.{header_fault_of, header_of, natural}
use Rattle.gd_format.specs.Avail.{is_avail}
use Rattle.gd_format.specs.File.{are_counts_right, block_of, dir_fault, entries_fault, entries_of, entry_at, entry_fault, file_fault, front_of, is_block_in, is_count_right, is_first, is_full_at, is_slot_right, places_of, reach_fault, run_at, run_fault, slot_fault, slots_fault}
use Rattle.gd_format.specs.Sound.{extents_held, free_fault, is_free_right, is_other_block, is_stack_block, meet_fault, meets_none, most_of, place_of, sound_fault, space_fault, stack_at, stack_fault, stack_fault_at, table_of, top_of}
use Rattle.gd_readable.specs.Asks.{is_of_sound}
use Rattle.gd_readable.proofs.Refusals.{header_kind, reach_kind, sound_kind as also_sound}
use Rattle.gd_verify.specs.Known.{free_fault_at}

-- each error that an option has speaks of the file
abbrev AllOfFile : Option DbError → Type 0
AllOfFile o = (d : DbError) → o ≡ Some d → is_of_sound d ≡ true

none_kind : AllOfFile None
none_kind d is = absurd cc

unless_kind : (b : Bool) (e : DbError) → is_of_sound e ≡ true → AllOfFile (unless b e)
unless_kind true e h d is = absurd cc
unless_kind false e h d is = let same : e ≡ d = cc in rw same at h

or_kind : (a b : Option DbError) → AllOfFile a → AllOfFile b → AllOfFile (or_else a b)
or_kind None b h k d is = k d is
or_kind (Some e) b h k d is = h d is

below_kind : (n : ℕ) (p : ℕ → Option DbError) → ((k : ℕ) → AllOfFile (p k)) → AllOfFile (first_below n p)
below_kind zero p h d is = absurd cc
below_kind (suc n) p h d is = or_kind (first_below n p) (p n) (below_kind n p h) (h n) d is

-- the refusal of extents
pub meet_kind : (next : ℕ) (before rest : List Held) → AllOfFile (meet_fault next before rest)
meet_kind next before [] d is = absurd cc
meet_kind next before (k ∷ ks) d is =
    or_kind (unless (nat_le (k.extent.at + k.extent.size) next && meets_none k.extent before) (BadAvail k.by)) (meet_fault next (before ++ k ∷ []) ks)
    (unless_kind (nat_le (k.extent.at + k.extent.size) next && meets_none k.extent before) (BadAvail k.by) refl) (meet_kind next (before ++ k ∷ []) ks) d is

pub refusal_kind : (r : Option DbError) (next : ℕ) (list : List Held) → r ≡ meet_fault next [] list → IfSome r (λ e. is_of_sound e ≡ true)
refusal_kind None next list is = tt
refusal_kind (Some e) next list is = meet_kind next [] list e (sym is)

-- ---- of a file that is not readable

module _ (file : List ℕ) where
  slot_kind : (block : List ℕ) (a top s : ℕ) → AllOfFile (slot_fault file block a top s)
  unfolding slot_fault
  slot_kind block a top s = unless_kind (not (is_full_at block s) || is_slot_right file block top s) (BadHashEntry a s) refl

  slots_kind : (elems : ℕ) (block : List ℕ) (a top : ℕ) → AllOfFile (slots_fault file elems block a top)
  unfolding slots_fault
  slots_kind elems block a top =
      or_kind (unless (is_count_right block elems) (BadHashTable a)) (or_else (first_below elems (slot_fault file block a top)) (or_else (first_below elems (reach_fault block elems a)) None))
      (unless_kind (is_count_right block elems) (BadHashTable a) refl)
      (or_kind (first_below elems (slot_fault file block a top)) (or_else (first_below elems (reach_fault block elems a)) None)
      (below_kind elems (slot_fault file block a top) (slot_kind block a top))
      (or_kind (first_below elems (reach_fault block elems a)) None (λ d is. also_sound d (reach_kind block elems a d is)) none_kind))

  module _ (h : Header) where
    run_kind : (i j : ℕ) → AllOfFile (run_fault file h i j)
    unfolding run_fault
    run_kind i j = unless_kind _ (BadDirEntry (i + j)) refl

    entry_kind : (i : ℕ) → AllOfFile (entry_fault file h i)
    unfolding entry_fault
    entry_kind i =
        let a = natural (entry_at file h i) in
        let block = block_of file h i in
        let run = run_at file h i in
        let slots = slots_fault file h.elems block a (i / run) in
        let runs = first_below run (run_fault file h i) in
        or_kind (unless (is_block_in file h i) (BadDirEntry i)) (or_else (unless (is_first file h i) (BadDirEntry i)) (or_else (unless (are_counts_right h block) (BadBucket a)) (or_else (unless (i % run == 0) (BadDirEntry i)) (or_else runs (or_else slots None)))))
        (unless_kind (is_block_in file h i) (BadDirEntry i) refl)
        (or_kind (unless (is_first file h i) (BadDirEntry i)) (or_else (unless (are_counts_right h block) (BadBucket a)) (or_else (unless (i % run == 0) (BadDirEntry i)) (or_else runs (or_else slots None))))
        (unless_kind (is_first file h i) (BadDirEntry i) refl)
        (or_kind (unless (are_counts_right h block) (BadBucket a)) (or_else (unless (i % run == 0) (BadDirEntry i)) (or_else runs (or_else slots None)))
        (unless_kind (are_counts_right h block) (BadBucket a) refl)
        (or_kind (unless (i % run == 0) (BadDirEntry i)) (or_else runs (or_else slots None))
        (unless_kind (i % run == 0) (BadDirEntry i) refl)
        (or_kind runs (or_else slots None) (below_kind run (run_fault file h i) (run_kind i))
        (or_kind slots None (slots_kind h.elems block a (i / run)) none_kind)))))

    entries_kind : (n covered i : ℕ) → AllOfFile (entries_fault file h n covered i)
    entries_kind zero covered i d is = absurd cc
    entries_kind (suc n) (suc covered) i d is = entries_kind n covered (i + 1) d is
    entries_kind (suc n) zero i d is = or_kind (entry_fault file h i) (entries_fault file h n (run_at file h i - 1) (i + 1)) (entry_kind i) (entries_kind n (run_at file h i - 1) (i + 1)) d is

    dir_kind : AllOfFile (dir_fault file h)
    unfolding dir_fault
    dir_kind = entries_kind (entries_of h) 0 0

  pub file_kind : AllOfFile (file_fault file)
  unfolding file_fault
  file_kind = or_kind (header_fault_of (front_of file) (length file)) (dir_fault file (header_of (front_of file))) (λ d is. also_sound d (header_kind (front_of file) (length file) d is)) (dir_kind (header_of (front_of file)))

  -- ---- of a readable file that is not sound

  stack_kind : (most top : ℕ) → AllOfFile (stack_fault file most top)
  unfolding stack_fault stack_fault_at
  stack_kind most top =
      below_kind (length file) (stack_fault_at file most top)
      (λ k. unless_kind (stack_at file top k == 0 || (all_below k (is_other_block file top k) && is_stack_block file most (stack_at file top k))) (BadAvail (stack_at file top k)) refl)

  places_kind : (h : Header) (places : List ℕ) → AllOfFile (first_some (map (free_fault_at file h) places))
  places_kind h [] d is = absurd cc
  places_kind h (a ∷ places) d is = or_kind (free_fault_at file h a) (first_some (map (free_fault_at file h) places)) (unless_kind (is_free_right file h a) (BadAvail a) refl) (places_kind h places) d is

  free_kind : (h : Header) → AllOfFile (free_fault file h)
  unfolding free_fault
  free_kind h = places_kind h (places_of file h)

  space_kind : (h : Header) → AllOfFile (space_fault file h)
  unfolding space_fault
  space_kind h =
      let table = unless (is_avail (table_of file h) h.avail_size) (BadAvail (place_of h)) in
      let stack = stack_fault file (most_of h) (top_of file h) in
      let meet = meet_fault h.next_block [] (extents_held file h) in
      or_kind (unless (nat_le (length file) h.next_block) NeedRecovery) (or_else table (or_else stack (or_else (free_fault file h) (or_else meet None))))
      (unless_kind (nat_le (length file) h.next_block) NeedRecovery refl)
      (or_kind table (or_else stack (or_else (free_fault file h) (or_else meet None)))
      (unless_kind (is_avail (table_of file h) h.avail_size) (BadAvail (place_of h)) refl)
      (or_kind stack (or_else (free_fault file h) (or_else meet None)) (stack_kind (most_of h) (top_of file h))
      (or_kind (free_fault file h) (or_else meet None) (free_kind h)
      (or_kind meet None (meet_kind h.next_block [] (extents_held file h)) none_kind))))

  -- the first refusal of a file that is opened to write
  pub sound_kind : (d : DbError) → sound_fault file ≡ Some d → is_of_sound d ≡ true
  unfolding sound_fault
  sound_kind d is = or_kind (file_fault file) (space_fault file (header_of (front_of file))) file_kind (space_kind (header_of (front_of file))) d is
