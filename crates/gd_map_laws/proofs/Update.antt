-- A change of the slots of one bucket.
use Rattle.std.proofs.Common.{◌≡◌, ℕ, ◌+◌, ◌^◌, ◌≤◌, Bool, true, false, ◌&&◌, ◌||◌, cond, List, [], ◌∷◌, ◌++◌, length, Option, Some, None, refl, sym, ap, ◌∙◌, arith}
use Rattle.std.specs.Prelude.{nat_le, ◌==◌}
use Rattle.std.proofs.lemmas.Bool.{le-leb, leb-true}
use Rattle.std.proofs.lemmas.Slice.Eq.{bytes_eq-Decides}
use Rattle.std.specs.Str.{bytes_eq}
use Rattle.std.specs.List.{AllByRecursion}
use Rattle.gd_format.specs.declared.Slot.{Slot}
use Rattle.gd_format.specs.declared.Slot.TheVariants.{Empty, Full}
use Rattle.gd_format.specs.Field.{bytes_at}
use Rattle.gd_format.proofs.Firsts.{and-true, both_true}
use Rattle.gd_format.specs.Slots.{count, SameSlots}
use Rattle.gd_file_laws.proofs.Lists.{bool_cases}
use Rattle.gd_map_laws.specs.Lookup.{lookup, has_key, slot_record, slot_records}
use Rattle.gd_map_laws.specs.Slots.{is_good, is_bad, is_place_in, is_slot_key, AreSlotsRight}
use Rattle.gd_map_laws.specs.Update.{IsRecordKept, SlotsChange, SlotsChanged}
use Rattle.gd_map_laws.proofs.Lists.{count-append}
use Rattle.std.proofs.lemmas.Grind.{flat_map-append}
use Rattle.gd_map_laws.proofs.Slots.{bad_if_not, not_false}

-- ---- a look-up is told by counts

unfoldable pub has_pair : List ℕ → List ℕ → List ℕ × List ℕ → Bool
has_pair key v p = bytes_eq p.0 key && bytes_eq p.1 v

module _ (key : List ℕ) where
  pub lookup_has : (v : List ℕ) (xs : List (List ℕ × List ℕ)) → lookup key xs ≡ Some v → 1 ≤ count (has_pair key v) xs
  unfolding has_pair
  lookup_has v [] e = absurd cc
  lookup_has v (x ∷ xs) e =
      bool_cases (bytes_eq x.0 key)
      (λ t.
      let found : Some x.1 ≡ Some v = rw t at e in
      let same : x.1 ≡ v = cc in
      rw (t, (bytes_eq-Decides x.1 v).1 same) (omega arith))
      (λ f. let rest : lookup key xs ≡ Some v = rw f at e in let ih = lookup_has v xs rest in rw f (omega (arith, ih)))

  pub pair_key : (v : List ℕ) (xs : List (List ℕ × List ℕ)) → count (has_pair key v) xs ≤ count (has_key key) xs
  unfolding has_pair
  pair_key v [] = omega arith
  pair_key v (x ∷ xs) =
      let ih = pair_key v xs in
      bool_cases (bytes_eq x.0 key)
      (λ t. bool_cases (bytes_eq x.1 v) (λ u. rw (t, u) (omega (arith, ih))) (λ u. rw (t, u) (omega (arith, ih))))
      (λ f. rw f (omega (arith, ih)))

  pub lookup_finds : (v : List ℕ) (xs : List (List ℕ × List ℕ)) → count (has_key key) xs ≤ 1 → 1 ≤ count (has_pair key v) xs → lookup key xs ≡ Some v
  unfolding has_pair
  lookup_finds v [] once some = absurd (omega arith)
  lookup_finds v (x ∷ xs) once some =
      bool_cases (bytes_eq x.0 key)
      (λ t.
      let one : 1 + count (has_key key) xs ≤ 1 = rw t at once in
      let less = pair_key v xs in
      bool_cases (bytes_eq x.1 v)
      (λ u. rw t (ap Some ((bytes_eq-Decides x.1 v).0 u)))
      (λ u. let none : 1 ≤ 0 + count (has_pair key v) xs = rw (t, u) at some in absurd (omega (arith, one, less, none))))
      (λ f.
      let one : 0 + count (has_key key) xs ≤ 1 = rw f at once in
      let more : 1 ≤ 0 + count (has_pair key v) xs = rw f at some in
      rw f (lookup_finds v xs (omega (arith, one)) (omega (arith, more))))

  pub option_cases : (x : Option (List ℕ)) {P : Type 0} → (x ≡ None → P) → ((v : List ℕ) → x ≡ Some v → P) → P
  option_cases None p q = p refl
  option_cases (Some v) p q = q v refl

  pub same_lookup : (xs ys : List (List ℕ × List ℕ)) → count (has_key key) xs ≤ 1 → count (has_key key) ys ≤ 1 → ((v : List ℕ) → count (has_pair key v) xs ≡ count (has_pair key v) ys) → lookup key xs ≡ lookup key ys
  same_lookup xs ys ox oy same =
      option_cases (lookup key ys)
      (λ n.
      option_cases (lookup key xs)
      (λ m. m ∙ sym n)
      (λ v m.
      let a = lookup_has v xs m in
      let b = same v in
      let c = lookup_finds v ys oy (omega (arith, a, b)) in
      absurd (cc (n, c))))
      (λ v m. let a = lookup_has v ys m in let b = same v in lookup_finds v xs ox (omega (arith, a, b)) ∙ sym m)

-- ---- counts of records, by slots

unfoldable pub slot_test : List ℕ → (List ℕ × List ℕ → Bool) → Slot → Bool
slot_test file q Empty = false
slot_test file q (Full hash start at k v) = q (bytes_at file at k, bytes_at file (at + k) v)

pub count_records : (file : List ℕ) (q : List ℕ × List ℕ → Bool) (slots : List Slot) → count q (slot_records file slots) ≡ count (slot_test file q) slots
unfolding slot_test
count_records file q [] = refl
count_records file q (Empty ∷ slots) = let ih = count_records file q slots in omega (arith, ih)
count_records file q (Full hash start at k v ∷ slots) = let ih = count_records file q slots in omega (arith, ih)

pub same_records : (file : List ℕ) (q : List ℕ × List ℕ → Bool) (xs ys : List Slot) → SameSlots xs ys → count q (slot_records file xs) ≡ count q (slot_records file ys)
unfolding slot_test
same_records file q xs ys same = count_records file q xs ∙ same (slot_test file q) refl ∙ sym (count_records file q ys)

pub kept_records : (old new : List ℕ) (rest : List Slot) → AllByRecursion (IsRecordKept old new) rest → slot_records new rest ≡ slot_records old rest
kept_records old new [] h = refl
kept_records old new (x ∷ xs) h = rw (h.0, kept_records old new xs h.1) refl

pub records-append : (file : List ℕ) (xs ys : List Slot) → slot_records file (xs ++ ys) ≡ slot_records file xs ++ slot_records file ys
records-append file xs ys = flat_map-append (slot_record file) xs ys

place_longer : (m n at size : ℕ) → m ≤ n → is_place_in m at size ≡ true → is_place_in n at size ≡ true
unfolding is_place_in
place_longer m n at size le e =
    let a = and-true (nat_le size (2 ^ 30)) (size == 0 || nat_le (at + size) m) e in
    both_true _ _ a.0 (longer (size == 0) a.1)
  where
    longer : (b : Bool) → (b || nat_le (at + size) m) ≡ true → (b || nat_le (at + size) n) ≡ true
    longer true h = refl
    longer false h = let l = leb-true (at + size) m h in le-leb (at + size) n (omega arith)

key_kept : (old new : List ℕ) (hash : ℕ) (start : List ℕ) (at k v : ℕ) → IsRecordKept old new (Full hash start at k v) → bytes_at new at k ≡ bytes_at old at k
key_kept old new hash start at k v e =
    let p : (bytes_at new at k, bytes_at new (at + k) v) ≡ (bytes_at old at k, bytes_at old (at + k) v) = cc in
    ap (λ (x : List ℕ × List ℕ). x.0) p

pub good_kept : (old new : List ℕ) (bits top : ℕ) (slot : Slot) → length old ≤ length new → IsRecordKept old new slot → is_good old bits top slot ≡ true → is_good new bits top slot ≡ true
good_kept old new bits top Empty le kept e = refl
good_kept old new bits top (Full hash start at k v) le kept e =
    let a = and-true (is_place_in (length old) at (k + v)) (is_slot_key bits top hash start (bytes_at old at k)) e in
    both_true _ _ (place_longer (length old) (length new) at (k + v) le a.0) (rw (key_kept old new hash start at k v kept) a.1)

pub count_zero_head : (b : Bool) (n : ℕ) → cond b 1 0 + n ≡ 0 → (b ≡ false) × (n ≡ 0)
count_zero_head true n e = absurd (omega arith)
count_zero_head false n e = (refl, omega arith)

none_bad : (old new : List ℕ) (bits top : ℕ) (rest : List Slot) → length old ≤ length new → AllByRecursion (IsRecordKept old new) rest → count (is_bad old bits top) rest ≡ 0 → count (is_bad new bits top) rest ≡ 0
none_bad old new bits top [] le kept e = refl
none_bad old new bits top (x ∷ xs) le kept e =
    let parts = count_zero_head (is_bad old bits top x) (count (is_bad old bits top) xs) e in
    let fine = bad_if_not (is_good new bits top x) (good_kept old new bits top x le kept.0 (not_false (is_good old bits top x) parts.0)) in
    let ih = none_bad old new bits top xs le kept.1 parts.1 in
    rw fine (omega (arith, ih))

module _ (old new : List ℕ) (bits top elems : ℕ) (before after gone come rest : List Slot) (le : length old ≤ length new) (right : AreSlotsRight old bits top elems before) (change : SlotsChange old new bits top elems before after gone come rest) where
  after_pairs : (q : List ℕ × List ℕ → Bool) → count q (slot_records new after) ≡ count q (slot_records new come ++ slot_records old rest)
  after_pairs q =
      same_records new q after (come ++ rest) change.after_is ∙ ap (count q) (records-append new come rest)
      ∙ ap (λ (l : List (List ℕ × List ℕ)). count q (slot_records new come ++ l)) (kept_records old new rest change.kept)

  before_pairs : (q : List ℕ × List ℕ → Bool) → count q (slot_records old before) ≡ count q (slot_records old gone ++ slot_records old rest)
  before_pairs q = same_records old q before (gone ++ rest) change.before_is ∙ ap (count q) (records-append old gone rest)

  after_once : (key : List ℕ) → count (has_key key) (slot_records new after) ≤ 1
  after_once key = let o = change.once key in let e = after_pairs (has_key key) in omega (arith, o, e)

  after_good : count (is_bad new bits top) after ≡ 0
  after_good =
      let all = change.before_is (is_bad old bits top) refl in
      let split = count-append (is_bad old bits top) gone rest in
      let zero_rest : count (is_bad old bits top) rest ≡ 0 = let g = right.good in omega (arith, all, split, g) in
      let fine = none_bad old new bits top rest le change.kept zero_rest in
      let now = change.after_is (is_bad new bits top) refl in
      let parts = count-append (is_bad new bits top) come rest in
      let g = change.good in
      omega (arith, now, parts, g, fine)

  pub slots_changed : SlotsChanged old new bits top elems before after gone come rest
  slots_changed =
      record {
        right = record { good = after_good; once = after_once; reached = change.reached };
        new_map = λ key. same_lookup key _ _ (after_once key) (change.once key) (λ v. after_pairs (has_pair key v));
        old_map = λ key. same_lookup key _ _ (right.once key) (let o = right.once key in let e = before_pairs (has_key key) in omega (arith, o, e)) (λ v. before_pairs (has_pair key v));
      }
