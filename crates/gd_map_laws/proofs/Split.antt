-- A split keeps the parts and the map.
use Rattle.std.proofs.Common.{◌≡◌, ◌≢◌, ℕ, ◌+◌, ◌-◌, ◌*◌, ◌/◌, ◌%◌, ◌^◌, ◌<◌, ◌≤◌, ◌↔◌, Bool, true, false, List, [], ◌∷◌, ◌++◌, length, ◌⊎◌, refl, sym, ap, ◌∙◌, inl, inr, arith}
use Rattle.std.specs.Prelude.{◌==◌}
use Rattle.std.specs.Ordering.{int_eq}
use Rattle.std.specs.Str.{bytes_eq}
use Rattle.std.specs.List.{AllByRecursion}
use Rattle.std.proofs.lemmas.Bool.{cases_eq}
use Rattle.std.proofs.lemmas.Bool.Decides.{Decides-int_eq, Decides-eqb}
use Rattle.std.proofs.lemmas.Nat.{shr-shr, pow-add}
use Rattle.std.proofs.lemmas.Slice.Eq.{bytes_eq-Decides}
use Rattle.std.proofs.Math.Nat.{div-div-eq-div-mul}
use Rattle.gd_format.specs.declared.Header.{Header}
use Rattle.gd_format.specs.declared.Slot.{Slot}
use Rattle.gd_format.specs.declared.Slot.TheVariants.{Empty, Full}
use Rattle.gd_format.specs.Hash.{hash_of}
use Rattle.gd_format.specs.Field.{bytes_at}
use Rattle.gd_format.specs.HeaderFault.{natural, is_within}
use Rattle.gd_format.specs.Bucket.{slots_at}
use Rattle.gd_format.specs.File.{entry_at, entries_of, run_at, block_of, bits_at}
use Rattle.gd_format.proofs.Firsts.{and-true, both_true}
use Rattle.gd_format.specs.Slots.{count, SameSlots, is_astray}
use Rattle.gd_file_laws.specs.Parts.{IsBucketRight, HasParts}
use Rattle.gd_file_laws.proofs.Lists.{bool_cases}
use Rattle.gd_file_laws.proofs.Made.{bits_within}
use Rattle.gd_map_laws.specs.Lookup.{lookup, has_key, slot_records, index_of, value_at}
use Rattle.gd_map_laws.specs.Slots.{is_good, is_bad, is_place_in, is_slot_key, AreSlotsRight}
use Rattle.gd_map_laws.specs.Update.{IsRecordKept, SlotsChange}
use Rattle.gd_map_laws.specs.Split.{HalfBucket, SplitChange, MapStays}
use Rattle.gd_map_laws.proofs.Lists.{count-append}
use Rattle.gd_map_laws.proofs.Lookup.{index_below}
use Rattle.gd_map_laws.proofs.Slots.{of_bucket, of_slots, bad_if_not, not_false}
use Rattle.gd_map_laws.proofs.Update.{slots_changed, kept_records, records-append, same_records, same_lookup, has_pair, pair_key, good_kept, count_zero_head}
use Rattle.gd_map_laws.proofs.FileUpdate.{within_longer, fields_of}

-- ---- the slots of a half

top_of_half : (hash bits q side : ℕ) → bits < 31 → hash / 2 ^ (31 - bits) ≡ q → hash / 2 ^ (31 - (bits + 1)) % 2 ≡ side → hash / 2 ^ (31 - (bits + 1)) ≡ 2 * q + side
top_of_half hash bits q side lt top bit =
    let whole : 31 - (bits + 1) + 1 ≡ 31 - bits = omega arith in
    let e : hash / 2 ^ (31 - (bits + 1)) / 2 ^ 1 ≡ q = shr-shr hash (31 - (bits + 1)) 1 ∙ ap (λ (x : ℕ). hash / 2 ^ x) whole ∙ top in
    let f : hash / 2 ^ (31 - (bits + 1)) / 2 ≡ q = e in
    omega (arith, f, bit)

key_half : (bits q side hash : ℕ) (start key : List ℕ) → bits < 31 → is_slot_key bits q hash start key ≡ true → hash / 2 ^ (31 - (bits + 1)) % 2 ≡ side → is_slot_key (bits + 1) (2 * q + side) hash start key ≡ true
unfolding is_slot_key
key_half bits q side hash start key lt e bit =
    let a = and-true _ _ e in
    let b = and-true _ _ a.0 in
    both_true _ _ (both_true _ _ b.0 ((Decides-eqb (hash / 2 ^ (31 - (bits + 1))) (2 * q + side)).1 (top_of_half hash bits q side lt ((Decides-eqb (hash / 2 ^ (31 - bits)) q).0 b.1) bit))) a.1

good_half : (file : List ℕ) (bits q side : ℕ) (slot : Slot) → bits < 31 → is_good file bits q slot ≡ true → is_astray bits side slot ≡ false → is_good file (bits + 1) (2 * q + side) slot ≡ true
good_half file bits q side Empty lt good straight = refl
good_half file bits q side (Full hash start at k v) lt good straight =
    let a = and-true (is_place_in (length file) at (k + v)) (is_slot_key bits q hash start (bytes_at file at k)) good in
    let bit : hash / 2 ^ (31 - (bits + 1)) % 2 ≡ side = (Decides-eqb (hash / 2 ^ (31 - (bits + 1)) % 2) side).0 (not_false _ straight) in
    both_true _ _ a.0 (key_half bits q side hash start (bytes_at file at k) lt a.1 bit)

none_bad_half : (old new : List ℕ) (bits q side : ℕ) (slots : List Slot) → bits < 31 → length old ≤ length new → AllByRecursion (IsRecordKept old new) slots → count (is_bad old bits q) slots ≡ 0 → count (is_astray bits side) slots ≡ 0 → count (is_bad new (bits + 1) (2 * q + side)) slots ≡ 0
none_bad_half old new bits q side [] lt le kept good straight = refl
none_bad_half old new bits q side (x ∷ xs) lt le kept good straight =
    let a = count_zero_head (is_bad old bits q x) (count (is_bad old bits q) xs) good in
    let b = count_zero_head (is_astray bits side x) (count (is_astray bits side) xs) straight in
    let fine = bad_if_not (is_good new (bits + 1) (2 * q + side) x) (good_half new bits q side x lt (good_kept old new bits q x le kept.0 (not_false (is_good old bits q x) a.0)) b.0) in
    let ih = none_bad_half old new bits q side xs lt le kept.1 a.1 b.1 in
    rw fine (omega (arith, ih))

-- slots under other top bits have not the key
pub other_top : (file : List ℕ) (bits top : ℕ) (key : List ℕ) (slots : List Slot) → count (is_bad file bits top) slots ≡ 0 → hash_of key / 2 ^ (31 - bits) ≢ top → count (has_key key) (slot_records file slots) ≡ 0
unfolding is_slot_key
other_top file bits top key [] good ne = refl
other_top file bits top key (Empty ∷ slots) good ne = other_top file bits top key slots (omega (arith, good)) ne
other_top file bits top key (Full hash start at k v ∷ slots) good ne =
    let a = count_zero_head (is_bad file bits top (Full hash start at k v)) (count (is_bad file bits top) slots) good in
    let g = and-true (is_place_in (length file) at (k + v)) _ (not_false (is_good file bits top (Full hash start at k v)) a.0) in
    let c = and-true _ _ g.1 in
    let d = and-true (hash == hash_of (bytes_at file at k)) (hash / 2 ^ (31 - bits) == top) c.0 in
    let ih = other_top file bits top key slots a.1 ne in
    bool_cases (bytes_eq (bytes_at file at k) key)
    (λ t.
    let same : bytes_at file at k ≡ key = (bytes_eq-Decides (bytes_at file at k) key).0 t in
    let is : hash ≡ hash_of key = (Decides-eqb hash (hash_of (bytes_at file at k))).0 d.0 ∙ ap hash_of same in
    absurd (ne (sym (ap (λ (x : ℕ). x / 2 ^ (31 - bits)) is) ∙ (Decides-eqb (hash / 2 ^ (31 - bits)) top).0 d.1)))
    (λ f. rw f (omega (arith, ih)))

module _ (old new : List ℕ) (bits q elems : ℕ) (before first second : List Slot) (lt : bits < 31) (le : length old ≤ length new) (right : AreSlotsRight old bits q elems before) (same : SameSlots before (first ++ second)) where
  pub split_pairs : (p : List ℕ × List ℕ → Bool) → count p (slot_records old before) ≡ count p (slot_records old first) + count p (slot_records old second)
  split_pairs p = same_records old p before (first ++ second) same ∙ ap (count p) (records-append old first second) ∙ count-append p (slot_records old first) (slot_records old second)

-- one half: its slots are right, and where the other half has not the key, a look-up in it is one in the whole
module _ (old new : List ℕ) (bits q elems side : ℕ) (before mine its : List Slot) (lt : bits < 31) (le : length old ≤ length new) (right : AreSlotsRight old bits q elems before) (same : (p : Slot → Bool) → p Empty ≡ false → count p before ≡ count p mine + count p its) (pairs : (p : List ℕ × List ℕ → Bool) → count p (slot_records old before) ≡ count p (slot_records old mine) + count p (slot_records old its)) (kept : AllByRecursion (IsRecordKept old new) mine) (parted : count (is_astray bits side) mine ≡ 0) where
  half_good : count (is_bad new (bits + 1) (2 * q + side)) mine ≡ 0
  half_good =
      let g = right.good in
      let e = same (is_bad old bits q) refl in
      none_bad_half old new bits q side mine lt le kept (omega (arith, g, e)) parted

  half_once : (key : List ℕ) → count (has_key key) (slot_records new mine) ≤ 1
  half_once key =
      let o = right.once key in
      let e = pairs (has_key key) in
      rw (kept_records old new mine kept) (omega (arith, o, e))

  half_lookup : (key : List ℕ) → count (has_key key) (slot_records old its) ≡ 0 → lookup key (slot_records new mine) ≡ lookup key (slot_records old before)
  half_lookup key none =
      same_lookup key (slot_records new mine) (slot_records old before) (half_once key) (right.once key)
      (λ v.
      let e = pairs (has_pair key v) in
      let less = pair_key key v (slot_records old its) in
      let k = ap (count (has_pair key v)) (kept_records old new mine kept) in
      omega (arith, e, less, none, k))

-- ---- the file

-- a bucket that stands, with its records, is right still
pub still_right : (old new : List ℕ) (h : Header) (block : List ℕ) (top : ℕ) → h.dir_bits ≤ 24 → length old ≤ length new → bits_at block ≤ h.dir_bits → IsBucketRight old h block top → AllByRecursion (IsRecordKept old new) (slots_at block h.elems) → IsBucketRight new h block top
still_right old new h block top bits_le le bits right kept =
    let slots = of_bucket old h block top right in
    let same : SlotsChange old new (bits_at block) top h.elems (slots_at block h.elems) (slots_at block h.elems) [] [] (slots_at block h.elems) =
    record { before_is = λ p e. refl; after_is = λ p e. refl; kept = kept; good = refl; once = slots.once; reached = slots.reached } in
    let done = slots_changed old new (bits_at block) top h.elems (slots_at block h.elems) (slots_at block h.elems) [] [] (slots_at block h.elems) le slots same in
    of_slots new h block top (fields_of old h block top bits_le right) right.count bits done.right

halves : (x q : ℕ) → x / 2 ≡ q → (x ≡ 2 * q) ⊎ (x ≡ 2 * q + 1)
halves x q e =
    elim (cases_eq (x % 2) 0) [ inl z ↦ inl (omega (arith, e, z)) | inr o ↦ inr (omega (arith, e, o)) ]

module _ (old new : List ℕ) (h : Header) (i at bits half q : ℕ) (bits_le : h.dir_bits ≤ 24) (parts : HasParts old h) (li : i < entries_of h) (change : SplitChange old new h i at bits half q) where
  pub entry_cases : (j : ℕ) {P : Type 0} → (entry_at old h j ≡ entry_at old h i → P) → (entry_at old h j ≢ entry_at old h i → P) → P
  entry_cases j p f =
      bool_cases (int_eq (entry_at old h j) (entry_at old h i))
      (λ t. p ((Decides-int_eq (entry_at old h j) (entry_at old h i)).0 t))
      (λ u. f (λ e. let t = (Decides-int_eq (entry_at old h j) (entry_at old h i)).1 e in absurd (cc (t, u))))

  pub bits_small : bits < 24
  bits_small = let l = change.less in omega arith

  pub run_is : run_at old h i ≡ half * 2
  unfolding run_at
  run_is =
      let l = change.less in
      let b = change.bits_is in
      let e : h.dir_bits - bits ≡ h.dir_bits - (bits + 1) + 1 = omega arith in
      let p : 2 ^ (h.dir_bits - bits) ≡ 2 ^ (h.dir_bits - (bits + 1)) * 2 = ap (λ (x : ℕ). 2 ^ x) e ∙ pow-add 2 (h.dir_bits - (bits + 1)) 1 in
      let f : half * 2 ≡ 2 ^ (h.dir_bits - (bits + 1)) * 2 = ap (λ (x : ℕ). x * 2) change.half_is in
      ap (λ (x : ℕ). 2 ^ (h.dir_bits - x)) b ∙ p ∙ sym f

  halved : (j : ℕ) → j / half / 2 ≡ j / run_at old h i
  halved j = div-div-eq-div-mul j half 2 ∙ ap (λ (x : ℕ). j / x) (sym run_is)

  -- the entries of the run, and their halves
  pub in_run : (j : ℕ) → j < entries_of h → entry_at old h j ≡ entry_at old h i → j / half / 2 ≡ q
  in_run j lj e = halved j ∙ (parts.dir.one_run i j li lj).0 e ∙ change.q_is

  pub from_run : (j : ℕ) → j < entries_of h → j / half / 2 ≡ q → entry_at old h j ≡ entry_at old h i
  from_run j lj e = (parts.dir.one_run i j li lj).1 (sym (halved j) ∙ e ∙ sym change.q_is)

  pub classify : (j : ℕ) → j < entries_of h → {P : Type 0} → (entry_at old h j ≢ entry_at old h i → P) → (j / half ≡ 2 * q → P) → (j / half ≡ 2 * q + 1 → P) → P
  classify j lj other low high =
      entry_cases j (λ e. elim (halves (j / half) q (in_run j lj e)) [ inl l ↦ low l | inr g ↦ high g ]) other

  pub low_old : (j : ℕ) → j < entries_of h → j / half ≡ 2 * q → entry_at old h j ≡ entry_at old h i
  low_old j lj e = from_run j lj (omega (arith, e))

  pub high_old : (j : ℕ) → j < entries_of h → j / half ≡ 2 * q + 1 → entry_at old h j ≡ entry_at old h i
  high_old j lj e = from_run j lj (omega (arith, e))

  pub other_new : (j : ℕ) → j < entries_of h → entry_at old h j ≢ entry_at old h i → entry_at new h j ≡ entry_at old h j
  other_new j lj ne = change.low j lj (λ e. ne (high_old j lj e))

  pub low_new : (j : ℕ) → j < entries_of h → j / half ≡ 2 * q → entry_at new h j ≡ entry_at old h i
  low_new j lj e = change.low j lj (λ f. omega (arith, e, f)) ∙ low_old j lj e

  pub other_block : (j : ℕ) → j < entries_of h → entry_at old h j ≢ entry_at old h i → block_of new h j ≡ block_of old h j
  unfolding block_of
  other_block j lj ne = rw (other_new j lj ne) (change.others j lj ne)

  pub low_block : (j : ℕ) → j < entries_of h → j / half ≡ 2 * q → block_of new h j ≡ bytes_at new (natural (entry_at old h i)) h.block
  unfolding block_of
  low_block j lj e = rw (low_new j lj e) refl

  pub high_block : (j : ℕ) → j < entries_of h → j / half ≡ 2 * q + 1 → block_of new h j ≡ bytes_at new at h.block
  unfolding block_of
  high_block j lj e = rw (change.high j lj e) refl

  run_of_bits : (j : ℕ) (block : List ℕ) → block_of new h j ≡ block → bits_at block ≡ bits + 1 → run_at new h j ≡ half
  unfolding run_at
  run_of_bits j block e b = ap (λ (x : List ℕ). 2 ^ (h.dir_bits - bits_at x)) e ∙ ap (λ (x : ℕ). 2 ^ (h.dir_bits - x)) b ∙ sym change.half_is

  other_run : (j : ℕ) → j < entries_of h → entry_at old h j ≢ entry_at old h i → run_at new h j ≡ run_at old h j
  unfolding run_at
  other_run j lj ne = ap (λ (x : List ℕ). 2 ^ (h.dir_bits - bits_at x)) (other_block j lj ne)

  low_run : (j : ℕ) → j < entries_of h → j / half ≡ 2 * q → run_at new h j ≡ half
  low_run j lj e = run_of_bits j _ (low_block j lj e) change.first.bits_more

  high_run : (j : ℕ) → j < entries_of h → j / half ≡ 2 * q + 1 → run_at new h j ≡ half
  high_run j lj e = run_of_bits j _ (high_block j lj e) change.second.bits_more

  -- two entries are one exactly where one run has both
  one_run : (j k : ℕ) → j < entries_of h → k < entries_of h → (entry_at new h k ≡ entry_at new h j) ↔ (k / run_at new h j ≡ j / run_at new h j)
  one_run j k lj lk =
      classify j lj
      (λ jo.
      let ej = other_new j lj jo in
      let rj = other_run j lj jo in
      classify k lk
      (λ ko. rw (ej, other_new k lk ko, rj) (parts.dir.one_run j k lj lk))
      (λ kl.
      let ok = low_old k lk kl in (
        λ e. absurd (jo (sym (sym (low_new k lk kl) ∙ e ∙ ej))),
        λ e. let f : k / run_at old h j ≡ j / run_at old h j = rw rj at e in absurd (jo (sym ((parts.dir.one_run j k lj lk).1 f) ∙ ok)),
      ))
      (λ kh.
      let ok = high_old k lk kh in (
        λ e. absurd (change.fresh j lj (sym (sym (change.high k lk kh) ∙ e ∙ ej))),
        λ e. let f : k / run_at old h j ≡ j / run_at old h j = rw rj at e in absurd (jo (sym ((parts.dir.one_run j k lj lk).1 f) ∙ ok)),
      )))
      (λ jl.
      let ej = low_new j lj jl in
      let rj = low_run j lj jl in
      classify k lk
      (λ ko. (
        λ e. absurd (ko (sym (other_new k lk ko) ∙ e ∙ ej)),
        λ e. let f : k / half ≡ j / half = rw rj at e in absurd (ko (low_old k lk (f ∙ jl))),
      ))
      (λ kl. (λ e. rw rj (kl ∙ sym jl), λ e. low_new k lk kl ∙ sym ej))
      (λ kh. (
        λ e. absurd (change.fresh i li (sym (sym (change.high k lk kh) ∙ e ∙ ej))),
        λ e. let f : k / half ≡ j / half = rw rj at e in absurd (omega (arith, f, jl, kh)),
      )))
      (λ jh.
      let ej = change.high j lj jh in
      let rj = high_run j lj jh in
      classify k lk
      (λ ko. (
        λ e. absurd (change.fresh k lk (sym (other_new k lk ko) ∙ e ∙ ej)),
        λ e. let f : k / half ≡ j / half = rw rj at e in absurd (ko (high_old k lk (f ∙ jh))),
      ))
      (λ kl. (
        λ e. absurd (change.fresh i li (sym (low_new k lk kl) ∙ e ∙ ej)),
        λ e. let f : k / half ≡ j / half = rw rj at e in absurd (omega (arith, f, jh, kl)),
      ))
      (λ kh. (λ e. rw rj (kh ∙ sym jh), λ e. change.high k lk kh ∙ sym ej)))

  in_file : (j : ℕ) → j < entries_of h → is_within (entry_at new h j) 0 (length new - h.block) ≡ true
  in_file j lj =
      let longer = λ (k : ℕ) (lk : k < entries_of h). within_longer (entry_at old h k) (length old - h.block) (length new - h.block) (let b = change.longer in omega arith) (parts.dir.in_file k lk) in
      classify j lj
      (λ o. rw (other_new j lj o) (longer j lj))
      (λ l. rw (low_new j lj l) (longer i li))
      (λ g. rw (change.high j lj g) change.in_file)

  -- the buckets
  slots_here : AreSlotsRight old bits q h.elems (slots_at (block_of old h i) h.elems)
  slots_here = rw (change.bits_is, change.q_is) at (of_bucket old h (block_of old h i) (i / run_at old h i) (parts.buckets i li))

  bits_31 : bits < 31
  bits_31 = let l = bits_small in omega arith

  half_right : (side : ℕ) (block other : List ℕ) → HalfBucket old new h bits side block → ((p : Slot → Bool) → p Empty ≡ false → count p (slots_at (block_of old h i) h.elems) ≡ count p (slots_at block h.elems) + count p (slots_at other h.elems)) → ((p : List ℕ × List ℕ → Bool) → count p (slot_records old (slots_at (block_of old h i) h.elems)) ≡ count p (slot_records old (slots_at block h.elems)) + count p (slot_records old (slots_at other h.elems))) → IsBucketRight new h block (2 * q + side)
  half_right side block other here same pairs =
      let right : AreSlotsRight new (bits + 1) (2 * q + side) h.elems (slots_at block h.elems) =
      record {
        good = half_good old new bits q h.elems side (slots_at (block_of old h i) h.elems) (slots_at block h.elems) (slots_at other h.elems) bits_31 change.longer slots_here same pairs here.kept here.parted;
        once = half_once old new bits q h.elems side (slots_at (block_of old h i) h.elems) (slots_at block h.elems) (slots_at other h.elems) bits_31 change.longer slots_here same pairs here.kept here.parted;
        reached = here.reached;
      } in
      let le : bits_at block ≤ h.dir_bits = let b = here.bits_more in let l = change.less in omega arith in
      of_slots new h block (2 * q + side) here.fields here.number le (rw here.bits_more right)

  pub both_counts : (p : Slot → Bool) → p Empty ≡ false → count p (slots_at (block_of old h i) h.elems) ≡ count p (slots_at (bytes_at new (natural (entry_at old h i)) h.block) h.elems) + count p (slots_at (bytes_at new at h.block) h.elems)
  both_counts p e = change.same p e ∙ count-append p (slots_at (bytes_at new (natural (entry_at old h i)) h.block) h.elems) (slots_at (bytes_at new at h.block) h.elems)

  both_pairs : (p : List ℕ × List ℕ → Bool) → count p (slot_records old (slots_at (block_of old h i) h.elems)) ≡ count p (slot_records old (slots_at (bytes_at new (natural (entry_at old h i)) h.block) h.elems)) + count p (slot_records old (slots_at (bytes_at new at h.block) h.elems))
  both_pairs p = split_pairs old new bits q h.elems (slots_at (block_of old h i) h.elems) (slots_at (bytes_at new (natural (entry_at old h i)) h.block) h.elems) (slots_at (bytes_at new at h.block) h.elems) bits_31 change.longer slots_here change.same p

  turned_counts : (p : Slot → Bool) → p Empty ≡ false → count p (slots_at (block_of old h i) h.elems) ≡ count p (slots_at (bytes_at new at h.block) h.elems) + count p (slots_at (bytes_at new (natural (entry_at old h i)) h.block) h.elems)
  turned_counts p e = let b = both_counts p e in omega (arith, b)

  turned_pairs : (p : List ℕ × List ℕ → Bool) → count p (slot_records old (slots_at (block_of old h i) h.elems)) ≡ count p (slot_records old (slots_at (bytes_at new at h.block) h.elems)) + count p (slot_records old (slots_at (bytes_at new (natural (entry_at old h i)) h.block) h.elems))
  turned_pairs p = let b = both_pairs p in omega (arith, b)

  first_right : IsBucketRight new h (bytes_at new (natural (entry_at old h i)) h.block) (2 * q + 0)
  first_right = half_right 0 (bytes_at new (natural (entry_at old h i)) h.block) (bytes_at new at h.block) change.first both_counts both_pairs

  second_right : IsBucketRight new h (bytes_at new at h.block) (2 * q + 1)
  second_right = half_right 1 (bytes_at new at h.block) (bytes_at new (natural (entry_at old h i)) h.block) change.second turned_counts turned_pairs

  buckets : (j : ℕ) → j < entries_of h → IsBucketRight new h (block_of new h j) (j / run_at new h j)
  buckets j lj =
      classify j lj
      (λ o. rw (other_block j lj o, other_run j lj o) (still_right old new h (block_of old h j) (j / run_at old h j) bits_le change.longer (bits_within old h parts j lj) (parts.buckets j lj) (change.records j lj o)))
      (λ l. let e : j / half ≡ 2 * q + 0 = omega (arith, l) in rw (low_block j lj l, low_run j lj l, e) first_right)
      (λ g. rw (high_block j lj g, high_run j lj g, g) second_right)

  -- the map
  key_top : (key : List ℕ) → index_of h key / half ≡ hash_of key / 2 ^ (31 - (bits + 1))
  unfolding index_of
  key_top key =
      let l = change.less in
      let whole : 31 - h.dir_bits + (h.dir_bits - (bits + 1)) ≡ 31 - (bits + 1) = omega arith in
      ap (λ (x : ℕ). hash_of key / 2 ^ (31 - h.dir_bits) / x) change.half_is ∙ shr-shr (hash_of key) (31 - h.dir_bits) (h.dir_bits - (bits + 1)) ∙ ap (λ (x : ℕ). hash_of key / 2 ^ x) whole

  old_value : (key : List ℕ) → entry_at old h (index_of h key) ≡ entry_at old h i → value_at old h key ≡ lookup key (slot_records old (slots_at (block_of old h i) h.elems))
  unfolding value_at block_of
  old_value key e = rw e refl

  no_key : (key : List ℕ) (side : ℕ) (block : List ℕ) → HalfBucket old new h bits side block → IsBucketRight new h block (2 * q + side) → index_of h key / half ≢ 2 * q + side → count (has_key key) (slot_records old (slots_at block h.elems)) ≡ 0
  no_key key side block here right ne =
      let good : count (is_bad new (bits + 1) (2 * q + side)) (slots_at block h.elems) ≡ 0 = rw here.bits_more at (of_bucket new h block (2 * q + side) right).good in
      let none = other_top new (bits + 1) (2 * q + side) key (slots_at block h.elems) good (λ e. ne (key_top key ∙ e)) in
      let k = ap (count (has_key key)) (kept_records old new (slots_at block h.elems) here.kept) in
      omega (arith, none, k)

  map_stays : (key : List ℕ) → value_at new h key ≡ value_at old h key
  unfolding value_at
  map_stays key =
      let lt = index_below h key bits_le in
      classify (index_of h key) lt
      (λ o.
      ap (λ (block : List ℕ). lookup key (slot_records new (slots_at block h.elems))) (other_block (index_of h key) lt o)
      ∙ ap (lookup key) (kept_records old new (slots_at (block_of old h (index_of h key)) h.elems) (change.records (index_of h key) lt o)))
      (λ l.
      let none = no_key key 1 (bytes_at new at h.block) change.second second_right (λ e. omega (arith, e, l)) in
      ap (λ (block : List ℕ). lookup key (slot_records new (slots_at block h.elems))) (low_block (index_of h key) lt l)
      ∙ half_lookup old new bits q h.elems 0 (slots_at (block_of old h i) h.elems) (slots_at (bytes_at new (natural (entry_at old h i)) h.block) h.elems) (slots_at (bytes_at new at h.block) h.elems) bits_31 change.longer slots_here both_counts both_pairs change.first.kept change.first.parted key none
      ∙ sym (old_value key (low_old (index_of h key) lt l)))
      (λ g.
      let none = no_key key 0 (bytes_at new (natural (entry_at old h i)) h.block) change.first first_right (λ e. omega (arith, e, g)) in
      ap (λ (block : List ℕ). lookup key (slot_records new (slots_at block h.elems))) (high_block (index_of h key) lt g)
      ∙ half_lookup old new bits q h.elems 1 (slots_at (block_of old h i) h.elems) (slots_at (bytes_at new at h.block) h.elems) (slots_at (bytes_at new (natural (entry_at old h i)) h.block) h.elems) bits_31 change.longer slots_here turned_counts turned_pairs change.second.kept change.second.parted key none
      ∙ sym (old_value key (high_old (index_of h key) lt g)))

  pub split_stays : MapStays old new h h
  split_stays =
      record {
        parts = record {
          dir = record { block_fits = let a = parts.dir.block_fits in let b = change.longer in omega arith; in_file = in_file; one_run = one_run };
          buckets = buckets;
        };
        map = map_stays;
      }
