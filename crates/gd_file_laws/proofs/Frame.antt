-- A write keeps what lies aside.
use Rattle.std.proofs.Common.{◌≡◌, ℕ, ◌+◌, ◌-◌, ◌*◌, ◌<◌, ◌≤◌, Bool, true, false, ◌&&◌, ◌||◌, not, List, ◌++◌, length, take, drop, replicate, refl, sym, ap, ◌∙◌, inl, inr, arith, length-append, length-drop, append_assoc}
use Rattle.std.proofs.lemmas.Bool.{le-leb, leb-true, cases_lt}
use Rattle.std.proofs.lemmas.Bool.Decides.{Decides-eqb}
use Rattle.std.proofs.lemmas.List.{length-replicate, take-append-le, drop-append-le, take-append-drop, length-take-le, drop_at, drop-drop}
use Rattle.std.specs.Prelude.{◌==◌, nat_le, ℤ, pos, negsuc}
use Rattle.std.specs.Str.{bytes_eq}
use Rattle.gd_format.specs.declared.Header.{Header}
use Rattle.gd_format.specs.declared.RawSlot.{RawSlot}
use Rattle.gd_format.specs.Field.{bytes_at, i64_at, u64_at}
use Rattle.gd_format.specs.HeaderFault.{natural, is_within}
use Rattle.gd_format.specs.Bucket.{raw_slot_at}
use Rattle.gd_format.specs.File.{entry_at, entries_of, block_of, size_of, is_record_in, is_key_new, is_other_key, is_full_at, key_of, value_of, key_at, record_of, bucket_records}
use Rattle.gd_format.proofs.Firsts.{all_below_from, all_below-at, and-true}
use Rattle.gd_file_laws.specs.Parts.{IsSlotRight, IsBucketRight, HasParts}
use Rattle.gd_file_laws.specs.Frame.{IsPartStill, PartKept, AreValuesStill, IsAside, IsAsideOfValues, AreApart, written}
use Rattle.gd_file_laws.proofs.Lists.{map_passing, bool_cases}

-- ---- what reads alike

or_mono : (a b c : Bool) → (b ≡ true → c ≡ true) → (a || b) ≡ true → (a || c) ≡ true
or_mono true b c h e = refl
or_mono false b c h e = h e

not_and_same : (b x y : Bool) → (b ≡ true → x ≡ y) → not (b && x) ≡ true → not (b && y) ≡ true
not_and_same true x y h e = rw (← h refl) e
not_and_same false x y h e = refl

-- a longer file has the record too
pub record_in_longer : (m n : ℕ) (r : RawSlot) → m ≤ n → is_record_in m r ≡ true → is_record_in n r ≡ true
unfolding is_record_in
record_in_longer m n r le e =
    or_mono (size_of r == 0) (nat_le (natural r.at + size_of r) m) (nat_le (natural r.at + size_of r) n)
    (λ fits. le-leb (natural r.at + size_of r) n (let ends = leb-true (natural r.at + size_of r) m fits in omega arith)) e

module _ (old new : List ℕ) (h : Header) (i : ℕ) (still : IsPartStill old new h i) where
  entry_kept : entry_at new h i ≡ entry_at old h i
  unfolding entry_at i64_at u64_at
  entry_kept = rw still.entry refl

  block_kept : block_of new h i ≡ block_of old h i
  unfolding block_of
  block_kept = rw entry_kept still.block

  new_kept : (s : ℕ) → s < h.elems → is_full_at (block_of old h i) s ≡ true → is_key_new old (block_of old h i) s ≡ true → is_key_new new (block_of old h i) s ≡ true
  unfolding is_key_new is_other_key
  new_kept s lt full e =
      all_below_from _ s
      (λ t below.
      not_and_same (is_full_at (block_of old h i) t) _ _
      (λ full_t. sym (ap (λ (k : List ℕ). bytes_eq k (key_at new (block_of old h i) s)) (still.keys t (omega arith) full_t)
      ∙ ap (bytes_eq (key_at old (block_of old h i) t)) (still.keys s lt full)))
      (all_below-at _ s e t below))

  slot_kept : (top s : ℕ) → s < h.elems → is_full_at (block_of old h i) s ≡ true → IsSlotRight old (block_of old h i) top s → IsSlotRight new (block_of old h i) top s
  slot_kept top s lt full right =
      record {
        fields = right.fields;
        record_in = record_in_longer (length old) (length new) _ still.longer right.record_in;
        key = rw (still.keys s lt full) right.key;
        new = new_kept s lt full right.new;
      }

  pub kept : (top : ℕ) → IsBucketRight old h (block_of old h i) top → PartKept old new h i top
  kept top right =
      record {
        entry = entry_kept;
        block = block_kept;
        part = rw block_kept (record { counts = right.counts; count = right.count; slots = λ s lt full. slot_kept top s lt full (right.slots s lt full); reached = right.reached });
      }

  pub records_kept : AreValuesStill old new h i → bucket_records new h.elems (block_of new h i) ≡ bucket_records old h.elems (block_of old h i)
  unfolding bucket_records
  records_kept values =
      rw block_kept
      (map_passing (is_full_at (block_of old h i)) (λ s. record_of new (raw_slot_at (block_of old h i) s)) (λ s. record_of old (raw_slot_at (block_of old h i) s)) h.elems
      (λ s lt full. let k = still.keys s lt full in let v = values s lt full in rw (k, v) refl))

-- ---- a write

pub bytes_at-front : (xs ys : List ℕ) (a n : ℕ) → a + n ≤ length xs → bytes_at (xs ++ ys) a n ≡ bytes_at xs a n
bytes_at-front xs ys a n h =
    let dropped = drop-append-le a xs ys (omega arith) in
    let room : n ≤ length (drop a xs) = omega (arith, length-drop a xs) in
    rw dropped (take-append-le n (drop a xs) ys room)

pub bytes_at-back : (xs ys : List ℕ) (a k n : ℕ) → a ≡ length xs + k → bytes_at (xs ++ ys) a n ≡ bytes_at ys k n
bytes_at-back xs ys a k n e =
    let d : drop a (xs ++ ys) ≡ drop k ys = ap (λ (x : ℕ). drop x (xs ++ ys)) e ∙ sym (drop-drop k (length xs) (xs ++ ys)) ∙ ap (drop k) (drop_at xs ys (length xs) refl) in
    ap (take n) d

module _ (file bs : List ℕ) (at : ℕ) where
  abbrev padded : List ℕ
  padded = file ++ replicate (at - length file) 0

  length-padded : at ≤ length padded
  length-padded = omega (arith, length-append file (replicate (at - length file) 0), length-replicate {A = ℕ} (at - length file) 0)

  length-front : length (take at padded) ≡ at
  length-front = length-take-le at padded length-padded

  pub bytes_at-written : (a n : ℕ) → a + n ≤ length file → AreApart a n at (length bs) → bytes_at (written file at bs) a n ≡ bytes_at file a n
  unfolding written
  bytes_at-written a n fits (inl below) =
      let front = length-front in
      let left : bytes_at ((take at padded ++ bs) ++ drop (at + length bs) file) a n ≡ bytes_at (take at padded) a n =
      ap (λ (xs : List ℕ). bytes_at xs a n) (append_assoc (take at padded) bs (drop (at + length bs) file))
      ∙ bytes_at-front (take at padded) (bs ++ drop (at + length bs) file) a n (omega (arith, front)) in
      let right : bytes_at (take at padded ++ drop at padded) a n ≡ bytes_at (take at padded) a n = bytes_at-front (take at padded) (drop at padded) a n (omega (arith, front)) in
      left ∙ sym right ∙ ap (λ (xs : List ℕ). bytes_at xs a n) (take-append-drop at padded) ∙ bytes_at-front file (replicate (at - length file) 0) a n fits
  bytes_at-written a n fits (inr above) =
      let front = length-front in
      let both : length (take at padded ++ bs) ≡ at + length bs = omega (arith, length-append (take at padded) bs, front) in
      let whole : at + length bs + (a - (at + length bs)) ≡ a = omega arith in
      bytes_at-back (take at padded ++ bs) (drop (at + length bs) file) a (a - (at + length bs)) n (omega (arith, both))
      ∙ ap (take n) (drop-drop (a - (at + length bs)) (at + length bs) file ∙ ap (λ (x : ℕ). drop x file) whole)

  pub length-written : length file ≤ length (written file at bs)
  unfolding written
  length-written =
      let front = length-front in
      omega (arith, length-append (take at padded ++ bs) (drop (at + length bs) file), length-append (take at padded) bs, front, length-drop (at + length bs) file)

  -- a range of no byte may lie anywhere
  bytes_at-some : (a n : ℕ) → (0 < n → a + n ≤ length file) → (0 < n → AreApart a n at (length bs)) → bytes_at (written file at bs) a n ≡ bytes_at file a n
  bytes_at-some a n fits aside =
      elim (cases_lt 0 n) [
        | inl some ↦ bytes_at-written a n (fits some) (aside some)
        | inr none ↦ let z : n ≡ 0 = omega arith in rw z refl
      ]

pub within_ends : (z : ℤ) (n : ℕ) → is_within z 0 n ≡ true → natural z ≤ n
within_ends (pos m) n h = leb-true m n (and-true _ _ h).1
within_ends (negsuc m) n h = omega arith

-- where a record takes a place, it ends in the file
ends_in : (len : ℕ) (r : RawSlot) → is_record_in len r ≡ true → 0 < size_of r → natural r.at + size_of r ≤ len
unfolding is_record_in
ends_in len r h some =
    bool_cases (size_of r == 0)
    (λ z. let none : size_of r ≡ 0 = (Decides-eqb (size_of r) 0).0 z in absurd (omega (arith, none, some)))
    (λ n. let fits : nat_le (natural r.at + size_of r) len ≡ true = rw n at h in leb-true (natural r.at + size_of r) len fits)

module _ (file : List ℕ) (h : Header) (i at : ℕ) (bs : List ℕ) (parts : HasParts file h) (li : i < entries_of h) where
  record_ends : (s : ℕ) → s < h.elems → is_full_at (block_of file h i) s ≡ true → 0 < size_of (raw_slot_at (block_of file h i) s) → natural (raw_slot_at (block_of file h i) s).at + size_of (raw_slot_at (block_of file h i) s) ≤ length file
  record_ends s lt full some = ends_in (length file) (raw_slot_at (block_of file h i) s) ((parts.buckets i li).slots s lt full).record_in some

  pub write_still : h.dir + 8 * entries_of h ≤ length file → IsAside file h i at (length bs) → IsPartStill file (written file at bs) h i
  unfolding block_of key_of
  write_still dir_in aside =
      record {
        longer = length-written file bs at;
        entry = bytes_at-written file bs at (h.dir + 8 * i) 8 (omega arith) aside.entry;
        block =
            let ends = within_ends (entry_at file h i) (length file - h.block) (parts.dir.in_file i li) in
            let fits = parts.dir.block_fits in
            bytes_at-written file bs at (natural (entry_at file h i)) h.block (omega arith) aside.block;
        keys =
            λ s lt full.
            bytes_at-some file bs at (natural (raw_slot_at (block_of file h i) s).at) (natural (raw_slot_at (block_of file h i) s).key_size)
            (λ some. let e = record_ends s lt full (omega arith) in omega arith) (aside.keys s lt full);
      }

  pub values_still : IsAsideOfValues file h i at (length bs) → AreValuesStill file (written file at bs) h i
  unfolding value_of
  values_still aside s lt full =
      bytes_at-some file bs at (natural (raw_slot_at (block_of file h i) s).at + natural (raw_slot_at (block_of file h i) s).key_size) (natural (raw_slot_at (block_of file h i) s).value_size)
      (λ some. let e = record_ends s lt full (omega arith) in omega arith) (aside s lt full)
