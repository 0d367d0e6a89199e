-- A look-up of a key in its bucket.
use Rattle.std.proofs.Common.{◌≡◌, ◌+◌, ◌-◌, ◌/◌, ◌^◌, ◌<◌, ◌≤◌, ℕ, true, false, List, [], ◌∷◌, length, take, get_or, Some, refl, sym, ap, ◌∙◌, arith}
use Rattle.std.specs.Prelude.{◌==◌, nat_le}
use Rattle.std.specs.FinMap.{get}
use Rattle.std.specs.Str.{bytes_eq}
use Rattle.std.proofs.lemmas.Slice.Eq.{bytes_eq-Decides}
use Rattle.std.proofs.lemmas.Bool.{leb-true}
use Rattle.std.proofs.lemmas.Bool.Decides.{Decides-eqb}
use Rattle.gd_format.specs.declared.Header.{Header}
use Rattle.gd_format.specs.declared.Slot.{Slot}
use Rattle.gd_format.specs.declared.Slot.TheVariants.{Empty, Full}
use Rattle.gd_format.specs.Field.{bytes_at}
use Rattle.gd_format.specs.Hash.{hash_of}
use Rattle.gd_format.specs.HeaderFault.{natural}
use Rattle.gd_format.specs.Bucket.{Bucket, bucket_at}
use Rattle.gd_format.specs.File.{bits_at, block_of, entry_at, entries_of, records, run_at}
use Rattle.gd_format.specs.Slots.{count, AreReached}
use Rattle.gd_format.proofs.Firsts.{length-list_below, and-true}
use Rattle.gd_bucket.specs.Probing.{slot_after, is_candidate, IsNextCandidate, HasNoCandidate}
use Rattle.gd_bucket.specs.Map.{slot_with, IsKeyTest}
use Rattle.gd_bucket.proofs.Maps as maps
use Rattle.gd_file_laws.specs.Parts.{file_header}
use Rattle.gd_file_laws.proofs.Headers.{header_in}
use Rattle.gd_file_laws.proofs.Lists.{bool_cases}
use Rattle.gd_file_laws.proofs.Walk.{readable}
use Rattle.gd_map_laws.specs.Find.{is_slot_of}
use Rattle.gd_map_laws.specs.Lookup.{lookup, slot_records, index_of, value_at}
use Rattle.gd_map_laws.specs.Maps.{pair_map}
use Rattle.gd_map_laws.specs.Slots.{is_good, is_bad, is_place_in, AreSlotsRight}
use Rattle.gd_map_laws.proofs.Find.{absent_by_count, count_zero_at, fields_of_key, key_once, present}
use Rattle.gd_map_laws.proofs.Lookup.{index_below, lookup_exact}
use Rattle.gd_map_laws.proofs.Maps.{by_lookup}
use Rattle.gd_map_laws.proofs.Slots.{not_false, of_bucket}
use Rattle.gd_lookup.specs.Finding.{IsKeyBucket, IsKeySlot, IsKeyAbsent}
use Rattle.gd_open.specs.Files.{IsOpen}
use Rattle.gd_lookup.specs.Reading.{LiesIn, value_in}

pub read_bucket_is : (file : List ℕ) (h : Header) (key : List ℕ) (at : ℕ) (bucket : Bucket) → IsOpen file h → at ≡ natural (entry_at file h (hash_of key / 2 ^ (31 - h.dir_bits))) → bucket ≡ bucket_at (bytes_at file at h.block) h.elems → IsKeyBucket file key bucket.slots
unfolding bucket_at block_of index_of
read_bucket_is file h key at bucket o place is = record { readable = o.readable; slots_are = rw (is, place, o.header) refl }

place_lies : (len at k v : ℕ) → is_place_in len at (k + v) ≡ true → 0 < k + v → at + (k + v) ≤ len
unfolding is_place_in
place_lies len at k v e some =
    bool_cases (k + v == 0)
    (λ t. let z : k + v ≡ 0 = (Decides-eqb (k + v) 0).0 t in absurd (omega (arith, z, some)))
    (λ f. let fits : nat_le (at + (k + v)) len ≡ true = rw f at (and-true (nat_le (k + v) (2 ^ 30)) _ e).1 in leb-true (at + (k + v)) len fits)

good_lies : (file : List ℕ) (bits top : ℕ) (slot : Slot) → is_good file bits top slot ≡ true → LiesIn (length file) slot
good_lies file bits top Empty e = tt
good_lies file bits top (Full hash start at k v) e = place_lies (length file) at k v (and-true (is_place_in (length file) at (k + v)) _ e).0

own_key : (file key : List ℕ) (slot : Slot) → is_slot_of file key slot ≡ true → (hash : ℕ) × (start : List ℕ) × (at : ℕ) × (k : ℕ) × (v : ℕ) × (slot ≡ Full hash start at k v) × (bytes_at file at k ≡ key)
own_key file key Empty e = absurd cc
own_key file key (Full hash start at k v) e = (hash, start, at, k, v, refl, (bytes_eq-Decides (bytes_at file at k) key).0 e)

module _ (file key : List ℕ) (slots : List Slot) (b : IsKeyBucket file key slots) where
  abbrev pub h : Header
  h = file_header file

  abbrev pub i : ℕ
  i = index_of h key

  abbrev pub bits : ℕ
  bits = bits_at (block_of file h i)

  abbrev pub top : ℕ
  top = i / run_at file h i

  pub slots_right : AreSlotsRight file bits top h.elems slots
  slots_right =
      let r = readable file b.readable in
      let lt = index_below h key (header_in _ (length file) r.header).bits in
      rw b.slots_are (of_bucket file h (block_of file h i) top (r.parts.buckets i lt))

  length_is : length slots ≡ h.elems
  length_is = ap length b.slots_are ∙ length-list_below _ h.elems

  pub reached : AreReached slots (length slots)
  reached = rw length_is (slots_right.reached)

  good : (s : ℕ) → s < length slots → is_good file bits top (get_or slots s Empty) ≡ true
  good s lt = not_false _ (count_zero_at (is_bad file bits top) slots Empty s slots_right.good lt)

  pub lies : (s : ℕ) → s < length slots → LiesIn (length file) (get_or slots s Empty)
  lies s lt = good_lies file bits top (get_or slots s Empty) (good s lt)

  in_map : get (pair_map (records file)) key ≡ lookup key (slot_records file slots)
  unfolding value_at
  in_map = by_lookup (records file) key ∙ lookup_exact file b.readable key ∙ rw (← b.slots_are) refl

  pub own_slot : (s : ℕ) → s < length slots → is_slot_of file key (get_or slots s Empty) ≡ true → IsKeySlot file key (get_or slots s Empty)
  own_slot s lt own =
      let o = own_key file key (get_or slots s Empty) own in
      let value = present file bits top h.elems slots key s o.0 o.1 o.2 o.3 o.4 slots_right lt o.5 o.6 in
      record { own = own; inside = lies s lt; value = in_map ∙ value ∙ ap (λ (x : Slot). Some (value_in file x)) (sym o.5) }

  pub none_own : count (is_slot_of file key) slots ≡ 0 → IsKeyAbsent file key slots
  none_own z = record { none = z; value = in_map ∙ (absent_by_count file slots key).0 z }

  -- ---- by candidates

  candidate_of : (slot : Slot) (hash : ℕ) (start : List ℕ) (at k v : ℕ) → slot ≡ Full hash start at k v → hash ≡ hash_of key → k ≡ length key → bytes_eq (take 4 key) (take (length (take 4 key)) start) ≡ true → is_candidate (hash_of key) key slot ≡ true
  candidate_of slot hash start at k v is eh ek es = rw (is, eh, ek, es) (let a = (Decides-eqb (hash_of key) (hash_of key)).1 refl in let b = (Decides-eqb (length key) (length key)).1 refl in rw (a, b) refl)

  pub key_test : IsKeyTest slots (hash_of key) key (is_slot_of file key)
  key_test =
      record {
        full = refl;
        once = key_once file bits top h.elems slots key slots_right;
        candidate =
            λ s lt own.
            let o = own_key file key (get_or slots s Empty) own in
            let fields = fields_of_key file bits top h.elems slots key s o.0 o.1 o.2 o.3 o.4 slots_right lt o.5 o.6 in
            candidate_of (get_or slots s Empty) o.0 o.1 o.2 o.3 o.4 o.5 fields.hash_is fields.size_is fields.start_is;
      }

  with_count : (xs : List Slot) → slot_with (is_slot_of file key) xs ≡ Empty → count (is_slot_of file key) xs ≡ 0
  with_count [] e = refl
  with_count (x ∷ xs) e =
      bool_cases (is_slot_of file key x)
      (λ t. let same : x ≡ Empty = rw t at e in let bad : is_slot_of file key Empty ≡ true = rw same at t in absurd cc)
      (λ f. let rest : slot_with (is_slot_of file key) xs ≡ Empty = rw f at e in let ih = with_count xs rest in rw f (omega (arith, ih)))

  pub passed_on : (hash : ℕ) → hash ≡ hash_of key → (from d : ℕ) → ((e : ℕ) → e < from → is_slot_of file key (slot_after slots hash e) ≡ false) → IsNextCandidate slots hash key from d → is_slot_of file key (slot_after slots hash d) ≡ false → (e : ℕ) → e < d + 1 → is_slot_of file key (slot_after slots hash e) ≡ false
  passed_on hash is from d before next here = let test : IsKeyTest slots hash key (is_slot_of file key) = rw is key_test in maps.passed slots hash key (is_slot_of file key) test from d before next here

  pub absent_of : (hash : ℕ) → hash ≡ hash_of key → (from : ℕ) → ((e : ℕ) → e < from → is_slot_of file key (slot_after slots hash e) ≡ false) → HasNoCandidate slots hash key from → IsKeyAbsent file key slots
  absent_of hash is from before none = let test : IsKeyTest slots hash key (is_slot_of file key) = rw is key_test in none_own (with_count slots (maps.absent slots hash key (is_slot_of file key) test from reached before none))

pub index_within : (h : Header) (key : List ℕ) (hash : ℕ) → h.dir_bits ≤ 24 → hash ≡ hash_of key → hash / 2 ^ (31 - h.dir_bits) < entries_of h
unfolding index_of
index_within h key hash le is = rw is (index_below h key le)

pub key_bucket : (file : List ℕ) (h : Header) (key : List ℕ) (at hash : ℕ) (bucket : Bucket) → IsOpen file h → hash ≡ hash_of key → at ≡ natural (entry_at file h (hash / 2 ^ (31 - h.dir_bits))) → bucket ≡ bucket_at (bytes_at file at h.block) h.elems → IsKeyBucket file key bucket.slots
key_bucket file h key at hash bucket o same place is = read_bucket_is file h key at bucket o (rw same at place) is
