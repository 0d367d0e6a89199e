-- Bytes at places, and slots by their hashes.
use Rattle.std.proofs.Common.{zero, suc, take, drop, Some, eqb, leb, ◌||◌, ◌≤◌, length, ◌≡◌, ℕ, ◌+◌, ◌<◌, ◌≢◌, Bool, true, false, not, List, [], refl, sym, ap, ◌∙◌, arith}
use Rattle.std.specs.Str.{bytes_eq}
use Rattle.std.proofs.lemmas.Slice.Eq.{bytes_eq-Decides}
use Rattle.std.proofs.lemmas.List.{take-take, drop-take, drop-drop}
use Rattle.gd_format.specs.Field.{bytes_at}
use Rattle.gd_format.specs.Hash.{hash_of}
use Rattle.gd_format.specs.declared.RawSlot.{RawSlot}
use Rattle.gd_format.specs.HeaderFault.{natural, is_number}
use Rattle.std.specs.Prelude.{ℤ, pos, negsuc, nat_eq}
use Rattle.std.proofs.lemmas.Bool.Decides.{Decides-eqb, nat_tests}
use Rattle.std.specs.HashSet.{contains}
use Rattle.gd_format.specs.Bucket.{raw_slot_at}
use Rattle.gd_readable.specs.Standing.{place_of}
use Rattle.gd_format.specs.File.{key_of, value_of, size_of, is_record_in, is_full_at, is_key_new, is_key_of, is_other_key}
use Rattle.gd_format.proofs.Firsts.{all_below_from, and-true}
use Rattle.gd_format.proofs.Pieces.{bytes_eq-lengths, length-bytes_at}
use Rattle.gd_readable.specs.Checks.{Numbers, HasKey, HaveKeys, SeesHashes}

-- no bytes from any place on
pub none_at : (file : List ℕ) (at n : ℕ) → n ≡ 0 → [] ≡ bytes_at file at n
none_at file at n e = rw e refl

bool_cases : (b : Bool) {P : Type 0} → (b ≡ true → P) → (b ≡ false → P) → P
bool_cases true p q = p refl
bool_cases false p q = q refl

-- slots of two hashes have two keys
pub other_hash : (file : List ℕ) (a b : RawSlot) → HasKey file a → HasKey file b → natural a.hash ≢ natural b.hash → bytes_eq (key_of file a) (key_of file b) ≡ false
other_hash file a b ka kb ne =
    bool_cases (bytes_eq (key_of file a) (key_of file b))
    (λ same. let e = (bytes_eq-Decides (key_of file a) (key_of file b)).0 same in absurd (ne (ka.hash ∙ ap hash_of e ∙ sym kb.hash)))
    (λ differs. differs)

-- a full slot whose hash no slot before has
pub new_by_hash : (seen : Numbers) (file block : List ℕ) (s : ℕ) → HaveKeys file block s → HasKey file (raw_slot_at block s) → SeesHashes seen block s → contains nat_eq seen (natural (raw_slot_at block s).hash) ≡ false → is_key_new file block s ≡ true
unfolding is_key_new is_other_key
new_by_hash seen file block s keys own sees absent =
    all_below_from (is_other_key file block s) s
    (λ t lt.
    bool_cases (is_full_at block t)
    (λ full.
    let there = sees t lt full in
    let differs : natural (raw_slot_at block t).hash ≢ natural (raw_slot_at block s).hash = λ e. let bad : contains nat_eq seen (natural (raw_slot_at block s).hash) ≡ true = rw e at there in absurd (cc) in
    rw (full, other_hash file (raw_slot_at block t) (raw_slot_at block s) (keys t lt full) own differs) refl)
    (λ empty. rw empty refl))

not_true : (b : Bool) → not b ≡ true → b ≡ false
not_true true h = absurd cc
not_true false h = refl

pub key_new_at : (seen : Numbers) (file block : List ℕ) (raw : RawSlot) (s : ℕ) → raw ≡ raw_slot_at block s → HaveKeys file block s → HasKey file raw → SeesHashes seen block s → (hash : ℕ) → hash ≡ natural raw.hash → not (contains nat_eq seen hash) ≡ true → true ≡ is_key_new file block s
key_new_at seen file block raw s slot keys own sees hash is added =
    let own_there : HasKey file (raw_slot_at block s) = rw slot at own in
    let absent : contains nat_eq seen (natural (raw_slot_at block s).hash) ≡ false = rw (is, slot) at (not_true _ added) in
    sym (new_by_hash seen file block s keys own_there sees absent)

number_is : (z : ℤ) (n : ℕ) → is_number z n ≡ true → natural z ≡ n
number_is (pos m) n h = (Decides-eqb m n).0 h
number_is (negsuc m) n h = absurd cc

-- a slot that was found right has a key
pub has_key : (file key : List ℕ) (r : RawSlot) (bits top : ℕ) → key ≡ key_of file r → is_key_of bits top r key ≡ true → (0 < natural r.key_size → natural r.at + natural r.key_size ≤ length file) → HasKey file r
unfolding is_key_of
has_key file key r bits top e right inside =
    let both = and-true _ _ right in
    let first = and-true _ _ both.0 in
    record { inside = inside; hash = number_is r.hash (hash_of key) first.0 ∙ ap hash_of e }

sizes_in : (a k v n : ℕ) → (eqb (k + v) 0 || leb (a + (k + v)) n) ≡ true → (0 < k → a + k ≤ n) × (0 < v → a + k + v ≤ n)
sizes_in a k v n h = (λ some. grind (arith, nat_tests), λ some. grind (arith, nat_tests))

pub record_parts : (len : ℕ) (r : RawSlot) → is_record_in len r ≡ true → (0 < natural r.key_size → natural r.at + natural r.key_size ≤ len) × (0 < natural r.value_size → natural r.at + natural r.key_size + natural r.value_size ≤ len)
unfolding is_record_in
record_parts len r h = sizes_in (natural r.at) (natural r.key_size) (natural r.value_size) len h

size_is : (file : List ℕ) (at n : ℕ) → (0 < n → at + n ≤ length file) → length (bytes_at file at n) ≡ n
size_is file at zero h = refl
size_is file at (suc n) h = length-bytes_at file at (suc n) (h (omega arith))

-- keys of two sizes differ
pub other_size : (file : List ℕ) (a b : RawSlot) → (0 < natural a.key_size → natural a.at + natural a.key_size ≤ length file) → (0 < natural b.key_size → natural b.at + natural b.key_size ≤ length file) → natural b.key_size ≢ natural a.key_size → false ≡ bytes_eq (key_of file a) (key_of file b)
unfolding key_of
other_size file a b in_a in_b ne = sym (bytes_eq-lengths (key_of file a) (key_of file b) (λ e. ne (sym (size_is file (natural b.at) (natural b.key_size) in_b) ∙ sym e ∙ size_is file (natural a.at) (natural a.key_size) in_a)))

sum_in : (a k v n : ℕ) → (eqb (k + v) 0 || leb (a + (k + v)) n) ≡ true → 0 < k + v → a + (k + v) ≤ n
sum_in a k v n h some = grind (arith, nat_tests)

pub record_inside : (len : ℕ) (r : RawSlot) → is_record_in len r ≡ true → 0 < size_of r → natural r.at + size_of r ≤ len
unfolding is_record_in
record_inside len r h some = sum_in (natural r.at) (natural r.key_size) (natural r.value_size) len h some

-- the key and the value in the bytes of a record
pub key_part : (file bytes : List ℕ) (r : RawSlot) → bytes ≡ bytes_at file (natural r.at) (size_of r) → take (natural r.key_size) bytes ≡ key_of file r
unfolding key_of
key_part file bytes r e = ap (take (natural r.key_size)) e ∙ take-take (natural r.key_size) (size_of r) (drop (natural r.at) file) (omega arith)

pub value_part : (file bytes : List ℕ) (r : RawSlot) → bytes ≡ bytes_at file (natural r.at) (size_of r) → drop (natural r.key_size) bytes ≡ value_of file r
unfolding value_of
value_part file bytes r e =
    ap (drop (natural r.key_size)) e ∙ drop-take (natural r.key_size) (natural r.value_size) (drop (natural r.at) file) ∙ ap (take (natural r.value_size)) (drop-drop (natural r.key_size) (natural r.at) file)

-- an address that is one
pub place_is : (z : ℤ) (n : ℕ) → z ≡ pos n → place_of z ≡ Some (natural z)
place_is (pos m) n e = refl
place_is (negsuc m) n e = absurd cc
