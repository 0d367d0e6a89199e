-- The pairs of the first key and of the key after a key.
use Rattle.std.proofs.Common.{◌≡◌, ℕ, ◌≤◌, true, false, List, [], ◌∷◌, ◌++◌, Some, refl, ap, ◌∙◌, arith}
use Rattle.std.specs.Str.{bytes_eq}
use Rattle.std.proofs.lemmas.Slice.Eq.{bytes_eq-Decides}
use Rattle.gd_format.specs.Slots.{count}
use Rattle.gd_format.specs.File.{IsReadable, records}
use Rattle.gd_file_laws.proofs.Lists.{bool_cases}
use Rattle.gd_lookup.specs.Order.{first_of, following, successor}
use Rattle.gd_lookup.specs.declared.Successor.TheVariants.{Key}
use Rattle.gd_map_laws.specs.Lookup.{has_key, lookup}
use Rattle.gd_map_laws.proofs.Lookup.{records_once}
use Rattle.gd_map_laws.proofs.Maps.{by_lookup}
use Rattle.gd_store.specs.Laws.{IsFirstPair, IsPairAfter}

abbrev Pairs : Type 0
Pairs = List (List ℕ × List ℕ)

first_is : (pairs : Pairs) (key : List ℕ) → first_of pairs ≡ Some key → IsFirstPair pairs key
first_is [] key is = absurd cc
first_is ((k, v) ∷ rest) key is =
    let same : k ≡ key = cc in
    let own : bytes_eq k key ≡ true = (bytes_eq-Decides k key).1 same in
    let found : lookup key ((k, v) ∷ rest) ≡ Some v = rw own refl in
    record { value = v; rest = rest; is = ap (λ (a : List ℕ). (a, v) ∷ rest) same; in_map = by_lookup ((k, v) ∷ rest) key ∙ found }

pub first_pair : (file key : List ℕ) → first_of (records file) ≡ Some key → IsFirstPair (records file) key
first_pair file key is = first_is (records file) key is

-- a key that is found has a pair
has_one : (pairs : Pairs) (key value : List ℕ) → lookup key pairs ≡ Some value → 1 ≤ count (has_key key) pairs
has_one [] key value is = absurd cc
has_one ((k, v) ∷ rest) key value is =
    bool_cases (bytes_eq k key) (λ t. rw t (omega arith)) (λ f. (let more = has_one rest key value (rw f at is) in rw f (omega (arith, more))))

record Behind (pairs : Pairs) (other key : List ℕ) : Type 0 where
  front : Pairs
  old : List ℕ
  value : List ℕ
  rest : Pairs
  is : pairs ≡ front ++ (other, old) ∷ (key, value) ∷ rest
  found : lookup key pairs ≡ Some value

here : (k v : List ℕ) (rest : Pairs) (other key : List ℕ) → k ≡ other → ((a : List ℕ) → count (has_key a) ((k, v) ∷ rest) ≤ 1) → following (first_of rest) ≡ Key key → Behind ((k, v) ∷ rest) other key
here k v [] other key same once is = absurd cc
here k v ((a, w) ∷ more) other key same once is =
    let next : a ≡ key = cc in
    let own : bytes_eq a key ≡ true = (bytes_eq-Decides a key).1 next in
    let differs : bytes_eq k key ≡ false = bool_cases (bytes_eq k key) (λ t. absurd (let two = once key in let both = rw (t, own) at two in omega (arith, both))) (λ f. f) in
    record {
      front = [];
      old = v;
      value = w;
      rest = more;
      is = ap (λ (x : List ℕ). (x, v) ∷ (a, w) ∷ more) same ∙ ap (λ (x : List ℕ). (other, v) ∷ (x, w) ∷ more) next;
      found = rw (differs, own) refl;
    }

behind : (pairs : Pairs) (other key : List ℕ) → ((a : List ℕ) → count (has_key a) pairs ≤ 1) → successor other pairs ≡ Key key → Behind pairs other key
behind [] other key once is = absurd cc
behind ((k, v) ∷ rest) other key once is =
    bool_cases (bytes_eq k other)
    (λ t. here k v rest other key ((bytes_eq-Decides k other).0 t) once (rw t at is))
    (λ f.
    let more = behind rest other key (λ a. (let most = once a in omega (arith, most))) (rw f at is) in
    let one = has_one rest key more.value more.found in
    let differs : bytes_eq k key ≡ false = bool_cases (bytes_eq k key) (λ t. absurd (let two = once key in let both = rw t at two in omega (arith, both, one))) (λ g. g) in
    record {
      front = (k, v) ∷ more.front;
      old = more.old;
      value = more.value;
      rest = more.rest;
      is = ap (λ (ps : Pairs). (k, v) ∷ ps) more.is;
      found = rw differs more.found;
    })

pub next_pair : (file other key : List ℕ) → IsReadable file → successor other (records file) ≡ Key key → IsPairAfter (records file) other key
next_pair file other key readable is =
    let b = behind (records file) other key (records_once file readable) is in
    record { front = b.front; old = b.old; value = b.value; rest = b.rest; is = b.is; in_map = by_lookup (records file) key ∙ b.found }
