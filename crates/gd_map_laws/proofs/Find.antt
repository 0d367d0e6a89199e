-- A look-up in a bucket by probing, and growth of the space.
use Rattle.std.proofs.Common.{◌≡◌, ℕ, zero, suc, ◌+◌, ◌-◌, ◌*◌, ◌%◌, ◌<◌, ◌≤◌, Bool, true, false, ◌&&◌, leb, ltb, List, [], ◌∷◌, length, take, get_or, Some, None, ◌↔◌, ◌⊎◌, refl, ap, ◌∙◌, inl, inr, arith}
use Rattle.std.specs.Prelude.{◌==◌, ◌^◌, nat_le}
use Rattle.std.specs.Str.{bytes_eq}
use Rattle.std.proofs.lemmas.Bool.{cases_lt, leb-true}
use Rattle.std.proofs.lemmas.Bool.Decides.{nat_tests, Decides-eqb}
use Rattle.std.proofs.lemmas.Nat.{mod_below}
use Rattle.std.proofs.Math.Nat.{mod-eq_of_lt, add-mul-mod_self_left}
use Rattle.std.proofs.lemmas.Slice.Eq.{bytes_eq-Decides}
use Rattle.gd_format.specs.declared.Slot.{Slot}
use Rattle.gd_format.specs.declared.Slot.TheVariants.{Empty, Full}
use Rattle.gd_format.specs.First.{all_below}
use Rattle.gd_format.specs.Hash.{hash_of}
use Rattle.gd_format.specs.Field.{bytes_at}
use Rattle.gd_format.proofs.Firsts.{all_below-at, and-true}
use Rattle.gd_format.proofs.Pieces.{length-bytes_at}
use Rattle.gd_format.specs.Slots.{count, is_full, hash_in, is_full_from, is_reached_in}
use Rattle.gd_format.specs.Sound.{extent}
use Rattle.gd_format.specs.Covers.{cover}
use Rattle.gd_file_laws.proofs.Lists.{bool_cases}
use Rattle.gd_map_laws.specs.Lookup.{lookup, has_key, slot_records}
use Rattle.gd_map_laws.specs.Slots.{is_good, is_bad, is_place_in, is_slot_key, AreSlotsRight}
use Rattle.gd_map_laws.specs.Space.{grown}
use Rattle.gd_map_laws.specs.Find.{is_slot_of, probe, AreKeyFields}
use Rattle.gd_map_laws.proofs.Lists.{lookup-none}
use Rattle.gd_map_laws.proofs.Slots.{not_false}
use Rattle.gd_map_laws.proofs.Update.{count_records, slot_test, lookup_finds, has_pair}
use Rattle.gd_map_laws.proofs.Overflow.{good_hash}
use Rattle.gd_map_laws.proofs.Change.{grown-none}

pub count_some : {X : Type 0} (p : X → Bool) (xs : List X) (d : X) → 0 < count p xs → (s : ℕ) × (s < length xs) × (p (get_or xs s d) ≡ true)
count_some p [] d h = absurd (omega arith)
count_some p (x ∷ xs) d h =
    bool_cases (p x)
    (λ t. (0, omega arith, t))
    (λ f. let rest : 0 < 0 + count p xs = rw f at h in let r = count_some p xs d (omega (arith, rest)) in (suc r.0, let l = r.1 in omega arith, r.2))

pub count_at_least : {X : Type 0} (p : X → Bool) (xs : List X) (d : X) (s : ℕ) → s < length xs → p (get_or xs s d) ≡ true → 1 ≤ count p xs
count_at_least p [] d s lt h = absurd (omega arith)
count_at_least p (x ∷ xs) d zero lt h = rw h (omega arith)
count_at_least p (x ∷ xs) d (suc s) lt h = let ih = count_at_least p xs d s (omega arith) h in omega (arith, ih)

pub count_zero_at : {X : Type 0} (p : X → Bool) (xs : List X) (d : X) (s : ℕ) → count p xs ≡ 0 → s < length xs → p (get_or xs s d) ≡ false
count_zero_at p xs d s z lt =
    bool_cases (p (get_or xs s d)) (λ t. let one = count_at_least p xs d s lt t in absurd (omega (arith, one, z))) (λ f. f)

-- the place that is as far from home as s is
around : (n home s : ℕ) → home < n → s < n → (home + (s + n - home) % n) % n ≡ s
around n home s lh ls =
    elim (cases_lt s home) [
      | inl below ↦
          let e : (s + n - home) % n ≡ s + n - home = mod-eq_of_lt (omega arith) in
          let w : home + (s + n - home) ≡ s + n * 1 = omega arith in
          ap (λ (x : ℕ). (home + x) % n) e ∙ ap (λ (x : ℕ). x % n) w ∙ add-mul-mod_self_left s n 1 ∙ mod-eq_of_lt ls
      | inr above ↦
          let w : s + n - home ≡ (s - home) + n * 1 = omega arith in
          let e : (s + n - home) % n ≡ s - home = ap (λ (x : ℕ). x % n) w ∙ add-mul-mod_self_left (s - home) n 1 ∙ mod-eq_of_lt (omega arith) in
          let z : home + (s - home) ≡ s = omega arith in
          ap (λ (x : ℕ). (home + x) % n) e ∙ ap (λ (x : ℕ). x % n) z ∙ mod-eq_of_lt ls
    ]

own_full : (file key : List ℕ) (slot : Slot) → is_slot_of file key slot ≡ true → is_full slot ≡ true
own_full file key Empty e = absurd cc
own_full file key (Full hash start at k v) e = refl

own_hash : (file : List ℕ) (bits top : ℕ) (key : List ℕ) (slot : Slot) → is_good file bits top slot ≡ true → is_slot_of file key slot ≡ true → hash_in slot ≡ hash_of key
own_hash file bits top key Empty good e = absurd cc
own_hash file bits top key (Full hash start at k v) good e = (good_hash file bits top hash start at k v good).0 ∙ ap hash_of ((bytes_eq-Decides (bytes_at file at k) key).0 e)

count_key : (file key : List ℕ) (slots : List Slot) → count (has_key key) (slot_records file slots) ≡ count (is_slot_of file key) slots
count_key file key [] = refl
count_key file key (Empty ∷ slots) = let ih = count_key file key slots in omega (arith, ih)
count_key file key (Full hash start at k v ∷ slots) = let ih = count_key file key slots in omega (arith, ih)

module _ (file : List ℕ) (bits top elems : ℕ) (slots : List Slot) (key : List ℕ) (len : length slots ≡ elems) (right : AreSlotsRight file bits top elems slots) where
  -- a slot of the key is met by the probes before any empty one
  met : (s : ℕ) → s < elems → is_slot_of file key (get_or slots s Empty) ≡ true → (d : ℕ) × (d < elems) × (probe slots elems key d ≡ get_or slots s Empty) × ((e : ℕ) → e < d → is_full (probe slots elems key e) ≡ true)
  unfolding is_reached_in is_full_from
  met s lt own =
      let positive : 0 < elems = omega arith in
      let full = own_full file key (get_or slots s Empty) own in
      let good = not_false _ (count_zero_at (is_bad file bits top) slots Empty s right.good (omega (arith, len))) in
      let hash = own_hash file bits top key (get_or slots s Empty) good own in
      let reach : all_below ((s + elems - hash_of key % elems) % elems) (λ d. is_full (get_or slots ((hash_of key % elems + d) % elems) Empty)) ≡ true = rw hash at (right.reached s lt full) in (
        (s + elems - hash_of key % elems) % elems,
        mod_below _ elems positive,
        ap (λ (x : ℕ). get_or slots x Empty) (around elems (hash_of key % elems) s (mod_below (hash_of key) elems positive) lt),
        λ e l. all_below-at (λ d. is_full (get_or slots ((hash_of key % elems + d) % elems) Empty)) ((s + elems - hash_of key % elems) % elems) reach e l,
      )

  pub absent : (n : ℕ) → ((d : ℕ) → d < n → is_slot_of file key (probe slots elems key d) ≡ false) → (elems ≤ n) ⊎ (is_full (probe slots elems key n) ≡ false) → lookup key (slot_records file slots) ≡ None
  absent n none ends =
      elim (cases_lt 0 (count (has_key key) (slot_records file slots))) [
        | inr zero_count ↦ lookup-none key (slot_records file slots) (omega (arith, zero_count))
        | inl some ↦
            let e = count_key file key slots in
            let at = count_some (is_slot_of file key) slots Empty (omega (arith, e, some)) in
            let m = met at.0 (let l = at.1 in omega (arith, l, len)) at.2 in
            let own : is_slot_of file key (probe slots elems key m.0) ≡ true = ap (is_slot_of file key) m.2 ∙ at.2 in
            elim (cases_lt m.0 n) [
              | inl early ↦ let f = none m.0 early in absurd (cc (f, own))
              | inr late ↦ elim ends [
                | inl all ↦ let l = m.1 in absurd (omega (arith, all, late, l))
                | inr empty ↦ elim (cases_lt n m.0) [
                  | inl before ↦ let f = m.3 n before in absurd (cc (f, empty))
                  | inr same ↦ let e : m.0 ≡ n = omega (arith, late, same) in let f = ap (λ (x : ℕ). is_full (probe slots elems key x)) e in let g = own_full file key (probe slots elems key m.0) own in absurd (cc (f, g, empty))
                ]
              ]
            ]
      ]

pub present : (file : List ℕ) (bits top elems : ℕ) (slots : List Slot) (key : List ℕ) (s hash : ℕ) (start : List ℕ) (at k v : ℕ) → AreSlotsRight file bits top elems slots → s < length slots → get_or slots s Empty ≡ Full hash start at k v → bytes_at file at k ≡ key → lookup key (slot_records file slots) ≡ Some (bytes_at file (at + k) v)
unfolding has_pair slot_test
present file bits top elems slots key s hash start at k v right lt is same =
    let value = bytes_at file (at + k) v in
    let a = (bytes_eq-Decides (bytes_at file at k) key).1 same in
    let b = (bytes_eq-Decides value value).1 refl in
    let one : slot_test file (has_pair key value) (Full hash start at k v) ≡ true = rw (a, b) refl in
    let here : slot_test file (has_pair key value) (get_or slots s Empty) ≡ true = ap (slot_test file (has_pair key value)) is ∙ one in
    let c = count_at_least (slot_test file (has_pair key value)) slots Empty s lt here in
    let e = count_records file (has_pair key value) slots in
    lookup_finds key value (slot_records file slots) (right.once key) (omega (arith, c, e))

grown-one : (a b x : ℕ) → a ≤ x → x < b → grown a b x ≡ 1
grown-one a b x le lt = let e : (leb a x && ltb x b) ≡ true = grind (arith, nat_tests) in rw e refl

grown-past : (a b x : ℕ) → b ≤ x → grown a b x ≡ 0
grown-past a b x le = let e : (leb a x && ltb x b) ≡ false = grind (arith, nat_tests) in rw e refl

pub grown-add : (a b c x : ℕ) → a ≤ b → b ≤ c → grown a b x + grown b c x ≡ grown a c x
grown-add a b c x p q =
    elim (cases_lt x a) [
      | inl below ↦ let l = grown-none a b x below in let m = grown-none b c x (omega arith) in let n = grown-none a c x below in omega (arith, l, m, n)
      | inr above ↦ elim (cases_lt x b) [
        | inl first ↦ let l = grown-one a b x above first in let m = grown-none b c x first in let n = grown-one a c x above (omega arith) in omega (arith, l, m, n)
        | inr past ↦ elim (cases_lt x c) [
          | inl second ↦ let l = grown-past a b x past in let m = grown-one b c x past second in let n = grown-one a c x above second in omega (arith, l, m, n)
          | inr over ↦ let l = grown-past a b x past in let m = grown-past b c x over in let n = grown-past a c x over in omega (arith, l, m, n)
        ]
      ]
    ]

pub grown_is_extent : (next next' b : ℕ) → next ≤ next' → cover (extent next (next' - next) ∷ []) b ≡ grown next next' b
grown_is_extent next next' b le =
    let e : next + (next' - next) ≡ next' = omega arith in
    rw e (omega arith)

pub key_once : (file : List ℕ) (bits top elems : ℕ) (slots : List Slot) (key : List ℕ) → AreSlotsRight file bits top elems slots → count (is_slot_of file key) slots ≤ 1
key_once file bits top elems slots key right = let o = right.once key in let e = count_key file key slots in omega (arith, o, e)

none_counted : (key : List ℕ) (xs : List (List ℕ × List ℕ)) → lookup key xs ≡ None → count (has_key key) xs ≡ 0
none_counted key [] e = refl
none_counted key (x ∷ xs) e =
    bool_cases (bytes_eq x.0 key)
    (λ t. let bad : Some x.1 ≡ None = rw t at e in absurd cc)
    (λ f. let rest : lookup key xs ≡ None = rw f at e in let ih = none_counted key xs rest in rw f (omega (arith, ih)))

pub absent_by_count : (file : List ℕ) (slots : List Slot) (key : List ℕ) → (count (is_slot_of file key) slots ≡ 0) ↔ (lookup key (slot_records file slots) ≡ None)
absent_by_count file slots key =
    let e = count_key file key slots in (
      λ z. lookup-none key (slot_records file slots) (omega (arith, e, z)),
      λ n. let c = none_counted key (slot_records file slots) n in omega (arith, e, c),
    )

key_size : (file : List ℕ) (at k v : ℕ) → is_place_in (length file) at (k + v) ≡ true → length (bytes_at file at k) ≡ k
unfolding is_place_in
key_size file at k v e =
    bool_cases (k + v == 0)
    (λ t. let z : k + v ≡ 0 = (Decides-eqb (k + v) 0).0 t in let none : k ≡ 0 = omega (arith, z) in rw none refl)
    (λ f.
    let fits : nat_le (at + (k + v)) (length file) ≡ true = rw f at (and-true (nat_le (k + v) (2 ^ 30)) _ e).1 in
    length-bytes_at file at k (let l = leb-true (at + (k + v)) (length file) fits in omega (arith, l)))

pub fields_of_key : (file : List ℕ) (bits top elems : ℕ) (slots : List Slot) (key : List ℕ) (s hash : ℕ) (start : List ℕ) (at k v : ℕ) → AreSlotsRight file bits top elems slots → s < length slots → get_or slots s Empty ≡ Full hash start at k v → bytes_at file at k ≡ key → AreKeyFields key hash start k
unfolding is_slot_key
fields_of_key file bits top elems slots key s hash start at k v right lt is_slot is_key =
    let good : is_good file bits top (Full hash start at k v) ≡ true = rw is_slot at (not_false _ (count_zero_at (is_bad file bits top) slots Empty s right.good lt)) in
    let a = and-true (is_place_in (length file) at (k + v)) _ good in
    let b = and-true _ (bytes_eq (take 4 (bytes_at file at k)) (take (length (take 4 (bytes_at file at k))) start)) a.1 in
    let c = and-true (hash == hash_of (bytes_at file at k)) _ b.0 in
    record {
      hash_is = (Decides-eqb hash (hash_of (bytes_at file at k))).0 c.0 ∙ ap hash_of is_key;
      size_is = let n = key_size file at k v a.0 in let m = ap length is_key in omega (arith, n, m);
      start_is = rw is_key at b.1;
    }
