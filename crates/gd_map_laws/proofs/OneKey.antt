-- A store without a split, and a deletion: the map changes at one key.
use Rattle.std.proofs.Common.{◌≡◌, ◌≢◌, ℕ, ◌+◌, ◌/◌, ◌<◌, ◌≤◌, true, false, List, [], ◌∷◌, ◌++◌, Option, Some, None, refl, sym, ap, ◌∙◌, arith}
use Rattle.std.specs.Prelude.{ℤ}
use Rattle.std.specs.Ordering.{int_eq}
use Rattle.std.specs.Str.{bytes_eq}
use Rattle.std.proofs.lemmas.Bool.Decides.{Decides-int_eq}
use Rattle.std.proofs.lemmas.Slice.Eq.{bytes_eq-Decides}
use Rattle.gd_format.specs.declared.Header.{Header}
use Rattle.gd_format.specs.declared.Slot.{Slot}
use Rattle.gd_format.specs.First.{or_else}
use Rattle.gd_format.specs.Bucket.{slots_at}
use Rattle.gd_format.specs.File.{entry_at, entries_of, run_at, block_of}
use Rattle.gd_format.specs.Slots.{count}
use Rattle.gd_file_laws.specs.Parts.{HasParts}
use Rattle.gd_file_laws.proofs.Lists.{bool_cases}
use Rattle.gd_map_laws.specs.Lookup.{lookup, has_key, slot_records, index_of, value_at}
use Rattle.gd_map_laws.specs.Update.{IsSameShape, FileChange, pairs_of, OneKeyChange, OneKeyChanged}
use Rattle.gd_map_laws.proofs.Lists.{count-append, lookup-append, lookup-none}
use Rattle.gd_map_laws.proofs.Slots.{of_bucket}
use Rattle.gd_map_laws.proofs.Update.{same_records, records-append, option_cases}
use Rattle.gd_map_laws.proofs.FileUpdate.{file_changed}

same_key : (xs : List ℕ) → bytes_eq xs xs ≡ true
same_key xs = (bytes_eq-Decides xs xs).1 refl

-- a look-up that finds nothing counts nothing
pub none_counts : (key : List ℕ) (xs : List (List ℕ × List ℕ)) → lookup key xs ≡ None → count (has_key key) xs ≡ 0
none_counts key [] e = refl
none_counts key (x ∷ xs) e =
    bool_cases (bytes_eq x.0 key)
    (λ t. let bad : Some x.1 ≡ None = rw t at e in absurd (cc))
    (λ f. let rest : lookup key xs ≡ None = rw f at e in let ih = none_counts key xs rest in rw f (omega (arith, ih)))

-- what pairs of one key count and give
pairs_count : (key k : List ℕ) (value : Option (List ℕ)) → bytes_eq key k ≡ false → count (has_key k) (pairs_of key value) ≡ 0
pairs_count key k None e = refl
pairs_count key k (Some v) e = rw e refl

pairs_other : (key k : List ℕ) (value : Option (List ℕ)) → bytes_eq key k ≡ false → lookup k (pairs_of key value) ≡ None
pairs_other key k None e = refl
pairs_other key k (Some v) e = rw e refl

pairs_same : (key k : List ℕ) (value : Option (List ℕ)) → bytes_eq key k ≡ true → lookup k (pairs_of key value) ≡ value
pairs_same key k None e = refl
pairs_same key k (Some v) e = rw e refl

pairs_one : (key k : List ℕ) (value : Option (List ℕ)) → count (has_key k) (pairs_of key value) ≤ 1
pairs_one key k None = omega arith
pairs_one key k (Some v) = bool_cases (bytes_eq key k) (λ t. rw t (omega arith)) (λ f. rw f (omega arith))

or_none : {E : Type 0} (x : Option E) → or_else x None ≡ x
or_none None = refl
or_none (Some v) = refl

pub entry_cases : (x y : ℤ) {P : Type 0} → (x ≡ y → P) → (x ≢ y → P) → P
entry_cases x y p q =
    bool_cases (int_eq x y)
    (λ t. p ((Decides-int_eq x y).0 t))
    (λ f. q (λ e. let t = (Decides-int_eq x y).1 e in absurd (cc (t, f))))

module _ (old new : List ℕ) (h : Header) (i : ℕ) (key : List ℕ) (value : Option (List ℕ)) (gone come rest : List Slot) (bits_le : h.dir_bits ≤ 24) (parts : HasParts old h) (li : i < entries_of h) (change : OneKeyChange old new h i key value gone come rest) where
  old_once : (k : List ℕ) → count (has_key k) (slot_records old gone) + count (has_key k) (slot_records old rest) ≤ 1
  old_once k =
      let right = of_bucket old h (block_of old h i) (i / run_at old h i) (parts.buckets i li) in
      let o = right.once k in
      let e = same_records old (has_key k) (slots_at (block_of old h i) h.elems) (gone ++ rest) change.before_is in
      let f = ap (count (has_key k)) (records-append old gone rest) in
      let g = count-append (has_key k) (slot_records old gone) (slot_records old rest) in
      omega (arith, o, e, f, g)

  same_block : entry_at old h (index_of h key) ≡ entry_at old h i → block_of old h (index_of h key) ≡ block_of old h i
  unfolding block_of
  same_block e = rw e refl

  -- the key's own record is not among the rest
  key_gone : count (has_key key) (slot_records old rest) ≡ 0
  unfolding value_at
  key_gone =
      option_cases key (value_at old h key)
      (λ none.
      let here : block_of old h (index_of h key) ≡ block_of old h i = same_block change.here in
      let nothing : lookup key (slot_records old (slots_at (block_of old h i) h.elems)) ≡ None = rw here at none in
      let zero_all = none_counts key (slot_records old (slots_at (block_of old h i) h.elems)) nothing in
      let e = same_records old (has_key key) (slots_at (block_of old h i) h.elems) (gone ++ rest) change.before_is in
      let f = ap (count (has_key key)) (records-append old gone rest) in
      let g = count-append (has_key key) (slot_records old gone) (slot_records old rest) in
      omega (arith, zero_all, e, f, g))
      (λ v some.
      let is : slot_records old gone ≡ pairs_of key (Some v) = change.gone_is ∙ ap (pairs_of key) some in
      let t = same_key key in
      let one : count (has_key key) (pairs_of key (Some v)) ≡ 1 = rw t (omega arith) in
      let e = ap (count (has_key key)) is in
      let o = old_once key in
      omega (arith, one, e, o))

  new_once : (k : List ℕ) → count (has_key k) (slot_records new come ++ slot_records old rest) ≤ 1
  new_once k =
      let g = count-append (has_key k) (slot_records new come) (slot_records old rest) in
      let e = ap (count (has_key k)) change.come_is in
      let o = old_once k in
      bool_cases (bytes_eq key k)
      (λ t.
      let same : key ≡ k = (bytes_eq-Decides key k).0 t in
      let none : count (has_key k) (slot_records old rest) ≡ 0 = rw same at key_gone in
      let one = pairs_one key k value in
      omega (arith, g, e, none, one))
      (λ f. let z = pairs_count key k value f in omega (arith, g, e, o, z))

  file_change : FileChange old new h i gone come rest
  file_change =
      record {
        longer = change.longer;
        entries = change.entries;
        others = change.others;
        bits = change.bits;
        fields = change.fields;
        number = change.number;
        slots = record { before_is = change.before_is; after_is = change.after_is; kept = change.kept; good = change.good; once = new_once; reached = change.reached };
      }

  pub one_key : (h' : Header) → IsSameShape h h' → OneKeyChanged old new h h' key value
  one_key h' shape =
      let done = file_changed old new h h' i gone come rest bits_le parts li shape file_change in
      record {
        parts = done.parts;
        map =
            λ k.
            bool_cases (bytes_eq key k)
            (λ t.
            let same : key ≡ k = (bytes_eq-Decides key k).0 t in
            let here : entry_at old h (index_of h k) ≡ entry_at old h i = rw same at change.here in
            let zero_rest : count (has_key k) (slot_records old rest) ≡ 0 = rw same at key_gone in
            let none = lookup-none k (slot_records old rest) zero_rest in
            rw t
            (done.new_map k here ∙ lookup-append k (slot_records new come) (slot_records old rest)
            ∙ ap (or_else (lookup k (slot_records new come))) none ∙ or_none (lookup k (slot_records new come)) ∙ ap (lookup k) change.come_is ∙ pairs_same key k value t))
            (λ f.
            rw f
            (entry_cases (entry_at old h (index_of h k)) (entry_at old h i)
            (λ here.
            let a = done.new_map k here ∙ lookup-append k (slot_records new come) (slot_records old rest) in
            let b = done.old_map k here ∙ lookup-append k (slot_records old gone) (slot_records old rest) in
            let c = ap (lookup k) change.come_is ∙ pairs_other key k value f in
            let d = ap (lookup k) change.gone_is ∙ pairs_other key k (value_at old h key) f in
            a ∙ ap (λ (x : Option (List ℕ)). or_else x (lookup k (slot_records old rest))) (c ∙ sym d) ∙ sym b)
            (λ there. done.other_map k there)));
      }
