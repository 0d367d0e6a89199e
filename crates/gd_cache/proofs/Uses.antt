-- The list of addresses after a call of lru.
use Rattle.std.proofs.Common.{◌≡◌, ◌∙◌, ap, sym, subst, refl, ℕ, suc, ◌+◌, ◌-◌, ◌≤◌, Bool, true, false, ◌||◌, nat_eq, cond, List, [], ◌∷◌, length, take, Option, Some, None, is_some, arith}
use Rattle.std.specs.List.{AllByRecursion, IsDistinct, list_any}
use Rattle.std.specs.Map.{keys_of, lookup, lookup_entry, remove_entry}
use Rattle.std.proofs.lemmas.Bool.{eqb-true}
use Rattle.std.proofs.lemmas.List.{take_all, length-map, take-map}
use Rattle.std.proofs.lemmas.Map.Keys.{IsDistinct-head, IsDistinct-tail}
use Rattle.lru.specs.LruCache.{LruCache, promoted, put_entries, IsValid}
use Rattle.gd_format.specs.Bucket.{Bucket}
use Rattle.gd_cache.specs.Cached.{Entries, addresses, is_listed, used, without}

-- ---- the list without an address

apart : (at : ℕ) (xs : List ℕ) → AllByRecursion (λ y. nat_eq at y ≡ false) xs → without at xs ≡ xs
apart at [] h = refl
apart at (x ∷ xs) h = rw h.0 (ap (λ ys. x ∷ ys) (apart at xs h.1))

absent : (at : ℕ) (xs : List ℕ) → is_listed at xs ≡ false → without at xs ≡ xs
absent at [] h = refl
absent at (x ∷ xs) h = go (nat_eq at x) refl (absent at xs)
  where
    go : (t : Bool) → nat_eq at x ≡ t → (is_listed at xs ≡ false → without at xs ≡ xs) → without at (x ∷ xs) ≡ x ∷ xs
    go true t rec = let bad : true ≡ false = rw t at h in cc
    go false t rec = let rest : list_any (nat_eq at) xs ≡ false = rw t at h in rw t (ap (λ ys. x ∷ ys) (rec rest))

-- in the list's head nothing else has the address
tail_apart : (at x : ℕ) (xs : List ℕ) → nat_eq at x ≡ true → IsDistinct nat_eq (x ∷ xs) → without at xs ≡ xs
tail_apart at x xs t h =
    apart at xs (subst (λ y. AllByRecursion (λ z. nat_eq y z ≡ false) xs) (sym (eqb-true at x t)) (IsDistinct-head nat_eq x xs h))

shorter : (at : ℕ) (xs : List ℕ) → IsDistinct nat_eq xs → is_listed at xs ≡ true → length (without at xs) + 1 ≡ length xs
shorter at [] h there = cc
shorter at (x ∷ xs) h there = go (nat_eq at x) refl (shorter at xs (IsDistinct-tail nat_eq x xs h))
  where
    go : (t : Bool) → nat_eq at x ≡ t → (is_listed at xs ≡ true → length (without at xs) + 1 ≡ length xs) → length (without at (x ∷ xs)) + 1 ≡ length (x ∷ xs)
    go true t rec = let same = tail_apart at x xs t h in rw (t, same) (omega arith)
    go false t rec =
        let rest : list_any (nat_eq at) xs ≡ true = rw t at there in
        let more = rec rest in
        rw t (omega (arith, more))

-- a use of an address that is there cuts nothing
used-there : (at cap : ℕ) (xs : List ℕ) → IsDistinct nat_eq xs → length xs ≤ cap → is_listed at xs ≡ true → used xs at cap ≡ at ∷ without at xs
used-there at cap xs h fits there =
    let less = shorter at xs h there in
    take_all cap (at ∷ without at xs) (omega (arith, less, fits))

-- ---- entries

pub listed : (at : ℕ) (es : Entries) → is_some (lookup (nat_eq at) es) ≡ is_listed at (keys_of es)
listed at [] = refl
listed at (e ∷ es) =
    elim (nat_eq at e.0) as (λ t. is_some (cond t (Some e.1) (lookup (nat_eq at) es)) ≡ (t || list_any (nat_eq at) (keys_of es))) [
      | true ↦ refl
      | false ↦ listed at es
    ]

listed_entry : (at : ℕ) (es : Entries) → is_some (lookup_entry (nat_eq at) es) ≡ is_listed at (keys_of es)
listed_entry at [] = refl
listed_entry at (e ∷ es) =
    elim (nat_eq at e.0) as (λ t. is_some (cond t (Some e) (lookup_entry (nat_eq at) es)) ≡ (t || list_any (nat_eq at) (keys_of es))) [
      | true ↦ refl
      | false ↦ listed_entry at es
    ]

pub removed : (at : ℕ) (es : Entries) → IsDistinct nat_eq (keys_of es) → keys_of (remove_entry (nat_eq at) es) ≡ without at (keys_of es)
removed at [] h = refl
removed at (e ∷ es) h = go (nat_eq at e.0) refl (removed at es (IsDistinct-tail nat_eq e.0 (keys_of es) h))
  where
    go : (t : Bool) → nat_eq at e.0 ≡ t → keys_of (remove_entry (nat_eq at) es) ≡ without at (keys_of es) → keys_of (remove_entry (nat_eq at) (e ∷ es)) ≡ without at (keys_of (e ∷ es))
    go true t rec = rw t (sym (tail_apart at e.0 (keys_of es) t h))
    go false t rec = rw t (ap (λ ys. e.0 ∷ ys) rec)

-- the entry that is found has the address
pub found_key : (at : ℕ) (es : Entries) (e : ℕ × Bucket) → lookup_entry (nat_eq at) es ≡ Some e → e.0 ≡ at
found_key at [] e h = cc
found_key at (x ∷ es) e h = go (nat_eq at x.0) refl (found_key at es e)
  where
    go : (t : Bool) → nat_eq at x.0 ≡ t → (lookup_entry (nat_eq at) es ≡ Some e → e.0 ≡ at) → e.0 ≡ at
    go true t rec =
        let found : Some x ≡ Some e = rw t at h in
        let same : x ≡ e = cc in
        ap (λ (p : ℕ × Bucket). p.0) (sym same) ∙ sym (eqb-true at x.0 t)
    go false t rec = rec (rw t at h)

-- ---- promote, put, pop

pub promoted-list : (at cap : ℕ) (es : Entries) → IsDistinct nat_eq (keys_of es) → length es ≤ cap → is_listed at (keys_of es) ≡ true
    → keys_of (promoted (nat_eq at) es) ≡ used (keys_of es) at cap
promoted-list at cap es h fits there = go (lookup_entry (nat_eq at) es) refl
  where
    go : (o : Option (ℕ × Bucket)) → lookup_entry (nat_eq at) es ≡ o → keys_of (promoted (nat_eq at) es) ≡ used (keys_of es) at cap
    go None e = let bad : false ≡ true = ap is_some (sym e) ∙ listed_entry at es ∙ there in cc
    go (Some x) e =
        let fit : length (keys_of es) ≤ cap = rw length-map fits in
        rw (e, found_key at es x e, removed at es h) (sym (used-there at cap (keys_of es) h fit there))

pub promoted-absent : (at : ℕ) (es : Entries) → is_listed at (keys_of es) ≡ false → promoted (nat_eq at) es ≡ es
promoted-absent at es h = go (lookup_entry (nat_eq at) es) refl
  where
    go : (o : Option (ℕ × Bucket)) → lookup_entry (nat_eq at) es ≡ o → promoted (nat_eq at) es ≡ es
    go None e = rw e refl
    go (Some x) e = let bad : true ≡ false = ap is_some (sym e) ∙ listed_entry at es ∙ h in cc

pub put-list : (c : LruCache ℕ Bucket) (at : ℕ) (b : Bucket) → IsValid nat_eq c → keys_of (put_entries nat_eq c at b) ≡ used (addresses c.entries) at c.cap
put-list c at b valid = go (lookup_entry (nat_eq at) c.entries) refl
  where
    go : (o : Option (ℕ × Bucket)) → lookup_entry (nat_eq at) c.entries ≡ o → keys_of (put_entries nat_eq c at b) ≡ used (addresses c.entries) at c.cap
    go None e =
        let none : is_listed at (addresses c.entries) ≡ false = sym (listed_entry at c.entries) ∙ ap is_some e in
        let cap : c.cap ≡ suc (c.cap - 1) = omega (arith, valid.2) in
        rw (e, absent at (addresses c.entries) none) (ap (λ ys. at ∷ ys) (sym (take-map (λ (x : ℕ × Bucket). x.0) (c.cap - 1) c.entries)) ∙ ap (λ n. take n (at ∷ addresses c.entries)) (sym cap))
    go (Some x) e =
        let there : is_listed at (addresses c.entries) ≡ true = sym (listed_entry at c.entries) ∙ ap is_some e in
        let fit : length (addresses c.entries) ≤ c.cap = rw length-map valid.1 in
        rw (e, found_key at c.entries x e, removed at c.entries valid.0) (sym (used-there at c.cap (addresses c.entries) valid.0 fit there))
