-- The bucket of each address after a call of lru.
use Rattle.std.proofs.Common.{◌≡◌, ◌≢◌, ⊎_elim, ◌∙◌, ap, sym, refl, ℕ, zero, suc, ◌-◌, Bool, true, false, nat_eq, eqb, cond, List, [], ◌∷◌, take, Option, Some, None, is_some}
use Rattle.std.specs.Map.{lookup_entry, remove_entry}
use Rattle.std.specs.Cmp.{nat_eq_equiv}
use Rattle.std.proofs.lemmas.Bool.{eqb-true}
use Rattle.std.proofs.lemmas.Bool.Decides.{eqb_tells}
use Rattle.lru.specs.LruCache.{LruCache, promoted, put_entries}
use Rattle.lru.proofs.CallerLemmas.{lookup-put_entries}
use Rattle.gd_format.specs.Bucket.{Bucket}
use Rattle.gd_cache.specs.Cached.{Entries, addresses, held, is_listed, without}
use Rattle.gd_cache.proofs.Uses.{found_key, listed}

differs : (a x : ℕ) → a ≢ x → nat_eq a x ≡ false
differs a x ne = ⊎_elim (λ (h : (eqb a x ≡ true) × (a ≡ x)). absurd (ne h.1)) (λ (h : (eqb a x ≡ false) × (a ≢ x)). h.0) (eqb_tells a x)

same_yes : (a x : ℕ) → a ≡ x → nat_eq a x ≡ true
same_yes a x e = ⊎_elim (λ (h : (eqb a x ≡ true) × (a ≡ x)). h.0) (λ (h : (eqb a x ≡ false) × (a ≢ x)). absurd (h.1 e)) (eqb_tells a x)

-- the entry that is found has the bucket
found : (at : ℕ) (es : Entries) (x : ℕ × Bucket) → lookup_entry (nat_eq at) es ≡ Some x → held es at ≡ Some x.1
found at [] x h = cc
found at (e ∷ es) x h = go (nat_eq at e.0) refl (found at es x)
  where
    go : (t : Bool) → nat_eq at e.0 ≡ t → (lookup_entry (nat_eq at) es ≡ Some x → held es at ≡ Some x.1) → held (e ∷ es) at ≡ Some x.1
    go true t rec =
        let is : Some e ≡ Some x = rw t at h in
        let same : e ≡ x = cc in
        rw t (ap (λ (p : ℕ × Bucket). Some p.1) same)
    go false t rec = rw t (rec (rw t at h))

removed_other : (at a : ℕ) (es : Entries) → a ≢ at → held (remove_entry (nat_eq at) es) a ≡ held es a
removed_other at a [] ne = refl
removed_other at a (e ∷ es) ne = go (nat_eq at e.0) refl (removed_other at a es ne)
  where
    go : (t : Bool) → nat_eq at e.0 ≡ t → held (remove_entry (nat_eq at) es) a ≡ held es a → held (remove_entry (nat_eq at) (e ∷ es)) a ≡ held (e ∷ es) a
    go true t rec =
        let key : at ≡ e.0 = eqb-true at e.0 t in
        let no : nat_eq a e.0 ≡ false = differs a e.0 (λ (same : a ≡ e.0). ne (same ∙ sym key)) in
        rw (t, no) refl
    go false t rec = rw t (ap (λ (o : Option Bucket). cond (nat_eq a e.0) (Some e.1) o) rec)

pub taken : (n : ℕ) (es : Entries) (a : ℕ) (b : Bucket) → held (take n es) a ≡ Some b → held es a ≡ Some b
taken zero es a b h = cc
taken (suc n) [] a b h = h
taken (suc n) (e ∷ es) a b h = go (nat_eq a e.0) refl (taken n es a b)
  where
    go : (t : Bool) → nat_eq a e.0 ≡ t → (held (take n es) a ≡ Some b → held es a ≡ Some b) → held (e ∷ es) a ≡ Some b
    go true t rec = let is : Some e.1 ≡ Some b = rw t at h in rw t is
    go false t rec = let is : held (take n es) a ≡ Some b = rw t at h in rw t (rec is)

pub promoted_same : (at a : ℕ) (es : Entries) → held (promoted (nat_eq at) es) a ≡ held es a
promoted_same at a es = go (lookup_entry (nat_eq at) es) refl
  where
    go : (o : Option (ℕ × Bucket)) → lookup_entry (nat_eq at) es ≡ o → held (promoted (nat_eq at) es) a ≡ held es a
    go None e = rw e refl
    go (Some x) e =
        let key : x.0 ≡ at = found_key at es x e in
        rw e (⊎_elim
        (λ (h : (eqb a at ≡ true) × (a ≡ at)).
        let yes : nat_eq a x.0 ≡ true = same_yes a x.0 (h.1 ∙ sym key) in
        let front : cond (nat_eq a x.0) (Some x.1) (held (remove_entry (nat_eq at) es) a) ≡ Some x.1 = rw yes refl in
        front ∙ sym (found at es x e) ∙ ap (held es) (sym h.1))
        (λ (h : (eqb a at ≡ false) × (a ≢ at)).
        let no : nat_eq a x.0 ≡ false = differs a x.0 (λ (same : a ≡ x.0). h.1 (same ∙ key)) in
        let rest : cond (nat_eq a x.0) (Some x.1) (held (remove_entry (nat_eq at) es) a) ≡ held (remove_entry (nat_eq at) es) a = rw no refl in
        rest ∙ removed_other at a es h.1)
        (eqb_tells a at))

pub put_same : (c : LruCache ℕ Bucket) (at : ℕ) (b : Bucket) → held (put_entries nat_eq c at b) at ≡ Some b
put_same c at b = lookup-put_entries nat_eq c at b nat_eq_equiv

pub put_others : (c : LruCache ℕ Bucket) (at : ℕ) (b : Bucket) (a : ℕ) (d : Bucket) → a ≢ at → held (put_entries nat_eq c at b) a ≡ Some d → held c.entries a ≡ Some d
put_others c at b a d ne h = go (lookup_entry (nat_eq at) c.entries) refl
  where
    go : (o : Option (ℕ × Bucket)) → lookup_entry (nat_eq at) c.entries ≡ o → held c.entries a ≡ Some d
    go None e =
        let no : nat_eq a at ≡ false = differs a at ne in
        let is : held (take (c.cap - 1) c.entries) a ≡ Some d = rw (e, no) at h in
        taken (c.cap - 1) c.entries a d is
    go (Some x) e =
        let key : x.0 ≡ at = found_key at c.entries x e in
        let no : nat_eq a x.0 ≡ false = differs a x.0 (λ (same : a ≡ x.0). ne (same ∙ key)) in
        let is : held (remove_entry (nat_eq at) c.entries) a ≡ Some d = rw (e, no) at h in
        sym (removed_other at a c.entries ne) ∙ is

pub removed_others : (at : ℕ) (es : Entries) (a : ℕ) (d : Bucket) → a ≢ at → held (remove_entry (nat_eq at) es) a ≡ Some d → held es a ≡ Some d
removed_others at es a d ne h = sym (removed_other at a es ne) ∙ h

-- ---- an address that is not in the list has no bucket

not_there : (at : ℕ) (xs : List ℕ) → is_listed at (without at xs) ≡ false
not_there at [] = refl
not_there at (x ∷ xs) = go (nat_eq at x) refl (not_there at xs)
  where
    go : (t : Bool) → nat_eq at x ≡ t → is_listed at (without at xs) ≡ false → is_listed at (without at (x ∷ xs)) ≡ false
    go true t rec = rw t rec
    go false t rec = rw (t, t) rec

none_of : (o : Option Bucket) → is_some o ≡ false → o ≡ None
none_of None h = refl
none_of (Some x) h = cc

pub gone : (at : ℕ) (es : Entries) (xs : List ℕ) → addresses es ≡ without at xs → held es at ≡ None
gone at es xs h = none_of (held es at) (listed at es ∙ ap (is_listed at) h ∙ not_there at xs)

pub unheld : (at : ℕ) (es : Entries) → is_listed at (addresses es) ≡ false → held es at ≡ None
unheld at es h = none_of (held es at) (listed at es ∙ h)
