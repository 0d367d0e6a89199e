-- The first refusal of extents in their order.
use Rattle.std.proofs.Common.{◌≡◌, ℕ, zero, suc, ◌+◌, ◌<◌, Bool, true, false, not, ◌&&◌, leb, List, [], ◌∷◌, ◌++◌, length, take, get_or, Option, Some, None, is_none, refl, ap, ◌∙◌, arith}
use Rattle.std.proofs.lemmas.Bool.{leb-true, le-leb}
use Rattle.gd_base.specs.declared.errors.DbError.{DbError}
use Rattle.gd_base.specs.declared.errors.DbError.TheVariants.{BadAvail}
use Rattle.gd_format.specs.declared.Held.{Held}
use Rattle.gd_format.specs.First.{or_else, unless}
use Rattle.gd_format.specs.Sound.{meets, meets_none, meet_fault}
use Rattle.gd_format.proofs.Firsts.{and-true, both_true, or_else-none, or_else_both, unless-none, unless_true}
use Rattle.gd_verify.specs.Apart.{AllMiss, AreApart, AllEnd, end_of}

-- none of a list meets one before
abbrev AllClear : List Held → List Held → Type 0
AllClear before [] = Unit {0}
AllClear before (k ∷ ks) = (meets_none k.extent before ≡ true) × AllClear before ks

not_true : (b : Bool) → not b ≡ true → b ≡ false
not_true true h = absurd cc
not_true false h = refl

none-push : (k : Held) (before : List Held) (l : Held) → meets_none k.extent before ≡ true → meets k.extent l.extent ≡ false → meets_none k.extent (before ++ l ∷ []) ≡ true
none-push k [] l h m = rw m refl
none-push k (x ∷ xs) l h m = let both = and-true _ _ h in both_true _ _ both.0 (none-push k xs l both.1 m)

none-split : (k : Held) (before : List Held) (l : Held) → meets_none k.extent (before ++ l ∷ []) ≡ true → (meets_none k.extent before ≡ true) × (meets k.extent l.extent ≡ false)
none-split k [] l h = (refl, not_true (meets k.extent l.extent) (and-true _ _ h).0)
none-split k (x ∷ xs) l h =
    let both = and-true _ _ h in
    let rest = none-split k xs l both.1 in
    (both_true _ _ both.0 rest.0, rest.1)

clear-push : (before : List Held) (l : Held) (ks : List Held) → AllClear before ks → AllMiss l ks → AllClear (before ++ l ∷ []) ks
clear-push before l [] h m = tt
clear-push before l (k ∷ ks) h m = (none-push k before l h.0 m.0, clear-push before l ks h.1 m.1)

clear-split : (before : List Held) (l : Held) (ks : List Held) → AllClear (before ++ l ∷ []) ks → AllClear before ks × AllMiss l ks
clear-split before l [] h = (tt, tt)
clear-split before l (k ∷ ks) h =
    let here = none-split k before l h.0 in
    let rest = clear-split before l ks h.1 in
    ((here.0, rest.0), (here.1, rest.1))

module _ (next : ℕ) where
  passes : (before ks : List Held) → AllEnd next ks → AllClear before ks → AreApart ks → meet_fault next before ks ≡ None
  passes before [] e c a = refl
  passes before (k ∷ ks) e c a =
      or_else_both _ _ (unless_true _ _ (both_true _ _ (le-leb (end_of k) next e.0) c.0)) (passes (before ++ k ∷ []) ks e.1 (clear-push before k ks c.1 a.0) a.1)

  passed : (before ks : List Held) → meet_fault next before ks ≡ None → AllEnd next ks × AllClear before ks × AreApart ks
  passed before [] h = (tt, tt, tt)
  passed before (k ∷ ks) h =
      let both = or_else-none _ _ h in
      let here = and-true _ _ (unless-none _ _ both.0) in
      let rest = passed (before ++ k ∷ []) ks both.1 in
      let clear = clear-split before k ks rest.1 in
      ((leb-true (end_of k) next here.0, rest.0), (here.1, clear.0), (clear.1, rest.2))

  clear-start : (ks : List Held) → AllClear [] ks
  clear-start [] = tt
  clear-start (k ∷ ks) = (refl, clear-start ks)

  is_none-of : (o : Option DbError) → is_none o ≡ true → o ≡ None
  is_none-of None h = refl
  is_none-of (Some e) h = absurd cc

  not_none : (o : Option DbError) → (o ≡ None → ⊥) → is_none o ≡ false
  not_none None h = absurd (h refl)
  not_none (Some e) h = refl

  pub none_meets : (ks : List Held) → AllEnd next ks → AreApart ks → is_none (meet_fault next [] ks) ≡ true
  none_meets ks e a = ap is_none (passes [] ks e (clear-start ks) a)

  pub some_past : (ks : List Held) → (AllEnd next ks → ⊥) → is_none (meet_fault next [] ks) ≡ false
  some_past ks wrong = not_none (meet_fault next [] ks) (λ h. wrong (passed [] ks h).0)

  pub some_meet : (ks : List Held) → (AreApart ks → ⊥) → is_none (meet_fault next [] ks) ≡ false
  some_meet ks wrong = not_none (meet_fault next [] ks) (λ h. wrong (passed [] ks h).2)

  -- ---- where the first n have no refusal and one more has one

  first_here : (b : Bool) (e : DbError) (o : Option DbError) → is_none (or_else (unless b e) None) ≡ false → or_else (unless b e) o ≡ Some e
  first_here true e o h = absurd cc
  first_here false e o h = refl

  skips : (b : Bool) (e : DbError) (o : Option DbError) → is_none (or_else (unless b e) o) ≡ true → (unless b e ≡ None) × (is_none o ≡ true)
  skips true e o h = (refl, h)
  skips false e o h = absurd cc

  drops : (a o : Option DbError) → a ≡ None → or_else a o ≡ o
  drops a o e = rw e refl

  meet_at : (before ks : List Held) (n : ℕ) (d : Held) → n < length ks → is_none (meet_fault next before (take n ks)) ≡ true → is_none (meet_fault next before (take (suc n) ks)) ≡ false → meet_fault next before ks ≡ Some (BadAvail (get_or ks n d).by)
  meet_at before [] n d lt h k = absurd (omega arith)
  meet_at before (x ∷ xs) zero d lt h k = first_here (leb (end_of x) next && meets_none x.extent before) (BadAvail x.by) (meet_fault next (before ++ x ∷ []) xs) k
  meet_at before (x ∷ xs) (suc n) d lt h k =
      let here = skips (leb (end_of x) next && meets_none x.extent before) (BadAvail x.by) (meet_fault next (before ++ x ∷ []) (take n xs)) h in
      let more : is_none (meet_fault next (before ++ x ∷ []) (take (suc n) xs)) ≡ false = rw (drops _ (meet_fault next (before ++ x ∷ []) (take (suc n) xs)) here.0) at k in
      drops _ _ here.0 ∙ meet_at (before ++ x ∷ []) xs n d (omega arith) here.1 more

  pub first_meets : (ks : List Held) (n : ℕ) (d : Held) → n < length ks → is_none (meet_fault next [] (take n ks)) ≡ true → is_none (meet_fault next [] (take (n + 1) ks)) ≡ false → meet_fault next [] ks ≡ Some (BadAvail (get_or ks n d).by)
  first_meets ks n d lt h k = let same : n + 1 ≡ suc n = omega arith in
      let one : is_none (meet_fault next [] (take (suc n) ks)) ≡ false = rw same at k in meet_at [] ks n d lt h one
