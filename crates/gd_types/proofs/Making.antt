-- Definitions that are made member by member.
use Rattle.std.proofs.Common.{◌≡◌, ◌∙◌, ap, sym, refl, subst, ℕ, ◌^◌, ◌≤◌, Bool, true, false, not, ◌&&◌, ◌||◌, cond, ◌==◌, nat_le, ◌⊎◌, inl, inr, List, [], ◌∷◌, ◌++◌, length, arith}
use Rattle.std.specs.List.{list_any}
use Rattle.std.proofs.lemmas.Bool.Decides.{nat_tests}
use Rattle.gd_types.specs.Members.{Defined, IsSound, accepts, fits_at, goes_on, has_room, is_made_from, is_text, is_within, place_after, reached, reached_from}
use Rattle.gd_types.specs.declared.members.Member.{Member}

pub and-left : (a b : Bool) → a && b ≡ true → a ≡ true
and-left true b h = refl
and-left false b h = cc

pub and-right : (a b : Bool) → a && b ≡ true → b ≡ true
and-right true b h = h
and-right false b h = cc

pub and-both : (a b : Bool) → a ≡ true → b ≡ true → a && b ≡ true
and-both a b h k = rw (h, k) refl

pub cases_bool : (b : Bool) → (b ≡ true) ⊎ (b ≡ false)
cases_bool true = inl refl
cases_bool false = inr refl

pub cond_same : (b : Bool) → cond b true true ≡ true
cond_same true = refl
cond_same false = refl

pub or-false : (b : Bool) → b || false ≡ b
or-false true = refl
or-false false = refl

pub or-left : (a b : Bool) → a || b ≡ false → a ≡ false
or-left true b h = cc
or-left false b h = refl

pub or-right : (a b : Bool) → a || b ≡ false → b ≡ false
or-right true b h = cc
or-right false b h = h

pub fits-low : (at : ℕ) (m : Member) → fits_at at m ≡ true → place_after at m ≤ 2 ^ 48
fits-low at m h =
    let low = and-right (is_within m && goes_on at m) (nat_le (place_after at m) (2 ^ 48)) h in
    grind (arith, nat_tests)

-- the members behind one that is no text
pub made-rest : (at : ℕ) (m : Member) (ms : List Member) → is_text m ≡ false → is_made_from at (m ∷ ms) ≡ true → is_made_from (place_after at m) ms ≡ true
made-rest at m ms plain h =
    let rest = and-right (fits_at at m) (cond (is_text m) (length ms == 0) (is_made_from (place_after at m) ms)) h in
    subst (λ (b : Bool). cond b (length ms == 0) (is_made_from (place_after at m) ms) ≡ true) plain rest

-- nothing stands behind a text
pub made-text : (at : ℕ) (m : Member) (ms : List Member) → is_text m ≡ true → is_made_from at (m ∷ ms) ≡ true → ms ≡ []
made-text at m [] text h = refl
made-text at m (x ∷ xs) text h =
    let rest = and-right (fits_at at m) (cond (is_text m) (length (x ∷ xs) == 0) (is_made_from (place_after at m) (x ∷ xs))) h in
    let none = subst (λ (b : Bool). cond b (length (x ∷ xs) == 0) (is_made_from (place_after at m) (x ∷ xs)) ≡ true) text rest in
    grind (arith, nat_tests)

pub made-fits : (at : ℕ) (m : Member) (ms : List Member) → is_made_from at (m ∷ ms) ≡ true → fits_at at m ≡ true
made-fits at m ms h = and-left (fits_at at m) (cond (is_text m) (length ms == 0) (is_made_from (place_after at m) ms)) h

pub reached-low : (at : ℕ) (ms : List Member) → at ≤ 2 ^ 48 → is_made_from at ms ≡ true → reached_from at ms ≤ 2 ^ 48
reached-low at [] low h = low
reached-low at (m ∷ ms) low h =
    elim (cases_bool (is_text m)) [
      | inl text ↦ rw (made-text at m ms text h) (fits-low at m (made-fits at m ms h))
      | inr plain ↦ reached-low (place_after at m) ms (fits-low at m (made-fits at m ms h)) (made-rest at m ms plain h)
    ]

-- a text stands nowhere among members that are followed
pub any-head : (m : Member) (ms : List Member) → list_any is_text (m ∷ ms) ≡ false → is_text m ≡ false
any-head m ms h = or-left (is_text m) (list_any is_text ms) h

pub made-push : (at : ℕ) (ms : List Member) (m : Member) → is_made_from at ms ≡ true → list_any is_text ms ≡ false → fits_at (reached_from at ms) m ≡ true
    → is_made_from at (ms ++ m ∷ []) ≡ true
made-push at [] m h free fits = and-both (fits_at at m) (cond (is_text m) true true) fits (cond_same (is_text m))
made-push at (x ∷ xs) m h free fits =
    let plain = any-head x xs free in
    let rest = made-push (place_after at x) xs m (made-rest at x xs plain h) (or-right (is_text x) (list_any is_text xs) free) fits in
    and-both (fits_at at x) (cond (is_text x) (length (xs ++ m ∷ []) == 0) (is_made_from (place_after at x) (xs ++ m ∷ []))) (made-fits at x xs h)
    (subst (λ (b : Bool). cond b (length (xs ++ m ∷ []) == 0) (is_made_from (place_after at x) (xs ++ m ∷ [])) ≡ true) (sym plain) rest)

pub reached-push : (at : ℕ) (ms : List Member) (m : Member) → reached_from at (ms ++ m ∷ []) ≡ place_after (reached_from at ms) m
reached-push at [] m = refl
reached-push at (x ∷ xs) m = reached-push (place_after at x) xs m

pub text-push : (ms : List Member) (m : Member) → list_any is_text ms ≡ false → list_any is_text (ms ++ m ∷ []) ≡ is_text m
text-push [] m h = or-false (is_text m)
text-push (x ∷ xs) m h =
    rw (any-head x xs h) (text-push xs m (or-right (is_text x) (list_any is_text xs) h))

pub not-true : (b : Bool) → not b ≡ true → b ≡ false
not-true true h = cc
not-true false h = refl

-- a definition with an accepted member behind it
pub sound-push : (ms new : List Member) (braces : Bool) (d : Defined) (m : Member) (end now : ℕ) (closed text : Bool) → IsSound ms end closed
    → record { members = ms; braces = braces } ≡ d → accepts d m ≡ true → new ≡ ms ++ m ∷ [] → now ≡ place_after end m → text ≡ is_text m → IsSound new now text
sound-push ms new braces d m end now closed text sound is accepted pushed place kind =
    let here : accepts (record { members = ms; braces = braces }) m ≡ true = ap (λ (e : Defined). accepts e m) is ∙ accepted in
    let both = and-left (fits_at (reached ms) m && not (list_any is_text ms)) (has_room (record { members = ms; braces = braces }) m) here in
    let fits = and-left (fits_at (reached ms) m) (not (list_any is_text ms)) both in
    let free = not-true (list_any is_text ms) (and-right (fits_at (reached ms) m) (not (list_any is_text ms)) both) in
    rw pushed (record {
      made = made-push 0 ms m sound.made free fits;
      place = place ∙ ap (λ at. place_after at m) sound.place ∙ sym (reached-push 0 ms m);
      ended = kind ∙ sym (text-push ms m free);
    })
