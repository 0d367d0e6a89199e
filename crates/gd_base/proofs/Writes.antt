-- Writes in a row.
use Rattle.std.proofs.Common.{◌≡◌, ◌∙◌, ap, ap₂, sym, refl, ℕ, ◌+◌, List, [], ◌∷◌, ◌++◌, take, drop, Option, Some, None, zero-add, suc-add, arith, length, ◌-◌, Result, Ok, Err}
use Rattle.std.specs.Result.{IsErrAnd}
use Rattle.std.proofs.lemmas.Result.{err_from_is_err_and}
use Rattle.std.proofs.lemmas.List.{append-nil, append_assoc, length-append, take_rest, take-append-drop, take-append-le, take-take, drop-take}
use Rattle.gd_base.specs.Streams.{Puts, WritesFront, and_then}

pub and_then-twice : (told : Option (List ℕ)) (xs ys : List ℕ) → and_then (and_then told xs) ys ≡ and_then told (xs ++ ys)
and_then-twice None xs ys = refl
and_then-twice (Some zs) xs ys = ap Some (append_assoc zs xs ys)

pub take-more : {X : Type 0} (m n : ℕ) (xs : List X) → take (m + n) xs ≡ take m xs ++ take n (drop m xs)
take-more {X} m n xs = sym (take-append-drop m (take (m + n) xs)) ∙ ap₂ (λ (a : List X) b. a ++ b) (take-take m (m + n) xs (omega arith)) (drop-take m n xs)

-- what is told after the bytes from a place on have been written in part
pub write-more : (first told new : Option (List ℕ)) (bytes : List ℕ) (at n : ℕ) → told ≡ and_then first (take at bytes)
    → new ≡ and_then told (take n (take (length bytes - at) (drop at bytes))) → new ≡ and_then first (take (at + n) bytes)
write-more first told new bytes at n before now =
    now ∙ ap (λ b. and_then told (take n b)) (take_rest bytes at) ∙ ap (λ t. and_then t (take n (drop at bytes))) before
    ∙ and_then-twice first (take at bytes) (take n (drop at bytes)) ∙ ap (and_then first) (sym (take-more at n bytes))

pub take-past : {X : Type 0} (n : ℕ) (xs ys : List X) → take (length xs + n) (xs ++ ys) ≡ xs ++ take n ys
take-past n [] ys = rw (zero-add n) refl
take-past n (x ∷ xs) ys = rw (suc-add (length xs) n) (ap (λ zs. x ∷ zs) (take-past n xs ys))

-- some front of what is put is a front of more
pub front-more : (old new : Option (List ℕ)) (xs ys : List ℕ) → WritesFront old new xs → WritesFront old new (xs ++ ys)
front-more old new xs ys (n, le, is) =
    (n, rw (length-append xs ys) (omega (arith, le)), is ∙ ap (and_then old) (sym (take-append-le n xs ys le)))

-- what is put in part after all of xs
pub front-after : (old middle new : Option (List ℕ)) (xs ys : List ℕ) → middle ≡ and_then old xs → WritesFront middle new ys → WritesFront old new (xs ++ ys)
front-after old middle new xs ys all (n, le, is) = (
  length xs + n,
  rw (length-append xs ys) (omega (arith, le)),
  is ∙ ap (λ t. and_then t (take n ys)) all ∙ and_then-twice old xs (take n ys) ∙ ap (and_then old) (sym (take-past n xs ys)),
)

pub all-after : (old middle new : Option (List ℕ)) (xs ys : List ℕ) → middle ≡ and_then old xs → new ≡ and_then middle ys → new ≡ and_then old (xs ++ ys)
all-after old middle new xs ys all is = is ∙ ap (λ t. and_then t ys) all ∙ and_then-twice old xs ys

pub put-nothing : (told : Option (List ℕ)) → told ≡ and_then told []
put-nothing None = refl
put-nothing (Some xs) = ap Some (sym (append-nil xs))

-- an error after some front of xs was put
pub puts-front : {T E : Type 0} (Q : E → Type 0) (r : Result T E) (old new : Option (List ℕ)) (xs ys : List ℕ) → IsErrAnd r Q → WritesFront old new xs → Puts old new r (xs ++ ys)
puts-front Q r old new xs ys err front =
    let p = err_from_is_err_and {Q = Q} r err in
    rw p.1 (front-more old new xs ys front)

-- what is put after all of xs
pub puts-after : {T E : Type 0} (r : Result T E) (old middle new : Option (List ℕ)) (xs ys : List ℕ) → middle ≡ and_then old xs → Puts middle new r ys → Puts old new r (xs ++ ys)
puts-after (Ok x) old middle new xs ys all is = all-after old middle new xs ys all is
puts-after (Err e) old middle new xs ys all is = front-after old middle new xs ys all is
