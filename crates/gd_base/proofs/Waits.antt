-- Bytes put one after another through a page.
use Rattle.std.proofs.Common.{◌≡◌, ◌∙◌, ap, subst, sym, ℕ, ◌+◌, List, [], ◌++◌, take, length, Option, Result, Ok, Err, arith}
use Rattle.std.specs.Result.{IsErrAnd}
use Rattle.std.proofs.lemmas.Result.{err_from_is_err_and}
use Rattle.std.proofs.lemmas.List.{append-nil, append_assoc, length-append}
use Rattle.gd_base.specs.Streams.{Puts, WritesFront, and_then}
use Rattle.gd_base.proofs.Writes.{all-after, and_then-twice, front-after, front-more, take-past}
use Rattle.gd_base.specs.Pages.{Pends}

-- what was put so far
abbrev pub Waits : Option (List ℕ) → List ℕ → Option (List ℕ) → List ℕ → List ℕ → Type 0
Waits old waited new waits bytes = (front : List ℕ) × (new ≡ and_then old front) × (front ++ waits ≡ waited ++ bytes)

-- more after it
pub waits-more : (old middle new : Option (List ℕ)) (p q r xs ys : List ℕ) → Waits old p middle q xs → Waits middle q new r ys → Waits old p new r (xs ++ ys)
waits-more old middle new p q r xs ys a b = (
  a.0 ++ b.0,
  b.1 ∙ ap (λ t. and_then t b.0) a.1 ∙ and_then-twice old a.0 b.0,
  append_assoc a.0 b.0 r ∙ ap (λ t. a.0 ++ t) b.2 ∙ sym (append_assoc a.0 q ys) ∙ ap (λ t. t ++ ys) a.2 ∙ append_assoc p xs ys,
)

-- a failure after it
pub waits-front : (old middle new : Option (List ℕ)) (p q xs ys : List ℕ) → Waits old p middle q xs → WritesFront middle new (q ++ ys) → WritesFront old new (p ++ (xs ++ ys))
waits-front old middle new p q xs ys a (n, le, is) =
    let all : a.0 ++ (q ++ ys) ≡ p ++ (xs ++ ys) = sym (append_assoc a.0 q ys) ∙ ap (λ t. t ++ ys) a.2 ∙ append_assoc p xs ys in
    let len : length a.0 + length (q ++ ys) ≡ length (p ++ (xs ++ ys)) = sym (length-append a.0 (q ++ ys)) ∙ ap length all in (
      length a.0 + n,
      omega (arith, le, len),
      is ∙ ap (λ t. and_then t (take n (q ++ ys))) a.1 ∙ and_then-twice old a.0 (take n (q ++ ys))
          ∙ ap (and_then old) (sym (take-past n a.0 (q ++ ys)) ∙ ap (take (length a.0 + n)) all),
    )

-- an error while some of xs was put
pub pends-front : {T E : Type 0} (Q : E → Type 0) (r : Result T E) (old new : Option (List ℕ)) (p q xs ys : List ℕ) → IsErrAnd r Q → WritesFront old new (p ++ xs) → Pends old p new q r (xs ++ ys)
pends-front Q r old new p q xs ys err front =
    let e = err_from_is_err_and {Q = Q} r err in
    rw (e.1, sym (append_assoc p xs ys)) (front-more old new (p ++ xs) ys front)

-- what is put after all of xs
pub pends-after : {T E : Type 0} (r : Result T E) (old middle new : Option (List ℕ)) (p q w xs ys : List ℕ) → Waits old p middle q xs → Pends middle q new w r ys → Pends old p new w r (xs ++ ys)
pends-after (Ok x) old middle new p q w xs ys a b = waits-more old middle new p q w xs ys a b
pends-after (Err e) old middle new p q w xs ys a b = waits-front old middle new p q xs ys a b

pub waits-nothing : (old : Option (List ℕ)) (p : List ℕ) → old ≡ and_then old [] → Waits old p old p []
waits-nothing old p h = ([], h, sym (append-nil p))

-- what waited was written, and then bytes at once
pub put-direct : {T E : Type 0} (r : Result T E) (old middle new : Option (List ℕ)) (p q bytes : List ℕ) → middle ≡ and_then old p → q ≡ [] → Puts middle new r bytes → Pends old p new q r bytes
put-direct (Ok x) old middle new p q bytes all none is = (p ++ bytes, all-after old middle new p bytes all is, ap (λ t. (p ++ bytes) ++ t) none ∙ append-nil (p ++ bytes))
put-direct (Err e) old middle new p q bytes all none is = front-after old middle new p bytes all is

-- all that waits is written in the end
pub flush-all : {T E : Type 0} (r : Result T E) (old middle new : Option (List ℕ)) (p q xs : List ℕ) → p ≡ [] → Waits old p middle q xs → Puts middle new r q → Puts old new r xs
flush-all (Ok x) old middle new p q xs none a is = all-after old middle new a.0 q a.1 is ∙ ap (and_then old) (a.2 ∙ ap (λ t. t ++ xs) none)
flush-all (Err e) old middle new p q xs none a is = subst (WritesFront old new) (a.2 ∙ ap (λ t. t ++ xs) none) (front-after old middle new a.0 q a.1 is)

-- an error where nothing waited at first
pub puts-error : {T E : Type 0} (Q : E → Type 0) (r : Result T E) (old new : Option (List ℕ)) (p xs : List ℕ) → IsErrAnd r Q → p ≡ [] → WritesFront old new (p ++ xs) → Puts old new r xs
puts-error Q r old new p xs err none front =
    let e = err_from_is_err_and {Q = Q} r err in
    rw e.1 (subst (λ (q : List ℕ). WritesFront old new (q ++ xs)) none front)

-- what waited was written, and then bytes were put behind nothing
pub put-again : {T E : Type 0} (r : Result T E) (old middle new : Option (List ℕ)) (p q w bytes : List ℕ) → middle ≡ and_then old p → q ≡ [] → Pends middle q new w r bytes → Pends old p new w r bytes
put-again (Ok x) old middle new p q w bytes all none (front, is, both) = (
  p ++ front,
  all-after old middle new p front all is,
  append_assoc p front w ∙ ap (λ t. p ++ t) (both ∙ ap (λ t. t ++ bytes) none),
)
put-again (Err e) old middle new p q w bytes all none is =
    front-after old middle new p bytes all (subst (λ (t : List ℕ). WritesFront middle new (t ++ bytes)) none is)
