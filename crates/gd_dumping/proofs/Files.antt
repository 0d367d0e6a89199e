-- What is told of a file, before and after calls that ask, and what of its dump was written.
use Rattle.std.proofs.Common.{◌≡◌, ◌∙◌, ap, sym, subst, refl, ℕ, ◌≤◌, List, [], ◌++◌, Option, Some, Result, arith}
use Rattle.std.specs.Result.{IsErrAnd}
use Rattle.std.proofs.lemmas.Result.{err_from_is_err_and}
use Rattle.gd_base.specs.Pages.{Pends}
use Rattle.gd_base.specs.Streams.{Puts, WritesFront, and_then}
use Rattle.gd_base.proofs.Waits.{Waits}
use Rattle.gd_base.proofs.Writes.{all-after, front-after}
use Rattle.gd_vault.specs.Content.{File, Content}
use Rattle.gd_vault.specs.Views.{View, OnlyAsks, content_of}
use Rattle.gd_format.specs.declared.Header.{Header}
use Rattle.gd_format.specs.HeaderFault.{header_of}
use Rattle.gd_format.specs.File.{front_of, records}
use Rattle.gd_words.specs.declared.dump.Form.{Form}
use Rattle.gd_dumping.specs.Forms.{dump_of, form_text}
use Rattle.gd_dumping.specs.Words.{Text}
use Rattle.gd_dumping.specs.Dump.{AtFile}
use Rattle.gd_dumping.proofs.Ends.{waits-stop}

pub at_now : (u v : View) (f g : ℕ) (P : List ℕ → Type 0) → v.told ≡ u.told → g ≡ f → AtFile u f P → AtFile v g P
at_now u v f g P same id h = λ c told x is. h c (sym (ap content_of same) ∙ told) x (sym (ap c.files id) ∙ is)

pub asks_on : (u v w : View) → OnlyAsks u v → OnlyAsks v w → OnlyAsks u w
asks_on u v w a b =
    let one = a.later in
    let two = b.later in
    record { told = b.told ∙ a.told; later = omega arith; bytes_written = b.bytes_written ∙ a.bytes_written; clones = b.clones ∙ a.clones }

-- a failure after all of xs was put
pub pends_stop : {T E : Type 0} (Q : E → Type 0) (r : Result T E) (old new : Option (List ℕ)) (p q xs ys : List ℕ) → IsErrAnd r Q → Waits old p new q xs → Pends old p new q r (xs ++ ys)
pends_stop Q r old new p q xs ys err a = let e = err_from_is_err_and {Q = Q} r err in rw e.1 (waits-stop old new p q xs ys a)

-- a failure in xs
pub pends_failed : {T E : Type 0} (Q : E → Type 0) (r : Result T E) (old new : Option (List ℕ)) (p q xs : List ℕ) → IsErrAnd r Q → WritesFront old new (p ++ xs) → Pends old p new q r xs
pends_failed Q r old new p q xs err front = let e = err_from_is_err_and {Q = Q} r err in rw e.1 front

pub puts_failed : {T E : Type 0} (Q : E → Type 0) (r : Result T E) (old new : Option (List ℕ)) (xs : List ℕ) → IsErrAnd r Q → WritesFront old new xs → Puts old new r xs
puts_failed Q r old new xs err front = let e = err_from_is_err_and {Q = Q} r err in rw e.1 front

-- what waited was written in the end, or a front of it
pub flush_done : (old middle new : Option (List ℕ)) (p q xs : List ℕ) → p ≡ [] → Waits old p middle q xs → new ≡ and_then middle q → new ≡ and_then old xs
flush_done old middle new p q xs none a is = all-after old middle new a.0 q a.1 is ∙ ap (and_then old) (a.2 ∙ ap (λ t. t ++ xs) none)

pub flush_failed : (old middle new : Option (List ℕ)) (p q xs : List ℕ) → p ≡ [] → Waits old p middle q xs → WritesFront middle new q → WritesFront old new xs
flush_failed old middle new p q xs none a is = subst (WritesFront old new) (a.2 ∙ ap (λ t. t ++ xs) none) (front-after old middle new a.0 q a.1 is)

-- a walk from the start on has all records before it
pub dump_text : (form : Form) (file : List ℕ) (name : Text) (h : Header) (all : List (List ℕ × List ℕ)) → all ≡ records file → h ≡ header_of (front_of file) → form_text form all name h.format ≡ dump_of form name file
dump_text form file name h all a b = rw (a, b) refl
