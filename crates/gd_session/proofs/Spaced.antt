-- A record's text in its parts.
use Rattle.std.proofs.Common.{◌≡◌, ◌⊎◌, inl, inr, ℕ, List, [], ◌∷◌, ◌++◌, Option, Some, None, Result, Ok, Err, refl, sym, ap, subst, ◌∙◌}
use Rattle.std.proofs.lemmas.List.{append_assoc}
use Rattle.gd_base.specs.Causes.{Rose}
use Rattle.gd_base.specs.Streams.{WritesFront, and_then}
use Rattle.gd_types.specs.Decoding.{datum_fault, datum_text, typed_text, unless}
use Rattle.gd_types.specs.Members.{Defined}
use Rattle.gd_types.specs.declared.errors.TypeError.{TypeError}
use Rattle.gd_session.specs.Said.{Shows, misfit_of}
use Rattle.gd_session.specs.State.{Text}
use Rattle.gd_session.specs.Texts.{line, spaced}
use Rattle.gd_session.specs.declared.reply.Reply.TheVariants.{Done, SinkFault, Typed}

-- ---- the text of a record

none_both : (a b : Option TypeError) → misfit_of a b ≡ None → (a ≡ None) × (b ≡ None)
none_both None b is = (refl, is)
none_both (Some e) b is = absurd (let no_ : Some e ≡ None = is in cc)

-- a record that no definition refuses
pub pair_fits : (kd cd : Defined) (key content delim : Text) → misfit_of (datum_fault kd key) (datum_fault cd content) ≡ None → (datum_fault kd key ≡ None) × (datum_fault cd content ≡ None)
pair_fits kd cd key content delim is = none_both (datum_fault kd key) (datum_fault cd content) is

spaced_text : (kd cd : Defined) (key content delim : Text) → datum_fault kd key ≡ None → datum_fault cd content ≡ None → spaced (typed_text kd key delim) (typed_text cd content delim) ≡ Ok (datum_text kd key delim ++ 32 ∷ datum_text cd content delim)
spaced_text kd cd key content delim a b =
    ap (λ (x : Option TypeError). spaced (unless x (datum_text kd key delim)) (typed_text cd content delim)) a
    ∙ ap (λ (x : Option TypeError). spaced (Ok (datum_text kd key delim)) (unless x (datum_text cd content delim))) b

other : (f : TypeError) (t : Result Text TypeError) → spaced (Err f) t ≡ Err f
other f t = refl

spaced_error : (kd cd : Defined) (key content delim : Text) (a b : Option TypeError) (e : TypeError) → datum_fault kd key ≡ a → datum_fault cd content ≡ b → misfit_of a b ≡ Some e → spaced (typed_text kd key delim) (typed_text cd content delim) ≡ Err e
spaced_error kd cd key content delim None b e x y is =
    ap (λ (o : Option TypeError). spaced (unless o (datum_text kd key delim)) (typed_text cd content delim)) x
    ∙ ap (λ (o : Option TypeError). spaced (Ok (datum_text kd key delim)) (unless o (datum_text cd content delim))) (y ∙ is)
spaced_error kd cd key content delim (Some f) b e x y is =
    let same : f ≡ e = (let both : Some f ≡ Some e = is in cc) in
    ap (λ (o : Option TypeError). spaced (unless o (datum_text kd key delim)) (typed_text cd content delim)) x
    ∙ other f (typed_text cd content delim) ∙ ap Err same

pub pair_error : (kd cd : Defined) (key content delim : Text) (e : TypeError) → misfit_of (datum_fault kd key) (datum_fault cd content) ≡ Some e → spaced (typed_text kd key delim) (typed_text cd content delim) ≡ Err e
pair_error kd cd key content delim e is = spaced_error kd cd key content delim (datum_fault kd key) (datum_fault cd content) e refl refl is

pub pair_ok : (kd cd : Defined) (key content delim : Text) → datum_fault kd key ≡ None → datum_fault cd content ≡ None → spaced (typed_text kd key delim) (typed_text cd content delim) ≡ Ok (datum_text kd key delim ++ 32 ∷ datum_text cd content delim)
pair_ok kd cd key content delim a b = spaced_text kd cd key content delim a b

pub line_parts : (k c : Text) → k ++ ((32 ∷ []) ++ line c) ≡ line (k ++ 32 ∷ c)
line_parts k c = sym (append_assoc k (32 ∷ c) (10 ∷ []))

-- the line of a record
abbrev pub record_line : Defined → Defined → Text → Text → Text → Text
record_line kd cd key content delim = datum_text kd key delim ++ ((32 ∷ []) ++ line (datum_text cd content delim))

fits_line : (kd cd : Defined) (key content delim : Text) → misfit_of (datum_fault kd key) (datum_fault cd content) ≡ None → spaced (typed_text kd key delim) (typed_text cd content delim) ≡ Ok (datum_text kd key delim ++ 32 ∷ datum_text cd content delim)
fits_line kd cd key content delim is = let b = pair_fits kd cd key content delim is in pair_ok kd cd key content delim b.0 b.1

pub pair_said : (kd cd : Defined) (key content delim : Text) (o n : Option Text) (f g : ℕ) → misfit_of (datum_fault kd key) (datum_fault cd content) ≡ None → n ≡ and_then o (record_line kd cd key content delim)
    → Shows (spaced (typed_text kd key delim) (typed_text cd content delim)) Done o n f g
pair_said kd cd key content delim o n f g is all =
    subst (λ (t : Result Text TypeError). Shows t Done o n f g) (sym (fits_line kd cd key content delim is))
    (inl (refl, all ∙ ap (and_then o) (line_parts (datum_text kd key delim) (datum_text cd content delim))))

pub pair_failed : (kd cd : Defined) (key content delim : Text) (o n : Option Text) (f g : ℕ) → misfit_of (datum_fault kd key) (datum_fault cd content) ≡ None → WritesFront o n (record_line kd cd key content delim) → Rose f g
    → Shows (spaced (typed_text kd key delim) (typed_text cd content delim)) SinkFault o n f g
pair_failed kd cd key content delim o n f g is front rose =
    subst (λ (t : Result Text TypeError). Shows t SinkFault o n f g) (sym (fits_line kd cd key content delim is))
    (inr (refl, rose, subst (WritesFront o n) (line_parts (datum_text kd key delim) (datum_text cd content delim)) front))

pub pair_refused : (kd cd : Defined) (key content delim : Text) (e : TypeError) (o n : Option Text) (f g : ℕ) → misfit_of (datum_fault kd key) (datum_fault cd content) ≡ Some e → n ≡ o
    → Shows (spaced (typed_text kd key delim) (typed_text cd content delim)) (Typed e) o n f g
pair_refused kd cd key content delim e o n f g is same =
    subst (λ (t : Result Text TypeError). Shows t (Typed e) o n f g) (sym (pair_error kd cd key content delim e is)) (refl, same)
