-- Texts and names of files.
use Rattle.std.proofs.Common.{◌≡◌, ◌∙◌, ap, sym, refl, ℕ, Bool, true, false, ◌&&◌, List, Option, Some, None}
use Rattle.std.specs.Prelude.{is_none}
use Rattle.std.specs.Str.{IsUtf8, is_utf8}
use Rattle.std.proofs.lemmas.Bool.{cond-true, cond-false}
use Rattle.std.proofs.lemmas.Str.{IsUtf8-from_is_utf8}
use Rattle.gd_base.specs.Names.{name_fault}
use Rattle.gd_base.specs.declared.names.NameError.{NameError}
use Rattle.gd_loading.specs.Load.{is_name, name_in}

no-text : (word : List ℕ) (t : Bool) → is_utf8 word ≡ t → (IsUtf8 word → ⊥) → is_utf8 word ≡ false
no-text word true is refuted = absurd (refuted (IsUtf8-from_is_utf8 word is))
no-text word false is refuted = is

pub no-name : (word : List ℕ) → (IsUtf8 word → ⊥) → None ≡ name_in (Some word)
no-name word refuted =
    let is : is_name word ≡ false = ap (λ (b : Bool). b && is_none (name_fault word)) (no-text word (is_utf8 word) refl refuted) in
    sym (cond-false (is_name word) (Some word) None is)

pub name-is : (word name : List ℕ) → is_utf8 word ≡ true → name_fault word ≡ None → name ≡ word → Some name ≡ name_in (Some word)
name-is word name text none same =
    let is : is_name word ≡ true = ap (λ (b : Bool). b && is_none (name_fault word)) text ∙ ap (λ (f : Option NameError). is_none f) none in
    ap (λ (x : List ℕ). Some x) same ∙ sym (cond-true (is_name word) (Some word) None is)
