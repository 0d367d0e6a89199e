-- Texts and names of files.
use Rattle.std.proofs.Common.{◌≡◌, ◌∙◌, ap, refl, ℕ, Bool, true, false, ◌&&◌, List, Option, Some, None, Ok, Err}
use Rattle.std.specs.Prelude.{is_none}
use Rattle.std.specs.Str.{IsUtf8, is_utf8}
use Rattle.std.proofs.lemmas.Bool.{cond-true, cond-false}
use Rattle.std.proofs.lemmas.Str.{IsUtf8-from_is_utf8}
use Rattle.gd_base.specs.Names.{name_fault}
use Rattle.gd_base.specs.declared.names.NameError.{NameError}
use Rattle.gd_lang.specs.Commands.{wanted}
use Rattle.gd_lang.specs.Values.{is_name, name_of}
use Rattle.gd_lang.specs.declared.errors.LangError.TheVariants.{Arguments}

no-text : (word : List ℕ) (t : Bool) → is_utf8 word ≡ t → (IsUtf8 word → ⊥) → is_utf8 word ≡ false
no-text word true is refuted = absurd (refuted (IsUtf8-from_is_utf8 word is))
no-text word false is refuted = is

pub not_utf8 : (word : List ℕ) → (IsUtf8 word → ⊥) → is_utf8 word ≡ false
not_utf8 word refuted = no-text word (is_utf8 word) refl refuted

pub name_is : (word : List ℕ) → is_utf8 word ≡ true → name_fault word ≡ None → wanted (name_of word) ≡ Ok word
name_is word text none =
    let is : is_name word ≡ true = ap (λ (b : Bool). b && is_none (name_fault word)) text ∙ ap (λ (f : Option NameError). is_none f) none in
    ap (λ (o : Option (List ℕ)). wanted o) (cond-true (is_name word) (Some word) None is)

pub no_text_no_name : (word : List ℕ) → is_utf8 word ≡ false → wanted (name_of word) ≡ Err Arguments
no_text_no_name word text =
    let is : is_name word ≡ false = ap (λ (b : Bool). b && is_none (name_fault word)) text in
    ap (λ (o : Option (List ℕ)). wanted o) (cond-false (is_name word) (Some word) None is)
