-- The texts of records, one after another, and of a whole dump.
use Rattle.std.proofs.Common.{◌≡◌, ◌∙◌, ap, sym, refl, ℕ, List, [], ◌∷◌, ◌++◌, length}
use Rattle.std.proofs.lemmas.List.{append_assoc, append-nil}
use Rattle.gd_base.specs.declared.errors.Format.{Format}
use Rattle.gd_dump.specs.Ascii.{pair_text, pairs_text}
use Rattle.gd_dump.specs.Binary.{binary_head, binary_pair, binary_pairs}
use Rattle.gd_words.specs.declared.dump.Form.{Form}
use Rattle.gd_words.specs.declared.dump.Form.TheVariants.{Ascii, Binary}
use Rattle.gd_dumping.specs.Forms.{end_in, form_text, head_in, pair_in, pairs_in}
use Rattle.gd_dumping.specs.Words.{Text}

abbrev pub Pair : Type 0
Pair = Text × Text

pairs_next : (form : Form) (front : Text) (p : Pair) (new : List Pair) → front ++ pairs_in form (p ∷ new) ≡ (front ++ pair_in form p.0 p.1) ++ pairs_in form new
pairs_next Ascii front p new = sym (append_assoc front (pair_text p.0 p.1) (pairs_text new))
pairs_next Binary front p new = sym (append_assoc front (binary_pair p.0 p.1) (binary_pairs new))

-- one more record was put
pub pairs_more : (form : Form) (all front : Text) (p : Pair) (old new : List Pair) → all ≡ front ++ pairs_in form old → old ≡ p ∷ new
    → all ≡ (front ++ pair_in form p.0 p.1) ++ pairs_in form new
pairs_more form all front p old new is next =
    is ∙ ap (λ (ps : List Pair). front ++ pairs_in form ps) next ∙ pairs_next form front p new

-- the text of one record and of those behind it
pub pairs_split : (form : Form) (p : Pair) (old new : List Pair) → old ≡ p ∷ new → pairs_in form old ≡ pair_in form p.0 p.1 ++ pairs_in form new
pairs_split form p old new next = pairs_more form (pairs_in form old) [] p old new refl next

-- a dump is its head, its records and its end
pub whole_text : (form : Form) (pairs : List Pair) (name : Text) (format : Format) → form_text form pairs name format ≡ head_in form format name ++ (pairs_in form pairs ++ end_in form (length pairs))
whole_text Ascii pairs name format = refl
whole_text Binary pairs name format = ap (λ (t : Text). binary_head ++ t) (sym (append-nil (binary_pairs pairs)))
