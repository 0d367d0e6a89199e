use Rattle.std.proofs.Common.{◌∙◌, ap, sym, ℕ, List, Ok}
use Rattle.std.proofs.lemmas.Str.{is_utf8-from_IsUtf8}
use Rattle.gd_base.specs.Names.{name_fault}
use Rattle.gd_lang.proofs.Naming.{name_is, no_text_no_name, not_utf8}
use Rattle.gd_lang.proofs.values.name_of.Goals as goal

pub returns-in_default : goal.returns-in_default
returns-in_default c = no_text_no_name c.args.word.now (not_utf8 c.args.word.now c.in_default.ensures.cases.0)

pub returns-in-Ok-new : goal.returns-in-Ok-new
returns-in-Ok-new c =
    let same = c.in-Ok.ensures.cases.0 in
    name_is c.args.word.now (is_utf8-from_IsUtf8 c.args.word.now c.in-Ok.ensures.cases.1) (ap (λ (t : List ℕ). name_fault t) (sym same) ∙ c.in-Ok-new.ensures.1)
    ∙ ap Ok (sym (c.in-Ok-new.ensures.0 ∙ same))
