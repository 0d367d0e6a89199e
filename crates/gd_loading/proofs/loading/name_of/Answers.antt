use Rattle.std.proofs.Common.{◌∙◌, ap, sym, ℕ, List}
use Rattle.std.proofs.lemmas.Str.{is_utf8-from_IsUtf8}
use Rattle.gd_base.specs.Names.{name_fault}
use Rattle.gd_loading.proofs.Naming.{name-is, no-name}
use Rattle.gd_loading.proofs.loading.name_of.Goals as goal

pub returns-in_default : goal.returns-in_default
returns-in_default c = no-name c.args.text.now c.in_default.ensures.cases.0

pub returns-in-Ok-new : goal.returns-in-Ok-new
returns-in-Ok-new c =
    let same = c.in-Ok.ensures.cases.0 in
    name-is c.args.text.now c.in-Ok-new.name (is_utf8-from_IsUtf8 c.args.text.now c.in-Ok.ensures.cases.1) (ap (λ (t : List ℕ). name_fault t) (sym same) ∙ c.in-Ok-new.ensures.1) (c.in-Ok-new.ensures.0 ∙ same)
