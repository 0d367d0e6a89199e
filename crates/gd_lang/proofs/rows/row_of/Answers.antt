use Rattle.std.proofs.Common.{◌≡◌, ◌∙◌, ap, sym, refl, ℕ, List, length, Option, Some, None, Bor, option_copied}
use Rattle.std.specs.Prelude.{slice_get, unwrap_or}
use Rattle.std.specs.Slice.{IsItemAt}
use Rattle.std.proofs.lemmas.Option.{slice_get_past, slice_get_read}
use Rattle.gd_lang.specs.Rows.{command_rows}
use Rattle.gd_lang.specs.declared.rows.Row.{Row}
use Rattle.gd_lang.specs.declared.rows.Row.TheVariants.{Unbuilt}
use Rattle.gd_lang.proofs.rows.row_of.Goals as goal

copied-item : (xs : List Row) (i : ℕ) (r : Option (Bor Row)) → IsItemAt xs i r → option_copied r ≡ slice_get xs i
copied-item xs i None h = sym (slice_get_past xs i h.3)
copied-item xs i (Some x) h = sym (slice_get_read xs (length xs) i x.now refl h.3.0 h.1)

pub returns : goal.returns
returns c = c.unwrap_or.ensures ∙ ap (λ (o : Option Row). unwrap_or o Unbuilt) (c.copied.ensures ∙ copied-item command_rows c.args.row c.get.result c.get.ensures.lookup)
