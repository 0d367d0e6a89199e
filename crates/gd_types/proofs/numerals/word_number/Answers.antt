use Rattle.std.proofs.Common.{◌∙◌, sym, FitsSigned, rules}
use Rattle.std.specs.Int.{w128}
use Rattle.std.proofs.lemmas.Int.{to_z-of_z}
use Rattle.gd_types.proofs.Cuts.{number-none, cast-held, cast-beyond}
use Rattle.gd_types.proofs.numerals.word_number.Goals as goal

pub returns-in-None : goal.returns-in-None
returns-in-None g c = number-none g.row.W _ _ c.in-None.ensures

pub returns-then-holds : goal.returns-then-holds
returns-then-holds g c =
    let fits : FitsSigned w128 c.in-Some.number = search rules in
    cast-held g.row.W _ _ c.in-Some.number _ (to_z-of_z w128 c.in-Some.number fits) c.requires c.in-Some.ensures (sym c.holds.ensures ∙ c.if-holds.true)

pub returns-else-holds : goal.returns-else-holds
returns-else-holds g c =
    let fits : FitsSigned w128 c.in-Some.number = search rules in
    cast-beyond g.row.W _ _ c.in-Some.number _ (to_z-of_z w128 c.in-Some.number fits) c.requires c.in-Some.ensures (sym c.holds.ensures ∙ c.if-holds.false)
