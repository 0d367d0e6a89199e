use Rattle.std.proofs.Common.{FitsSigned, rules}
use Rattle.std.specs.Int.{w128}
use Rattle.std.proofs.lemmas.Int.{to_z-of_z}
use Rattle.gd_types.proofs.Cuts.{held-ok}
use Rattle.gd_types.proofs.encoding.append_number.Goals as goal

pub put-requires-clause-held : goal.put-requires-clause-held
put-requires-clause-held g c =
    let fits : FitsSigned w128 c.in-Ok.number = search rules in
    held-ok g.row.W _ _ c.in-Ok.number _ (to_z-of_z w128 c.in-Ok.number fits) c.in-Ok.ensures
