use Rattle.std.proofs.Common.{ap, ◌∙◌}
use Rattle.std.proofs.lemmas.List.{take_all}
use Rattle.gd_verify.specs.Refused.{fixed_held}
use Rattle.gd_verify.proofs.sounding.fixed_extents.Goals as goal

pub returns-clause-held : goal.returns-clause-held
returns-clause-held c = c.loop-at.invariant.held ∙ ap (fixed_held c.args.header.now) (take_all c.loop-at.at-index c.args.places.now c.loop-at-test.false)
