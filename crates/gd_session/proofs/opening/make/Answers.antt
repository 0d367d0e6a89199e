use Rattle.gd_session.proofs.Commands.{grows_wider}
use Rattle.gd_session.proofs.Openings.{made_causes, made_result}
use Rattle.gd_store.specs.declared.access.Access.TheVariants.{Writer}
use Rattle.gd_session.proofs.Moved.{making_errors, opened_new}
use Rattle.gd_session.proofs.opening.make.Goals as goal

pub returns-clause-opening : goal.returns-clause-opening
returns-clause-opening g c =
    let e = c.create.ensures in
    made_result _ _ c.args.settings.now c.create.result e.opened e.there e.fits e.sizes e.header e.bytes e.cleared e.own e.frame e.refused e.memory e.name e.marks

pub returns-clause-grows : goal.returns-clause-grows
returns-clause-grows g c = grows_wider _ _ _ _ c.create.ensures.frame

pub returns-clause-cause : goal.returns-clause-cause
returns-clause-cause g c = made_causes c.create.result _ _ _ c.create.ensures.refused

pub returns-clause-frame : goal.returns-clause-frame
returns-clause-frame g c = c.create.ensures.frame

pub returns-clause-first : goal.returns-clause-first
returns-clause-first g c = opened_new _ c.args.settings.now.file Writer c.args.settings.now.cache c.create.result c.create.ensures.opened

pub returns-clause-errors : goal.returns-clause-errors
returns-clause-errors g c = making_errors _ _ c.create.result c.create.ensures.refused
