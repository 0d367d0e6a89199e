use Rattle.gd_session.proofs.Commands.{grows_asked}
use Rattle.gd_session.proofs.Openings.{checked_causes, checked_result}
use Rattle.gd_store.specs.Opened.{is_of_opening}
use Rattle.gd_session.proofs.Moved.{answer_errors, opened_new}
use Rattle.gd_session.proofs.opening.open_there.Goals as goal

pub returns-clause-opening : goal.returns-clause-opening
returns-clause-opening g c = let e = c.open_file.ensures in checked_result _ _ c.args.settings.now c.args.access c.open_file.result e.asks e.opened e.there e.fits e.refused

pub returns-clause-grows : goal.returns-clause-grows
returns-clause-grows g c = grows_asked _ _ c.open_file.ensures.asks

pub returns-clause-cause : goal.returns-clause-cause
returns-clause-cause g c = checked_causes c.args.access c.open_file.result _ _ _ c.open_file.ensures.refused c.open_file.ensures.kind

pub returns-clause-first : goal.returns-clause-first
returns-clause-first g c = opened_new _ c.args.settings.now.file c.args.access c.args.settings.now.cache c.open_file.result c.open_file.ensures.opened

pub returns-clause-errors : goal.returns-clause-errors
returns-clause-errors g c = answer_errors (is_of_opening c.args.access) c.open_file.result c.open_file.ensures.kind
