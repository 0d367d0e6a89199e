use Rattle.std.proofs.Common.{Some, None, ap, ◌∙◌}
use Rattle.std.specs.Prelude.{option_map}
use Rattle.gd_vault.specs.declared.vaults.FileId.{FileId}
use Rattle.gd_session.specs.Opens.{Checks, Makes, Spoiled, Unspoiled}
use Rattle.gd_session.specs.Openings.{OpensByName, SpoilsByName}
use Rattle.gd_store.specs.declared.access.Access.TheVariants.{Writer}
use Rattle.gd_session.proofs.Commands.{grows_asked}
use Rattle.gd_vault.proofs.Within.{within_trans}
use Rattle.gd_session.proofs.Openings.{asks_of, by_name, causes_later, lookup_failed, lookup_rose, opening_after, spoils_by_name}
use Rattle.gd_session.proofs.Framed.{asked_within, made_within, opened_within}
use Rattle.gd_session.proofs.Moved.{made_or_opened, opened_or_made}
use Rattle.gd_session.proofs.opening.open_or_make.Goals as goal

pub returns-in-Ok-Some-clause-opening : goal.returns-in-Ok-Some-clause-opening
returns-in-Ok-Some-clause-opening g c =
    let s = c.args.settings.now in
    let u = g.V.Vault.view_of c.args.vault.now in
    let v = g.V.Vault.view_of c.lookup.new.self in
    let e = c.in-Ok-Some in
    opening_after (Checks s Writer) (OpensByName s) Unspoiled (SpoilsByName s) s.file c.open_there.result u v (g.V.Vault.view_of c.open_there.new.vault) (asks_of u v c.lookup.ensures.asked)
    (λ k told r d h. by_name (Some e.field-0-0.0) s k r d (e.ensures.found k told ∙ ap (option_map (λ (f : FileId). f.0)) e.field-0-is) h)
    (λ k told d h. spoils_by_name (Some e.field-0-0.0) s k d (e.ensures.found k told ∙ ap (option_map (λ (f : FileId). f.0)) e.field-0-is) h) c.open_there.ensures.opening

pub returns-in-Ok-None-clause-opening : goal.returns-in-Ok-None-clause-opening
returns-in-Ok-None-clause-opening g c =
    let s = c.args.settings.now in
    let u = g.V.Vault.view_of c.args.vault.now in
    let v = g.V.Vault.view_of c.lookup.new.self in
    let e = c.in-Ok-None in
    opening_after (Makes s) (OpensByName s) (Spoiled s) (SpoilsByName s) s.file c.make.result u v (g.V.Vault.view_of c.make.new.vault) (asks_of u v c.lookup.ensures.asked)
    (λ k told r d h. by_name None s k r d (e.ensures.found k told ∙ ap (option_map (λ (f : FileId). f.0)) e.field-0-is) h)
    (λ k told d h. spoils_by_name None s k d (e.ensures.found k told ∙ ap (option_map (λ (f : FileId). f.0)) e.field-0-is) h) c.make.ensures.opening

pub returns-in-Err-clause-opening : goal.returns-in-Err-clause-opening
returns-in-Err-clause-opening g c = lookup_failed _ _ (OpensByName c.args.settings.now) c.args.settings.now c.lookup.result _ _ _ c.in-Err.is c.lookup.ensures.asked

pub returns-in-Ok-Some-clause-grows : goal.returns-in-Ok-Some-clause-grows
returns-in-Ok-Some-clause-grows g c = within_trans (grows_asked _ _ (asks_of _ _ c.lookup.ensures.asked)) c.open_there.ensures.grows

pub returns-in-Ok-None-clause-grows : goal.returns-in-Ok-None-clause-grows
returns-in-Ok-None-clause-grows g c = within_trans (grows_asked _ _ (asks_of _ _ c.lookup.ensures.asked)) c.make.ensures.grows

pub returns-in-Err-clause-grows : goal.returns-in-Err-clause-grows
returns-in-Err-clause-grows g c = grows_asked _ _ (asks_of _ _ c.lookup.ensures.asked)

pub returns-in-Ok-Some-clause-cause : goal.returns-in-Ok-Some-clause-cause
returns-in-Ok-Some-clause-cause g c = causes_later c.open_there.result _ _ _ c.lookup.ensures.asked.cause.later c.open_there.ensures.cause

pub returns-in-Ok-None-clause-cause : goal.returns-in-Ok-None-clause-cause
returns-in-Ok-None-clause-cause g c = causes_later c.make.result _ _ _ c.lookup.ensures.asked.cause.later c.make.ensures.cause

pub returns-in-Err-clause-cause : goal.returns-in-Err-clause-cause
returns-in-Err-clause-cause g c = lookup_rose _ _ c.lookup.result _ _ _ c.in-Err.is c.lookup.ensures.asked

pub returns-in-Ok-Some-clause-frame : goal.returns-in-Ok-Some-clause-frame
returns-in-Ok-Some-clause-frame g c = opened_within c.args.settings.now.file _ _ _ (asks_of _ _ c.lookup.ensures.asked) c.open_there.ensures.asks

pub returns-in-Ok-None-clause-frame : goal.returns-in-Ok-None-clause-frame
returns-in-Ok-None-clause-frame g c =
    let e = c.in-Ok-None in
    made_within c.args.settings.now.file _ _ _ (asks_of _ _ c.lookup.ensures.asked) (λ k told. e.ensures.found k told ∙ ap (option_map (λ (f : FileId). f.0)) e.field-0-is) c.make.ensures.frame

pub returns-in-Err-clause-frame : goal.returns-in-Err-clause-frame
returns-in-Err-clause-frame g c = asked_within c.args.settings.now.file _ _ (asks_of _ _ c.lookup.ensures.asked)

pub returns-in-Ok-Some-clause-errors : goal.returns-in-Ok-Some-clause-errors
returns-in-Ok-Some-clause-errors g c = opened_or_made c.open_there.result c.open_there.ensures.errors

pub returns-in-Ok-None-clause-errors : goal.returns-in-Ok-None-clause-errors
returns-in-Ok-None-clause-errors g c = made_or_opened c.make.result c.make.ensures.errors
