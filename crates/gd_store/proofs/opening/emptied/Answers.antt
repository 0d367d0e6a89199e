use Rattle.std.specs.Prelude.{is_ok}
use Rattle.std.proofs.Common.{inr, refl, ap, Err}
use Rattle.gd_store.proofs.Clearing.{created_clears, truncated_clears}
use Rattle.gd_store.proofs.Frames.{truncated, within_made, exists_untold, create_exists, create_failed, old_is_own, new_is_own, names_own_asked, names_own_failed, names_own_new, names_own_old, names_own_same}
use Rattle.gd_store.proofs.Marks.{marks_none, marks_truncated}
use Rattle.gd_store.proofs.opening.emptied.Goals as goal

pub returns-in-Ok-clause-frame : goal.returns-in-Ok-clause-frame
returns-in-Ok-clause-frame g c =
    truncated _ c.truncate.result (g.V.Vault.view_of c.args.vault.now) (g.V.Vault.view_of c.lookup.new.self) (g.V.Vault.view_of c.truncate.new.self) c.args.name.now c.in-Ok-Some.field-0 c.in-Ok-Some.f c.in-Ok-Some.field-0-is c.in-Ok-Some.ensures.found c.in-Ok-Some.ensures.asked c.truncate.ensures

pub returns-in-Err-truncate-clause-frame : goal.returns-in-Err-truncate-clause-frame
returns-in-Err-truncate-clause-frame g c =
    truncated _ c.truncate.result (g.V.Vault.view_of c.args.vault.now) (g.V.Vault.view_of c.lookup.new.self) (g.V.Vault.view_of c.truncate.new.self) c.args.name.now c.in-Ok-Some.field-0 c.in-Ok-Some.f c.in-Ok-Some.field-0-is c.in-Ok-Some.ensures.found c.in-Ok-Some.ensures.asked c.truncate.ensures

pub returns-in-Ok-create-clause-frame : goal.returns-in-Ok-create-clause-frame
returns-in-Ok-create-clause-frame g c =
    within_made _ _ (g.V.Vault.view_of c.args.vault.now) (g.V.Vault.view_of c.lookup.new.self) (g.V.Vault.view_of c.create.new.self) c.args.name.now _ c.in-Ok-None.ensures.asked c.in-Ok-create.ensures.made.0

pub returns-in-Err-Exists-clause-error : goal.returns-in-Err-Exists-clause-error
returns-in-Err-Exists-clause-error g c =
    inr (refl, exists_untold _ (Err c.in-Err-Exists.field-0) (g.V.Vault.view_of c.args.vault.now) (g.V.Vault.view_of c.lookup.new.self) c.args.name.now c.in-Ok-None.field-0 c.in-Ok-None.ensures.asked c.in-Ok-None.field-0-is c.in-Ok-None.ensures.found (ap Err c.in-Err-Exists.field-0-is) c.in-Err-Exists.ensures.exists)

pub returns-in-Err-Failed-clause-frame : goal.returns-in-Err-Failed-clause-frame
returns-in-Err-Failed-clause-frame g c =
    within_made _ _ (g.V.Vault.view_of c.args.vault.now) (g.V.Vault.view_of c.lookup.new.self) (g.V.Vault.view_of c.create.new.self) c.args.name.now _ c.in-Ok-None.ensures.asked (create_failed c.in-Err-Failed.field-0 c.args.name.now _ (g.V.Vault.view_of c.lookup.new.self) (g.V.Vault.view_of c.create.new.self) c.in-Err-Failed.field-0-is c.in-Err-Failed.ensures.made)

pub returns-in-Ok-clause-cleared : goal.returns-in-Ok-clause-cleared
returns-in-Ok-clause-cleared g c =
    truncated_clears _ c.truncate.result (g.V.Vault.view_of c.args.vault.now) (g.V.Vault.view_of c.lookup.new.self) (g.V.Vault.view_of c.truncate.new.self) c.args.name.now c.in-Ok-Some.field-0 c.in-Ok-Some.f c.in-Ok-Some.field-0-is c.in-Ok-Some.ensures.found c.in-Ok-Some.ensures.there c.in-Ok-Some.ensures.asked (ap is_ok c.in-Ok.is) c.truncate.ensures

pub returns-in-Ok-create-clause-cleared : goal.returns-in-Ok-create-clause-cleared
returns-in-Ok-create-clause-cleared g c =
    created_clears _ (g.V.Vault.view_of c.args.vault.now) (g.V.Vault.view_of c.lookup.new.self) (g.V.Vault.view_of c.create.new.self) c.args.name.now c.in-Ok-None.field-0 c.in-Ok-create.f c.in-Ok-None.field-0-is c.in-Ok-None.ensures.found c.in-Ok-None.ensures.asked c.in-Ok-create.ensures.made

pub returns-in-Ok-clause-own : goal.returns-in-Ok-clause-own
returns-in-Ok-clause-own g c = old_is_own (g.V.Vault.view_of c.args.vault.now) c.args.name.now c.in-Ok-Some.field-0 c.in-Ok-Some.f c.in-Ok-Some.field-0-is c.in-Ok-Some.ensures.found

pub returns-in-Ok-create-clause-own : goal.returns-in-Ok-create-clause-own
returns-in-Ok-create-clause-own g c =
    new_is_own _ (g.V.Vault.view_of c.args.vault.now) (g.V.Vault.view_of c.lookup.new.self) (g.V.Vault.view_of c.create.new.self) c.args.name.now c.in-Ok-None.field-0 c.in-Ok-create.f c.in-Ok-None.field-0-is c.in-Ok-None.ensures.found c.in-Ok-None.ensures.asked c.in-Ok-create.ensures.made

pub returns-in-Ok-clause-name : goal.returns-in-Ok-clause-name
returns-in-Ok-clause-name g c = names_own_old _ c.truncate.result (g.V.Vault.view_of c.args.vault.now) (g.V.Vault.view_of c.lookup.new.self) (g.V.Vault.view_of c.truncate.new.self) c.args.name.now c.in-Ok-Some.f.0 c.in-Ok-Some.ensures.asked c.truncate.ensures

pub returns-in-Err-truncate-clause-name : goal.returns-in-Err-truncate-clause-name
returns-in-Err-truncate-clause-name g c = names_own_old _ c.truncate.result (g.V.Vault.view_of c.args.vault.now) (g.V.Vault.view_of c.lookup.new.self) (g.V.Vault.view_of c.truncate.new.self) c.args.name.now c.in-Ok-Some.f.0 c.in-Ok-Some.ensures.asked c.truncate.ensures

pub returns-in-Ok-create-clause-name : goal.returns-in-Ok-create-clause-name
returns-in-Ok-create-clause-name g c =
    names_own_new _ (g.V.Vault.view_of c.args.vault.now) (g.V.Vault.view_of c.lookup.new.self) (g.V.Vault.view_of c.create.new.self) c.args.name.now c.in-Ok-None.field-0 c.in-Ok-create.f c.in-Ok-None.field-0-is c.in-Ok-None.ensures.found c.in-Ok-None.ensures.asked c.in-Ok-create.ensures.made

pub returns-in-Err-Failed-clause-name : goal.returns-in-Err-Failed-clause-name
returns-in-Err-Failed-clause-name g c =
    names_own_failed _ _ (g.V.Vault.view_of c.args.vault.now) (g.V.Vault.view_of c.lookup.new.self) (g.V.Vault.view_of c.create.new.self) c.args.name.now c.in-Ok-None.field-0 c.in-Ok-None.field-0-is c.in-Ok-None.ensures.found c.in-Ok-None.ensures.asked refl
    (create_failed c.in-Err-Failed.field-0 c.args.name.now _ (g.V.Vault.view_of c.lookup.new.self) (g.V.Vault.view_of c.create.new.self) c.in-Err-Failed.field-0-is c.in-Err-Failed.ensures.made)

pub returns-in-Err-Exists-clause-name : goal.returns-in-Err-Exists-clause-name
returns-in-Err-Exists-clause-name g c =
    names_own_same (g.V.Vault.view_of c.args.vault.now) (g.V.Vault.view_of c.lookup.new.self) (g.V.Vault.view_of c.create.new.self) c.args.name.now (names_own_asked _ (g.V.Vault.view_of c.args.vault.now) (g.V.Vault.view_of c.lookup.new.self) c.args.name.now c.in-Ok-None.ensures.asked)
    (create_exists c.in-Err-Exists.field-0 c.args.name.now _ (g.V.Vault.view_of c.lookup.new.self) (g.V.Vault.view_of c.create.new.self) c.in-Err-Exists.field-0-is c.in-Err-Exists.ensures.made)

pub returns-in-Ok-clause-marks : goal.returns-in-Ok-clause-marks
returns-in-Ok-clause-marks g c = marks_truncated _ c.truncate.result (g.V.Vault.view_of c.args.vault.now) (g.V.Vault.view_of c.lookup.new.self) (g.V.Vault.view_of c.truncate.new.self) c.args.name.now c.in-Ok-Some.field-0 c.in-Ok-Some.f c.in-Ok-Some.field-0-is c.in-Ok-Some.ensures.found c.in-Ok-Some.ensures.asked c.truncate.ensures

pub returns-in-Err-truncate-clause-marks : goal.returns-in-Err-truncate-clause-marks
returns-in-Err-truncate-clause-marks g c = marks_truncated _ c.truncate.result (g.V.Vault.view_of c.args.vault.now) (g.V.Vault.view_of c.lookup.new.self) (g.V.Vault.view_of c.truncate.new.self) c.args.name.now c.in-Ok-Some.field-0 c.in-Ok-Some.f c.in-Ok-Some.field-0-is c.in-Ok-Some.ensures.found c.in-Ok-Some.ensures.asked c.truncate.ensures

pub returns-in-Ok-create-clause-marks : goal.returns-in-Ok-create-clause-marks
returns-in-Ok-create-clause-marks g c = marks_none (g.V.Vault.view_of c.args.vault.now) (g.V.Vault.view_of c.create.new.self) c.args.name.now c.in-Ok-None.field-0 c.in-Ok-None.field-0-is c.in-Ok-None.ensures.found

pub returns-in-Err-Exists-clause-marks : goal.returns-in-Err-Exists-clause-marks
returns-in-Err-Exists-clause-marks g c = marks_none (g.V.Vault.view_of c.args.vault.now) (g.V.Vault.view_of c.create.new.self) c.args.name.now c.in-Ok-None.field-0 c.in-Ok-None.field-0-is c.in-Ok-None.ensures.found

pub returns-in-Err-Failed-clause-marks : goal.returns-in-Err-Failed-clause-marks
returns-in-Err-Failed-clause-marks g c = marks_none (g.V.Vault.view_of c.args.vault.now) (g.V.Vault.view_of c.create.new.self) c.args.name.now c.in-Ok-None.field-0 c.in-Ok-None.field-0-is c.in-Ok-None.ensures.found
