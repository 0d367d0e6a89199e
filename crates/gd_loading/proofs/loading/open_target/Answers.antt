use Rattle.std.proofs.Common.{Some, None, ap, sym, ◌∙◌}
use Rattle.std.specs.Prelude.{option_map}
use Rattle.gd_vault.specs.declared.vaults.FileId.{FileId}
use Rattle.gd_loading.proofs.Entries.{asks-of, before-asks, before-same, found-result, lookup-failed, made-result, up-true}
use Rattle.gd_loading.proofs.loading.open_target.Goals as goal

pub returns-in-Ok-Some : goal.returns-in-Ok-Some
returns-in-Ok-Some g c =
    let t = g.V.Vault.view_of c.args.vault.now in
    let u = g.V.Vault.view_of c.lookup.new.self in
    let i = c.in-Ok-Some in
    let e = c.open_file.ensures in
    found-result c.args.plan c.args.format c.args.name.now i.field-0-0.0 t u (g.V.Vault.view_of c.open_file.new.vault) c.open_file.result
    (before-asks t u i.field-0 i.is c.lookup.ensures.asked) (asks-of t u c.lookup.ensures.asked) (up-true c.args.plan.update c.if-not-plan.false)
    (λ k told. i.ensures.found k told ∙ ap (option_map (λ (f : FileId). f.0)) i.field-0-is)
    e.asks e.opened e.there e.fits e.refused e.kind e.answered e.counted

pub returns-in-Ok-None : goal.returns-in-Ok-None
returns-in-Ok-None g c =
    let t = g.V.Vault.view_of c.args.vault.now in
    let u = g.V.Vault.view_of c.lookup.new.self in
    let i = c.in-Ok-None in
    let e = c.create-in-Ok-None.ensures in
    made-result c.args.plan c.args.format c.args.name.now t u (g.V.Vault.view_of c.create-in-Ok-None.new.vault) c.create-in-Ok-None.result
    (before-asks t u i.field-0 i.is c.lookup.ensures.asked) (λ up k told. i.ensures.found k told ∙ ap (option_map (λ (f : FileId). f.0)) i.field-0-is)
    e.opened e.there e.fits e.sizes e.header e.own e.bytes e.cleared e.frame e.name e.marks e.refused e.answered e.counted e.memory
