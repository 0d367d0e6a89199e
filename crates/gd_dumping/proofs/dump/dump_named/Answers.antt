use Rattle.std.proofs.Common.{◌≡◌, ◌∙◌, Some, ap}
use Rattle.gd_vault.specs.Views.{HasFile, IsAt, content_of}
use Rattle.gd_dumping.proofs.Ends.{ends_named, ends_on}
use Rattle.gd_dumping.proofs.dump.dump_named.Goals as goal

pub returns-in-Ok-Some-clause-ends : goal.returns-in-Ok-Some-clause-ends
returns-in-Ok-Some-clause-ends g c =
    let before = g.V.Vault.view_of c.args.vault.now in
    let here = g.V.Vault.view_of c.lookup.new.self in
    let asked = c.in-Ok-Some.ensures.asked in
    let found : IsAt before (λ d. d.names c.args.name.now ≡ Some c.in-Ok-Some.f.0) = rw c.in-Ok-Some.field-0-is at c.in-Ok-Some.ensures.found in
    let there : HasFile here c.in-Ok-Some.f.0 = rw c.in-Ok-Some.field-0-is at c.in-Ok-Some.ensures.there in
    ends_named c.args.form c.args.name.now before c.in-Ok-Some.f.0 found (λ d told. there d (ap content_of asked.told ∙ told))
    c.dump_file.result _ _ (ends_on c.dump_file.result c.args.form c.args.name.now here before c.in-Ok-Some.f.0 _ _ asked.told c.dump_file.ensures.ends)
