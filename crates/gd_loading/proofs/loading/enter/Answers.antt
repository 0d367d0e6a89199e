use Rattle.std.proofs.Common.{◌≡◌, Bool, true, false, subst}
use Rattle.gd_loading.specs.Load.{is_used}
use Rattle.gd_loading.proofs.Entries.{at-bool, enters-after, in-use, use-failed}
use Rattle.gd_loading.proofs.loading.enter.Goals as goal

pub returns-in-Ok-true : goal.returns-in-Ok-true
returns-in-Ok-true g c =
    let t = g.V.Vault.view_of c.args.vault.now in
    let u = g.V.Vault.view_of c.is_in_use.new.vault in
    let e = c.in-Ok-true.ensures in
    let b = c.in-Ok-true.field-0 in
    in-use c.args.plan c.args.used c.args.name.now t u e.answered e.asks (e.read c.in-Ok-true.field-0-test) (at-bool t c.args.used c.args.name.now b true c.in-Ok-true.field-0-test e.used)

pub returns-in-Ok-false : goal.returns-in-Ok-false
returns-in-Ok-false g c =
    let t = g.V.Vault.view_of c.args.vault.now in
    let u = g.V.Vault.view_of c.is_in_use.new.vault in
    let e = c.in-Ok-false.ensures in
    let b = c.in-Ok-false.field-0 in
    enters-after c.args.plan c.args.format c.args.used c.args.name.now t u (g.V.Vault.view_of c.open_target.new.vault) c.open_target.result e.answered e.asks
    (at-bool t c.args.used c.args.name.now b false c.in-Ok-false.field-0-test e.used) c.open_target.ensures

pub returns-in-Err : goal.returns-in-Err
returns-in-Err g c =
    let e = c.in-Err.ensures in
    use-failed c.args.plan c.args.used c.args.name.now (g.V.Vault.view_of c.args.vault.now) (g.V.Vault.view_of c.is_in_use.new.vault) c.in-Err.error e.failed.0 e.failed.1 e.asks
