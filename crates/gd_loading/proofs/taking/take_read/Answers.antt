use Rattle.std.proofs.Common.{◌∙◌, refl, []}
use Rattle.gd_loading.specs.Loads.{given_behind}
use Rattle.gd_loading.proofs.Rounds.{counts-on, end-round, item-round, none-left, none-read, read-stopped, refused-round, stopped-left, writes-on}
use Rattle.gd_loading.proofs.Steps.{keeps-then, still-loading}
use Rattle.gd_loading.proofs.taking.take_read.Goals as goal

pub items-preserved : goal.items-preserved
items-preserved g c =
    let u = g.V.Vault.view_of c.args.vault.now in
    let v = g.V.Vault.view_of c.items.vault in
    let w = g.V.Vault.view_of c.take_item.new.vault in
    let inv = c.items.invariant in
    let e = c.in-Ok-true.ensures in
    record {
      loading = still-loading v w c.items.store c.take_item.new.store inv.loading e.there e.fits e.keeps e.breaks;
      keeps = keeps-then c.args.store.now c.items.store c.take_item.new.store inv.keeps e.keeps;
      frame = writes-on c.args.store.now.file c.items.store.file u v w inv.keeps.file inv.frame e.frame;
      onward = item-round c.args.how c.args.store.now.file c.items.store.file u v w (given_behind [] c.args.incoming.now) c.args.incoming.now.ended c.items.incoming c.next_read.new.self c.in-Ok-Some.field-0 c.in-Ok-Some.item c.in-Ok-true.field-0
          inv.keeps.file c.in-Ok-Some.field-0-is c.in-Ok-true.field-0-test inv.ended c.in-Ok-Some.ensures.gives e.takes inv.onward;
      faults = (e.cause 0 0).1 ∙ inv.faults;
      read = c.in-Ok-Some.ensures.rest.0 ∙ inv.read;
      ended = c.in-Ok-Some.ensures.rest.1 ∙ inv.ended;
    }

pub returns-in-Ok-false-clause-frame : goal.returns-in-Ok-false-clause-frame
returns-in-Ok-false-clause-frame g c =
    writes-on c.args.store.now.file c.items.store.file (g.V.Vault.view_of c.args.vault.now) (g.V.Vault.view_of c.items.vault) (g.V.Vault.view_of c.take_item.new.vault) c.items.invariant.keeps.file c.items.invariant.frame c.take_item.ensures.frame

pub returns-in-Ok-false-clause-loads : goal.returns-in-Ok-false-clause-loads
returns-in-Ok-false-clause-loads g c =
    let inv = c.items.invariant in
    end-round c.args.how c.args.store.now.file c.items.store.file (g.V.Vault.view_of c.args.vault.now) (g.V.Vault.view_of c.items.vault) (g.V.Vault.view_of c.take_item.new.vault)
    (given_behind [] c.args.incoming.now) c.args.incoming.now.ended c.items.incoming c.next_read.new.self c.in-Ok-Some.field-0 c.in-Ok-Some.item c.in-Ok-false.field-0
    inv.keeps.file c.in-Ok-Some.field-0-is c.in-Ok-false.field-0-test inv.ended c.in-Ok-Some.ensures.gives c.in-Ok-false.ensures.takes inv.onward

pub returns-in-Ok-false-clause-cause : goal.returns-in-Ok-false-clause-cause
returns-in-Ok-false-clause-cause g c = λ n m. (refl, (c.in-Ok-false.ensures.cause n m).1 ∙ c.items.invariant.faults)

pub returns-in-Err-take_item-clause-frame : goal.returns-in-Err-take_item-clause-frame
returns-in-Err-take_item-clause-frame g c =
    writes-on c.args.store.now.file c.items.store.file (g.V.Vault.view_of c.args.vault.now) (g.V.Vault.view_of c.items.vault) (g.V.Vault.view_of c.take_item.new.vault) c.items.invariant.keeps.file c.items.invariant.frame c.take_item.ensures.frame

pub returns-in-Err-take_item-clause-loads : goal.returns-in-Err-take_item-clause-loads
returns-in-Err-take_item-clause-loads g c =
    let inv = c.items.invariant in
    refused-round c.args.how c.args.store.now.file c.items.store.file (g.V.Vault.view_of c.args.vault.now) (g.V.Vault.view_of c.items.vault) (g.V.Vault.view_of c.take_item.new.vault)
    (given_behind [] c.args.incoming.now) c.args.incoming.now.ended c.items.incoming c.next_read.new.self c.in-Ok-Some.field-0 c.in-Ok-Some.item c.in-Err-take_item.e
    inv.keeps.file c.in-Ok-Some.field-0-is inv.ended c.in-Ok-Some.ensures.gives c.in-Err-take_item.ensures.takes inv.onward

pub returns-in-Err-take_item-clause-cause : goal.returns-in-Err-take_item-clause-cause
returns-in-Err-take_item-clause-cause g c = λ n m.
    let why = c.in-Err-take_item.ensures.cause n m in
    (refl, counts-on c.in-Err-take_item.e (g.V.Vault.view_of c.args.vault.now).faults (g.V.Vault.view_of c.items.vault).faults (g.V.Vault.view_of c.take_item.new.vault).faults c.items.invariant.faults why.1, why.2)
