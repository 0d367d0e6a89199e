use Rattle.std.proofs.Common.{sym, subst}
use Rattle.gd_session.specs.Closing.{IsClosing, SyncsOpen}
use Rattle.gd_session.specs.declared.phase.Phase as real
use Rattle.gd_session.proofs.Closed.{closed, syncs_as}
use Rattle.gd_session.proofs.Commands.{grows_wider}
use Rattle.gd_session.proofs.closing.close_phase.Goals as goal

pub returns-in-Open-clause-closing : goal.returns-in-Open-clause-closing
returns-in-Open-clause-closing g c =
    let e = c.close_file.ensures in
    let u = g.V.Vault.view_of c.args.vault.now in
    let v = g.V.Vault.view_of c.close_file.new.vault in
    subst (λ (p : real.Phase). IsClosing p c.close_file.result u v) (sym c.in-Open.is)
    (closed c.in-Open.store c.close_file.result u v e.synced e.reader e.broken e.error)

pub returns-in-Open-clause-synced : goal.returns-in-Open-clause-synced
returns-in-Open-clause-synced g c =
    let e = c.close_file.ensures in
    let u = g.V.Vault.view_of c.args.vault.now in
    let v = g.V.Vault.view_of c.close_file.new.vault in
    let store = c.in-Open.store in
    subst (λ (p : real.Phase). SyncsOpen p c.close_file.result u v) (sym c.in-Open.is) (syncs_as store.broken store.access store.file c.close_file.result u v e.synced e.reader e.broken)

pub returns-in-Open-clause-grows : goal.returns-in-Open-clause-grows
returns-in-Open-clause-grows g c = grows_wider _ _ _ _ c.close_file.ensures.frame
