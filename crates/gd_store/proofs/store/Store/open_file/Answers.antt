use Rattle.gd_store.proofs.Asking.{asks_more, on_before, told_after}
use Rattle.gd_store.proofs.OpenFacts.{right_for}
use Rattle.gd_store.proofs.store.Store.open_file.Goals as goal

pub returns-clause-fits : goal.returns-clause-fits
returns-clause-fits g c =
    λ whole.
    rw c.new.ensures
    (λ d x told there.
    let two = asks_more (g.V.Vault.view_of c.named_file.new.vault) (g.V.Vault.view_of c.checked.new.vault) (g.V.Vault.view_of c.space_of.new.vault) c.in_ok-header.ensures.asks c.in_ok-space.ensures.asks in
    let k = on_before (g.V.Vault.view_of c.named_file.new.vault) (g.V.Vault.view_of c.space_of.new.vault) c.in_ok-file.file.0 _ two c.in_ok-header.ensures.right d x told there in
    record {
      header = k.1;
      right = right_for c.args.access c.in_ok-header.header c.in_ok-space.space.table x.bytes k.0 (λ is. c.in_ok-space.ensures.table is d (told_after (g.V.Vault.view_of c.checked.new.vault) (g.V.Vault.view_of c.space_of.new.vault) c.in_ok-space.ensures.asks d told) x there);
    })
