use Rattle.std.proofs.Common.{sym, ap, ◌∙◌}
use Rattle.gd_store.specs.Opened.{Opened}
use Rattle.gd_store.proofs.Asking.{opens_inside}
use Rattle.gd_store.proofs.store.Store.first.Goals as goal

pub first_key-requires-clause-readable : goal.first_key-requires-clause-readable
first_key-requires-clause-readable g c =
    opens_inside (g.V.Vault.view_of c.args.vault.now) c.args.self.now c.self.inside.file.id c.self.inside.file.header (ap (λ (s : Opened). s.file) c.self.view_is) (ap (λ (s : Opened). s.header) c.self.view_is) c.requires.fits (ap (λ (s : Opened). s.broken) (sym c.self.view_is) ∙ c.if-self.false)
