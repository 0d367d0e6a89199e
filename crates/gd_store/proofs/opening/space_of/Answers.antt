use Rattle.gd_store.proofs.OpenFacts.{kind_for, refused_for}
use Rattle.gd_store.specs.declared.access.Access.TheVariants.{Writer}
use Rattle.gd_store.proofs.opening.space_of.Goals as goal

pub returns-in-Writer-clause-refused : goal.returns-in-Writer-clause-refused
returns-in-Writer-clause-refused g c = refused_for c.loaded.result (g.V.Vault.view_of c.args.vault.now) (g.V.Vault.view_of c.loaded.new.vault) c.args.f.0 c.args.header.now c.args.access c.in-Writer.is c.loaded.ensures.refused

pub returns-in-Writer-clause-kind : goal.returns-in-Writer-clause-kind
returns-in-Writer-clause-kind g c = kind_for c.loaded.result c.args.access Writer c.in-Writer.is c.loaded.ensures.kind
