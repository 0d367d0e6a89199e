use Rattle.gd_store.proofs.OpenFacts.{kind_for, reader_right, writer_right}
use Rattle.gd_store.specs.declared.access.Access.TheVariants.{Reader, Writer}
use Rattle.gd_store.proofs.opening.checked.Goals as goal

pub returns-in-Reader-clause-right : goal.returns-in-Reader-clause-right
returns-in-Reader-clause-right g c = reader_right c.readable.result (g.V.Vault.view_of c.args.vault.now) c.args.f.0 c.args.access c.in-Reader.is c.readable.ensures.readable

pub returns-in-Writer-clause-right : goal.returns-in-Writer-clause-right
returns-in-Writer-clause-right g c = writer_right c.sound.result (g.V.Vault.view_of c.args.vault.now) c.args.f.0 c.args.access c.in-Writer.is c.sound.ensures.sound

pub returns-in-Reader-clause-kind : goal.returns-in-Reader-clause-kind
returns-in-Reader-clause-kind g c = kind_for c.readable.result c.args.access Reader c.in-Reader.is c.readable.ensures.kind

pub returns-in-Writer-clause-kind : goal.returns-in-Writer-clause-kind
returns-in-Writer-clause-kind g c = kind_for c.sound.result c.args.access Writer c.in-Writer.is c.sound.ensures.kind
