use Rattle.gd_readable.proofs.Asks.{asked_kept, answered_kept, bytes_read}
use Rattle.gd_readable.proofs.reading.read_some.Goals as goal

pub returns-in-Ok-clause-same : goal.returns-in-Ok-clause-same
returns-in-Ok-clause-same g c = answered_kept c.args.f.0 c.args.at c.args.buf.now c.read_at.new.buf c.in-Ok.n (g.V.Vault.view_of c.args.vault.now) (g.V.Vault.view_of c.read_at.new.self) c.in-Ok.ensures

pub returns-in-Ok-clause-read : goal.returns-in-Ok-clause-read
returns-in-Ok-clause-read g c = bytes_read (g.V.Vault.view_of c.args.vault.now) (g.V.Vault.view_of c.read_at.new.self) c.args.f.0 c.args.at c.args.buf.now c.read_at.new.buf c.in-Ok.n c.in-Ok.ensures

pub returns-in-Err-clause-same : goal.returns-in-Err-clause-same
returns-in-Err-clause-same g c = asked_kept _ (g.V.Vault.view_of c.args.vault.now) (g.V.Vault.view_of c.read_at.new.self) c.in-Err.ensures
