use Rattle.gd_readable.proofs.Asks.{len_read}
use Rattle.gd_readable.proofs.reading.file_len.Goals as goal

pub returns-in-Ok-clause-len : goal.returns-in-Ok-clause-len
returns-in-Ok-clause-len g c = len_read (g.V.Vault.view_of c.args.vault.now) c.args.f.0 c.in-Ok.n c.in-Ok.ensures.len
