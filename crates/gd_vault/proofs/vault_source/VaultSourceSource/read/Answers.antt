use Rattle.std.proofs.Common.{rules}
use Rattle.gd_vault.proofs.Files.{has_file}
use Rattle.gd_vault.proofs.Taken.{reads_nothing, reads_some}
use Rattle.gd_vault.proofs.vault_source.VaultSourceSource.read.Goals as goal

pub read_at-requires : goal.read_at-requires
read_at-requires g c = has_file (g.V.Vault.view_of c.args.self.now.vault.now) c.args.self.now.f.0 c.args.self.now.there

pub returns-then-room-eq0-clause-bytes : goal.returns-then-room-eq0-clause-bytes
returns-then-room-eq0-clause-bytes g c = reads_nothing (g.V.Vault.view_of c.args.self.now.vault.now) c.args.self.now.f.0 c.args.self.now.at c.room-room.result _ c.if-room-eq0.true c.room-room.ensures

pub returns-in-Ok-clause-bytes : goal.returns-in-Ok-clause-bytes
returns-in-Ok-clause-bytes g c = reads_some (g.V.Vault.view_of c.args.self.now.vault.now) (g.V.Vault.view_of c.read_at.new.self) c.args.self.now.f.0 c.args.self.now.at c.room-room.result c.in-Ok.count c.args.buf.now c.read_at.new.buf c.in-Ok.ensures (search rules) c.room-room.ensures c.if-room-eq0.false
