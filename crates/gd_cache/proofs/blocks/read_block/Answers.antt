use Rattle.std.proofs.Common.{arith}
use Rattle.gd_cache.proofs.Files.{whole}
use Rattle.gd_cache.proofs.blocks.read_block.Goals as goal

pub returns-clause-inside : goal.returns-clause-inside
returns-clause-inside g c content told x is =
    (whole c.args.f.0 c.args.at c.in-Ok.count c.args.buf.now c.read_at.new.buf (g.V.Vault.view_of c.args.vault.now) (g.V.Vault.view_of c.read_at.new.self) c.in-Ok.ensures c.requires.some (omega (arith, c.if-count-buf.false, c.read_at.auto.buf)) c.read_at.auto.buf content told x is).0

pub returns-clause-block : goal.returns-clause-block
returns-clause-block g c content told x is =
    (whole c.args.f.0 c.args.at c.in-Ok.count c.args.buf.now c.read_at.new.buf (g.V.Vault.view_of c.args.vault.now) (g.V.Vault.view_of c.read_at.new.self) c.in-Ok.ensures c.requires.some (omega (arith, c.if-count-buf.false, c.read_at.auto.buf)) c.read_at.auto.buf content told x is).1
