use Rattle.std.proofs.Common.{arith}
use Rattle.gd_update.proofs.Takes.{none_high}
use Rattle.gd_update.proofs.rooms.take_room.Goals as goal

pub returns-then-at-clause-told : goal.returns-then-at-clause-told
returns-then-at-clause-told g c = λ other.
    none_high (g.V.Vault.view_of c.args.vault.now) (g.V.Vault.view_of c.take.new.vault) c.args.file.now.id c.args.file.now.header c.take.new.self.header c.args.file.now.table.next_block c.take.new.self.table.next_block c.args.file.now.table.extents c.args.loose.now.free
    c.take.new.self.table.extents c.take.new.bucket.free c.in-Ok.at c.args.n c.requires.some c.requires.file c.requires.side c.in-Ok.ensures.done c.in-Ok.ensures.below (omega (arith, c.if-at.true))
