use Rattle.std.proofs.Common.{ap, arith}
use Rattle.std.proofs.lemmas.Grind.{common_steps}
use Rattle.gd_readable.specs.Asks.{Counts}
use Rattle.gd_update.specs.Growth.{IsRoomMade}
use Rattle.gd_store.specs.Opened.{Opened}
use Rattle.gd_store.proofs.Changing.{counts_of}
use Rattle.gd_store.proofs.Rooms.{open_for, bucket_for, becomes_for}
use Rattle.gd_store.proofs.store.Store.split_full.Goals as goal

pub make_room-requires-clause-open : goal.make_room-requires-clause-open
make_room-requires-clause-open g c = open_for (g.V.Vault.view_of c.args.vault.now) c.args.self.now _ c.self.view_is c.requires.open

pub make_room-requires-clause-bucket : goal.make_room-requires-clause-bucket
make_room-requires-clause-bucket g c = bucket_for (g.V.Vault.view_of c.args.vault.now) c.args.self.now _ c.args.located.now.hash c.args.located.now.at c.args.located.now.bucket c.self.view_is c.requires.bucket

pub returns-clause-made : goal.returns-clause-made
returns-clause-made g c =
    becomes_for (g.V.Vault.view_of c.args.vault.now) (g.V.Vault.view_of c.make_room.new.vault) c.args.self.now.file c.self.inside.file.id
    (λ xs ys. IsRoomMade xs ys c.make_room.new.file.header c.make_room.new.file.table c.args.located.now.hash c.in_ok-located.field-0 c.make_room.new.bucket)
    (ap (λ (s : Opened). s.file) c.self.view_is) c.in_ok-located.ensures.made

pub returns-in_err-located-clause-counted : goal.returns-in_err-located-clause-counted
returns-in_err-located-clause-counted g c =
    let counts : Counts c.in_err-located.field-0.0 (g.V.Vault.view_of c.args.vault.now).faults (g.V.Vault.view_of c.make_room.new.vault).faults = counts_of c.in_err-located.field-0.0 _ _ c.in_err-located.ensures.fault c.in_err-located.ensures.counted in
    grind (arith, common_steps, counts)
