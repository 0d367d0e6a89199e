use Rattle.std.proofs.Common.{◌≡◌, ◌++◌, ◌∷◌, [], ap, arith}
use Rattle.gd_format.specs.Bucket.{Bucket}
use Rattle.gd_format.specs.Avail.{Avail}
use Rattle.gd_space.proofs.Gives.{gave_bucket, gave_table}
use Rattle.gd_space.proofs.give.give.Goals as goal

pub returns-then-free-lt6-clause-gave : goal.returns-then-free-lt6-clause-gave
returns-then-free-lt6-clause-gave g c =
    let large = c.if-extent-le4.false in
    let items : c.push_free.new.self.free ≡ c.args.bucket.now.free ++ c.args.extent ∷ [] = ap (λ (t : Bucket). t.free) c.push_free.ensures in
    rw items (gave_bucket (g.V.Vault.view_of c.args.vault.now) c.args.f.0 c.args.header.now c.args.table.now.next_block c.args.table.now.extents c.args.bucket.now.free c.args.extent (omega (arith, large)))

pub returns-clause-gave : goal.returns-clause-gave
returns-clause-gave g c =
    let large = c.if-extent-le4.false in
    let items : c.push.new.self.extents ≡ c.make_room.new.table.extents ++ c.args.extent ∷ [] = ap (λ (t : Avail). t.extents) c.push.ensures in
    let top : c.push.new.self.next_block ≡ c.make_room.new.table.next_block = ap (λ (t : Avail). t.next_block) c.push.ensures in
    rw (items, top) (gave_table (g.V.Vault.view_of c.args.vault.now) (g.V.Vault.view_of c.make_room.new.vault) c.args.f.0 c.args.header.now c.make_room.new.header c.args.table.now.next_block c.make_room.new.table.next_block c.args.table.now.extents c.args.bucket.now.free c.make_room.new.table.extents c.make_room.new.bucket.free c.args.extent (omega (arith, large)) c.in_ok-make_room.ensures.done)
