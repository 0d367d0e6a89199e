use Rattle.std.proofs.Common.{not, ap, ◌∙◌}
use Rattle.gd_store.proofs.Changing.{on_ok_map}
use Rattle.gd_store.proofs.Rooms.{hash_below, none_of, ready_after, ready_here, room_bucket, room_open, slot_lacks}
use Rattle.gd_store.proofs.store.Store.make_ready.Goals as goal

pub split_full-requires-clause-hash : goal.split_full-requires-clause-hash
split_full-requires-clause-hash g c = rw c.requires.hash (hash_below c.args.key.now)

pub split_full-requires-clause-open : goal.split_full-requires-clause-open
split_full-requires-clause-open g c = room_open (g.V.Vault.view_of c.args.vault.now) c.args.self.now c.requires.fits c.requires.whole c.requires.writer

pub split_full-requires-clause-bucket : goal.split_full-requires-clause-bucket
split_full-requires-clause-bucket g c =
    room_bucket (g.V.Vault.view_of c.args.vault.now) c.args.self.now c.args.key.now c.args.located.now.hash c.args.located.now.at c.args.located.now.bucket c.args.located.now.place
    (record { fits = c.requires.fits; whole = c.requires.whole; hash_is = c.requires.hash; elems = c.requires.elems; found = c.requires.found })

pub returns-then-is_crowded-clause-ready : goal.returns-then-is_crowded-clause-ready
returns-then-is_crowded-clause-ready g c =
    let none = none_of c.args.located.now.place (c.is_none.ensures ∙ ap not c.if-is_none.true) in
    on_ok_map c.split_full.result _ _
    (ready_after (g.V.Vault.view_of c.args.vault.now) c.args.self.now c.args.key.now c.args.located.now.hash c.args.located.now.at c.args.located.now.bucket c.args.located.now.place
    (record { fits = c.requires.fits; whole = c.requires.whole; hash_is = c.requires.hash; elems = c.requires.elems; found = c.requires.found })
    (g.V.Vault.view_of c.split_full.new.vault) c.split_full.new.self.header c.split_full.new.self.table c.split_full.new.located.at c.split_full.new.located.bucket c.split_full.new.located.place none c.split_full.ensures.place (c.is_crowded.ensures.yes c.if-is_crowded.true))
    c.split_full.ensures.made

pub returns-then-is_crowded-clause-few : goal.returns-then-is_crowded-clause-few
returns-then-is_crowded-clause-few g c =
    let none = none_of c.args.located.now.place (c.is_none.ensures ∙ ap not c.if-is_none.true) in
    λ k x told there has.
    let lacks = slot_lacks (g.V.Vault.view_of c.args.vault.now) c.args.self.now c.args.key.now c.args.located.now.hash c.args.located.now.at c.args.located.now.bucket c.args.located.now.place
    (record { fits = c.requires.fits; whole = c.requires.whole; hash_is = c.requires.hash; elems = c.requires.elems; found = c.requires.found })
    none (c.is_crowded.ensures.yes c.if-is_crowded.true) k x told there in
    absurd (cc (has, lacks))

pub returns-clause-ready : goal.returns-clause-ready
returns-clause-ready g c =
    ready_here (g.V.Vault.view_of c.args.vault.now) c.args.self.now c.args.key.now c.args.located.now.hash c.args.located.now.at c.args.located.now.bucket c.args.located.now.place
    (record { fits = c.requires.fits; whole = c.requires.whole; hash_is = c.requires.hash; elems = c.requires.elems; found = c.requires.found })
    c.requires.writer
