use Rattle.std.proofs.Common.{◌≡◌, ℕ, List, refl, ap}
use Rattle.gd_format.specs.declared.Header.{Header}
use Rattle.gd_readable.specs.Standing.{Standing}
use Rattle.gd_readable.proofs.Asks.{is_there_now, only_asks}
use Rattle.gd_readable.proofs.Nexts.{walk_stands, walk_gives, walk_ends, walk_again, walk_refuses}
use Rattle.gd_readable.proofs.walking.Walk.next.Goals as goal

abbrev seen : ℕ → Header → ℕ → List ℕ → ℕ → Standing
seen f h entry block slot = record { f = f; header = h; entry = entry; block = block; slot = slot }

pub next_from-requires-clause-there : goal.next_from-requires-clause-there
next_from-requires-clause-there g c =
    let id : c.self.inside.f.0 ≡ c.args.self.now.f = ap (λ (w : Standing). w.f) c.self.view_is in
    rw id (is_there_now (g.V.Vault.view_of c.args.vault.now) c.args.self.now.f c.requires.there)

pub returns-clause-asks : goal.returns-clause-asks
returns-clause-asks g c = only_asks (g.V.Vault.view_of c.args.vault.now) (g.V.Vault.view_of c.next_from.new.vault) c.next_from.ensures.same c.next_from.ensures.later

pub returns-clause-stands : goal.returns-clause-stands
returns-clause-stands g c = walk_stands (g.V.Vault.view_of c.args.vault.now) (g.V.Vault.view_of c.next_from.new.vault) c.self.inside.f.0 (seen c.self.inside.f.0 c.self.inside.header c.self.inside.place.entry c.self.inside.place.block.items c.self.inside.place.slot) c.args.self.now c.self.view_is refl c.requires.there c.requires.same (seen c.self.inside.f.0 c.self.inside.header c.next_from.new.place.entry c.next_from.new.place.block.items c.next_from.new.place.slot) c.next_from.ensures.walk

pub returns-clause-some : goal.returns-clause-some
returns-clause-some g c = walk_gives (g.V.Vault.view_of c.args.vault.now) (g.V.Vault.view_of c.next_from.new.vault) c.self.inside.f.0 (seen c.self.inside.f.0 c.self.inside.header c.self.inside.place.entry c.self.inside.place.block.items c.self.inside.place.slot) c.args.self.now c.self.view_is refl c.requires.there c.requires.same c.next_from.result (seen c.self.inside.f.0 c.self.inside.header c.next_from.new.place.entry c.next_from.new.place.block.items c.next_from.new.place.slot) c.next_from.ensures.some

pub returns-clause-none : goal.returns-clause-none
returns-clause-none g c = walk_ends (g.V.Vault.view_of c.args.vault.now) (g.V.Vault.view_of c.next_from.new.vault) c.self.inside.f.0 (seen c.self.inside.f.0 c.self.inside.header c.self.inside.place.entry c.self.inside.place.block.items c.self.inside.place.slot) c.args.self.now c.self.view_is refl c.requires.there c.requires.same c.next_from.result c.next_from.ensures.none

pub returns-clause-refused : goal.returns-clause-refused
returns-clause-refused g c = walk_refuses (g.V.Vault.view_of c.args.vault.now) (g.V.Vault.view_of c.next_from.new.vault) c.self.inside.f.0 (seen c.self.inside.f.0 c.self.inside.header c.self.inside.place.entry c.self.inside.place.block.items c.self.inside.place.slot) c.args.self.now c.self.view_is refl c.requires.there c.requires.same c.next_from.result c.next_from.ensures.failed

pub returns-clause-again : goal.returns-clause-again
returns-clause-again g c = walk_again (g.V.Vault.view_of c.args.vault.now) (g.V.Vault.view_of c.next_from.new.vault) c.self.inside.f.0 (seen c.self.inside.f.0 c.self.inside.header c.self.inside.place.entry c.self.inside.place.block.items c.self.inside.place.slot) c.args.self.now c.self.view_is refl c.requires.there c.requires.same c.next_from.result (seen c.self.inside.f.0 c.self.inside.header c.next_from.new.place.entry c.next_from.new.place.block.items c.next_from.new.place.slot) c.next_from.ensures.again
