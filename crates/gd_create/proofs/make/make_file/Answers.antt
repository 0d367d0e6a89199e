use Rattle.std.proofs.Common.{◌≡◌, ◌*◌, ℕ, ap}
use Rattle.gd_create.proofs.Writes.{on_ok_map, new_writes}
use Rattle.gd_create.proofs.make.make_file.Goals as goal

pub returns-clause-made : goal.returns-clause-made
returns-clause-made g c =
    let view = g.V.Vault.view_of in
    let h = c.args.header.now in
    let at : c.from.result ≡ c.args.header.now.block = c.from.ensures in
    let at2 : 2 * c.from-2.result ≡ 2 * c.args.header.now.block = ap (λ (n : ℕ). 2 * n) c.from-2.ensures in
    on_ok_map c.write_all-3.result
    (new_writes (g.V.Vault.view_of c.args.vault.now) (g.V.Vault.view_of c.write_all.new.vault) (g.V.Vault.view_of c.write_all-2.new.vault) (g.V.Vault.view_of c.write_all-3.new.vault) c.args.f.0 c.args.header.now.format c.args.header.now.block c.args.header.now.dir_bits c.put_header.new.block c.put_directory.new.block c.put_bucket.new.block c.from.result (2 * c.from-2.result)
    c.requires.new.sizes c.put_header.ensures c.put_directory.ensures c.put_bucket.ensures at at2 c.in_ok-write_all.ensures.wrote c.in_ok-write_all-2.ensures.wrote)
    c.write_all-3.ensures.wrote
