use Rattle.std.proofs.Common.{List, ℕ, refl, sym, subst, ap, ◌∙◌}
use Rattle.gd_space.proofs.Fits.{bounds}
use Rattle.gd_open.specs.Open.{OpenParts}
use Rattle.gd_update.specs.Growth.{IsClosed}
use Rattle.gd_update.proofs.Files.{becomes_law}
use Rattle.gd_update.proofs.Settled.{settled}
use Rattle.gd_update.proofs.growing.write_front.Goals as goal

pub returns-clause-closes : goal.returns-clause-closes
returns-clause-closes g c = λ k x blocks told there held.
    let e = c.in_ok-write_header.ensures in
    let t = becomes_law (g.V.Vault.view_of c.args.vault.now) (g.V.Vault.view_of c.write_header.new.vault) c.args.file.now.id 0 c.write_header.new.self.block e.becomes k x told there in
    let fit = c.requires.fit in
    let size = e.fit.block_size ∙ ap (λ (q : OpenParts). q.header.block) e.same in
    record {
      content = t.content;
      file = t.file;
      told = t.told;
      there = t.there;
      holds =
          subst (λ (z : List ℕ). IsClosed x.bytes z c.args.file.now.header c.args.file.now.table blocks) (sym t.holds)
          (record {
            settled = settled x.bytes c.write_header.new.self.block c.args.file.now.header c.args.file.now.table blocks fit.header fit.native fit.table_fits (bounds c.args.file.now.header fit.header).least held size e.spells.reads e.spells.fault e.spells.table_is e.spells.right;
            front = c.write_header.new.self.block;
            is = refl;
            size = size;
          });
    }
