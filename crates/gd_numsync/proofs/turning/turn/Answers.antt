use Rattle.std.proofs.Common.{ℕ, List, length, sym, subst}
use Rattle.gd_space.proofs.Fits.{bounds}
use Rattle.gd_format.specs.declared.Header.{Header}
use Rattle.gd_file_laws.specs.Frame.{written}
use Rattle.gd_numsync.specs.Numbered.{IsKept}
use Rattle.gd_numsync.specs.Open.{AreFit}
use Rattle.gd_numsync.specs.Spells.{SpellsFront}
use Rattle.gd_numsync.proofs.Files.{becomes_law}
use Rattle.gd_numsync.proofs.Turned.{fit_turned, kept_turned}
use Rattle.gd_numsync.proofs.turning.turn.Goals as goal

pub turned-next-requires : goal.turned-next-requires
turned-next-requires g c = (bounds c.args.header.now c.requires.fit.header).least

pub write_front-requires-clause-fit : goal.write_front-requires-clause-fit
write_front-requires-clause-fit g c =
    subst (λ (k : Header). AreFit k c.args.table.now (length c.args.block.now)) (sym c.turned-next.ensures) (fit_turned c.args.header.now c.args.wanted c.args.table.now (length c.args.block.now) c.requires.few c.requires.fit)

pub returns-clause-fit : goal.returns-clause-fit
returns-clause-fit g c =
    subst (λ (n : ℕ). AreFit c.turned-next.result c.args.table.now n) (sym c.in_ok-write_front.ensures.size)
    (subst (λ (k : Header). AreFit k c.args.table.now (length c.args.block.now)) (sym c.turned-next.ensures) (fit_turned c.args.header.now c.args.wanted c.args.table.now (length c.args.block.now) c.requires.few c.requires.fit))

pub returns-clause-kept : goal.returns-clause-kept
returns-clause-kept g c = λ k x told there.
    let t = becomes_law (g.V.Vault.view_of c.args.vault.now) (g.V.Vault.view_of c.write_front.new.vault) c.args.f.0 0 c.write_front.new.block c.in_ok-write_front.ensures.becomes k x told there in
    record {
      content = t.content;
      file = t.file;
      told = t.told;
      there = t.there;
      holds =
          subst (λ (z : List ℕ). IsKept c.turned-next.result c.args.table.now x.bytes z) (sym t.holds)
          (subst (λ (q : Header). IsKept q c.args.table.now x.bytes (written x.bytes 0 c.write_front.new.block)) (sym c.turned-next.ensures)
          (kept_turned x.bytes c.write_front.new.block c.args.header.now c.args.wanted c.args.table.now c.requires.few
          (subst (AreFit c.args.header.now c.args.table.now) (sym c.in_ok-write_front.ensures.size) c.requires.fit) (c.requires.open k x told there)
          (subst (λ (q : Header). SpellsFront q c.args.table.now c.write_front.new.block) c.turned-next.ensures c.in_ok-write_front.ensures.spells)));
    }
