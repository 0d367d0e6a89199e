use Rattle.std.proofs.Common.{◌≢◌, ℕ, List, sym, subst, rules}
use Rattle.gd_base.specs.declared.errors.Format.TheVariants.{Standard}
use Rattle.gd_numsync.specs.Numbered.{IsKept}
use Rattle.gd_numsync.specs.Open.{AreFit}
use Rattle.gd_numsync.proofs.Files.{becomes_law}
use Rattle.gd_numsync.proofs.Renumbered.{kept_numbered, kept_same}
use Rattle.gd_numsync.proofs.numbers.set_numsync.Goals as goal

pub returns-then-eq-clause-kept : goal.returns-then-eq-clause-kept
returns-then-eq-clause-kept g c = λ k x told there. record { content = k; file = x; told = told; there = there; holds = kept_same x.bytes c.args.header.now c.args.table.now (c.requires.open k x told there) }

pub returns-clause-kept : goal.returns-clause-kept
returns-clause-kept g c = λ k x told there.
    let t = becomes_law (g.V.Vault.view_of c.args.vault.now) (g.V.Vault.view_of c.write_front.new.vault) c.args.f.0 0 c.write_front.new.block c.in_ok-write_front.ensures.becomes k x told there in
    let other : c.args.header.now.format ≢ Standard = search rules in
    record {
      content = t.content;
      file = t.file;
      told = t.told;
      there = t.there;
      holds =
          subst (λ (z : List ℕ). IsKept (record c.args.header.now { numsync = c.args.numsync }) c.args.table.now x.bytes z) (sym t.holds)
          (kept_numbered x.bytes c.write_front.new.block c.args.header.now c.args.numsync c.args.table.now other
          (subst (AreFit c.args.header.now c.args.table.now) (sym c.in_ok-write_front.ensures.size) c.requires.fit) (c.requires.open k x told there) c.in_ok-write_front.ensures.spells);
    }
