use Rattle.std.proofs.Common.{◌≡◌, ◌-◌}
use Rattle.gd_vault.specs.Views.{OnlyAsks}
use Rattle.gd_readable.specs.Left.{buckets_left}
use Rattle.gd_open.specs.Files.{AtFile}
use Rattle.gd_open.specs.Open.{IsFit}
use Rattle.gd_lookup.specs.Counting.{Begins}
use Rattle.gd_lookup.proofs.following.first_from.Given as goal

abbrev pub invariant-runs : goal.invariant-runs
invariant-runs g l = record {
  asks : OnlyAsks (g.V.Vault.view_of l.fn.vault) (g.V.Vault.view_of l.vault);
  answered : (g.V.Vault.view_of l.vault).faults ≡ (g.V.Vault.view_of l.fn.vault).faults;
  same : l.file ≡ record l.fn.file { block = l.file.block };
  fit : IsFit l.file;
  begins : AtFile (g.V.Vault.view_of l.fn.vault) l.fn.file.id (λ file. Begins file l.fn.file.header l.i);
  left : AtFile (g.V.Vault.view_of l.fn.vault) l.fn.file.id (λ file. buckets_left file l.fn.file.header l.i ≡ buckets_left file l.fn.file.header l.from);
}

abbrev pub decreases-runs : goal.decreases-runs
decreases-runs g l = l.entries - l.i
