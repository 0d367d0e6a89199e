use Rattle.std.proofs.Common.{◌≡◌, ◌-◌, ◌*◌, ◌≤◌, ◌^◌}
use Rattle.gd_vault.specs.Views.{OnlyAsks}
use Rattle.gd_open.specs.Files.{AtFile}
use Rattle.gd_lookup.proofs.Counts.{Counted}
use Rattle.gd_lookup.proofs.totals.count.Given as goal

abbrev pub invariant-runs : goal.invariant-runs
invariant-runs g l = record {
  asks : OnlyAsks (g.V.Vault.view_of l.fn.vault) (g.V.Vault.view_of l.vault);
  answered : (g.V.Vault.view_of l.vault).faults ≡ (g.V.Vault.view_of l.fn.vault).faults;
  far : l.i ≤ 2 ^ 25;
  few : l.total ≤ l.i * 2 ^ 31;
  counted : AtFile (g.V.Vault.view_of l.fn.vault) l.file.id (λ file. Counted file l.file.header l.i l.total);
}

abbrev pub decreases-runs : goal.decreases-runs
decreases-runs g l = l.entries - l.i
