use Rattle.std.proofs.Common.{◌≡◌, ◌+◌, ◌-◌, ◌^◌, ◌≤◌, length}
use Rattle.gd_format.specs.File.{entries_fault, dir_fault}
use Rattle.gd_readable.specs.Asks.{kept_of, bytes_in, Tells}
use Rattle.gd_readable.specs.Checks.{SeesPlaces}
use Rattle.gd_readable.proofs.checking.dir_refusal.Given as goal

abbrev pub invariant-runs : goal.invariant-runs
invariant-runs g l = record {
  far : l.i ≤ 2 ^ 24 + 2 ^ 24;
  same : kept_of (g.V.Vault.view_of l.vault) ≡ kept_of (g.V.Vault.view_of l.fn.vault);
  later : (g.V.Vault.view_of l.vault).faults ≡ (g.V.Vault.view_of l.fn.vault).faults;
  seen : Tells (bytes_in (kept_of (g.V.Vault.view_of l.fn.vault)) l.f.0) (λ file. length file ≡ l.len → SeesPlaces l.places file l.header l.i);
  rest : Tells (bytes_in (kept_of (g.V.Vault.view_of l.fn.vault)) l.f.0) (λ file. length file ≡ l.len → entries_fault file l.header (2 ^ l.header.dir_bits - l.i) 0 l.i ≡ dir_fault file l.header);
}

abbrev pub decreases-runs : goal.decreases-runs
decreases-runs g l = 2 ^ l.header.dir_bits - l.i
