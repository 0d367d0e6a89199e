use Rattle.std.proofs.Common.{◌≡◌, ◌≤◌, None, length}
use Rattle.gd_format.specs.First.{first_below}
use Rattle.gd_format.specs.File.{run_fault}
use Rattle.gd_readable.specs.Asks.{kept_of, bytes_in, Tells}
use Rattle.gd_readable.proofs.checking.other_in_run.Given as goal

abbrev pub invariant-loop-j : goal.invariant-loop-j
invariant-loop-j g l = record {
  same : kept_of (g.V.Vault.view_of l.vault) ≡ kept_of (g.V.Vault.view_of l.fn.vault);
  later : (g.V.Vault.view_of l.vault).faults ≡ (g.V.Vault.view_of l.fn.vault).faults;
  none : Tells (bytes_in (kept_of (g.V.Vault.view_of l.fn.vault)) l.f.0) (λ file. length file ≡ l.len → first_below l.j (run_fault file l.header l.i) ≡ None);
}
