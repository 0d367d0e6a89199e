use Rattle.std.proofs.Common.{◌≡◌, ◌≤◌, true}
use Rattle.gd_format.specs.First.{all_below}
use Rattle.gd_format.specs.File.{is_other_key}
use Rattle.gd_readable.specs.Asks.{kept_of, bytes_in, Tells}
use Rattle.gd_readable.specs.Checks.{HasKey, HaveKeys}
use Rattle.gd_readable.proofs.stored.differs_from_all.Given as goal

abbrev pub invariant-loop-t : goal.invariant-loop-t
invariant-loop-t g l = record {
  same : kept_of (g.V.Vault.view_of l.vault) ≡ kept_of (g.V.Vault.view_of l.fn.vault);
  later : (g.V.Vault.view_of l.vault).faults ≡ (g.V.Vault.view_of l.fn.vault).faults;
  new : Tells (bytes_in (kept_of (g.V.Vault.view_of l.fn.vault)) l.f.0) (λ file. HasKey file l.raw → HaveKeys file l.block l.s → all_below l.t (is_other_key file l.block l.s) ≡ true);
}
