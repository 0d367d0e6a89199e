use Rattle.std.proofs.Common.{◌≡◌, ◌≤◌, ◌-◌, ◌^◌, length}
use Rattle.gd_vault.specs.Views.{HasFile, OnlyAsks}
use Rattle.gd_loader.specs.Held.{AtFile, IsFront}
use Rattle.gd_loader.proofs.held.hold.Given as goal

-- a front of the file was read
abbrev pub invariant-loop-bytes : goal.invariant-loop-bytes
invariant-loop-bytes g l =
    let view = g.V.Vault.view_of l.fn.vault in
    record {
      there : HasFile (g.V.Vault.view_of l.vault) l.f.0;
      asks : OnlyAsks view (g.V.Vault.view_of l.vault);
      faults : (g.V.Vault.view_of l.vault).faults ≡ view.faults;
      few : length l.bytes.items ≤ 2 ^ 32;
      front : AtFile view l.fn.f.0 (λ file. IsFront l.bytes.items file);
    }

abbrev pub decreases-loop-bytes : goal.decreases-loop-bytes
decreases-loop-bytes g l = 2 ^ 32 - length l.bytes.items
