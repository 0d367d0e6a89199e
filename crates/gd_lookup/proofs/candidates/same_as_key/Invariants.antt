use Rattle.std.proofs.Common.{◌≡◌, ◌-◌, ◌≤◌, length, take}
use Rattle.gd_format.specs.Field.{bytes_at}
use Rattle.gd_vault.specs.Views.{OnlyAsks}
use Rattle.gd_readable.specs.Asks.{IsIn}
use Rattle.gd_open.specs.Files.{AtFile}
use Rattle.gd_lookup.proofs.candidates.same_as_key.Given as goal

abbrev pub invariant-pieces : goal.invariant-pieces
invariant-pieces g l = record {
  far : l.done ≤ length l.key;
  asks : OnlyAsks (g.V.Vault.view_of l.fn.vault) (g.V.Vault.view_of l.vault);
  answered : (g.V.Vault.view_of l.vault).faults ≡ (g.V.Vault.view_of l.fn.vault).faults;
  equal : AtFile (g.V.Vault.view_of l.fn.vault) l.file.id (λ file. IsIn file l.at (length l.key) → bytes_at file l.at l.done ≡ take l.done l.key);
}

abbrev pub decreases-pieces : goal.decreases-pieces
decreases-pieces g l = length l.key - l.done
