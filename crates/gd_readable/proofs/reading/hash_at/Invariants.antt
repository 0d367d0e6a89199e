use Rattle.std.proofs.Common.{◌≡◌, ◌-◌, ◌*◌, ◌%◌, ◌^◌, ◌<◌, ◌≤◌}
use Rattle.gd_format.specs.Hash.{mixed_all}
use Rattle.gd_format.specs.Field.{bytes_at}
use Rattle.gd_readable.specs.Asks.{kept_of, bytes_in, Tells, IsIn}
use Rattle.gd_readable.proofs.reading.hash_at.Given as goal

abbrev pub invariant-pieces : goal.invariant-pieces
invariant-pieces g l = record {
  far : l.done ≤ l.size;
  fits : l.v < 2 ^ 32;
  same : kept_of (g.V.Vault.view_of l.vault) ≡ kept_of (g.V.Vault.view_of l.fn.vault);
  later : (g.V.Vault.view_of l.vault).faults ≡ (g.V.Vault.view_of l.fn.vault).faults;
  hash : Tells (bytes_in (kept_of (g.V.Vault.view_of l.fn.vault)) l.f.0) (λ file. IsIn file l.at l.size → l.v ≡ mixed_all 0 (0x238F13AF * l.size % 2 ^ 32) (bytes_at file l.at l.done));
}

abbrev pub decreases-pieces : goal.decreases-pieces
decreases-pieces g l = l.size - l.done
