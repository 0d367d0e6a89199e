use Rattle.std.proofs.Common.{◌≡◌, ◌-◌, ◌≤◌, true}
use Rattle.std.specs.Str.{bytes_eq}
use Rattle.gd_format.specs.Field.{bytes_at}
use Rattle.gd_readable.specs.Asks.{kept_of, bytes_in, Tells, IsIn}
use Rattle.gd_readable.proofs.reading.same_at.Given as goal

abbrev pub invariant-pieces : goal.invariant-pieces
invariant-pieces g l = record {
  far : l.done ≤ l.size;
  same : kept_of (g.V.Vault.view_of l.vault) ≡ kept_of (g.V.Vault.view_of l.fn.vault);
  later : (g.V.Vault.view_of l.vault).faults ≡ (g.V.Vault.view_of l.fn.vault).faults;
  equal : Tells (bytes_in (kept_of (g.V.Vault.view_of l.fn.vault)) l.f.0) (λ file. IsIn file l.a l.size → IsIn file l.b l.size → bytes_eq (bytes_at file l.a l.done) (bytes_at file l.b l.done) ≡ true);
}

abbrev pub decreases-pieces : goal.decreases-pieces
decreases-pieces g l = l.size - l.done
