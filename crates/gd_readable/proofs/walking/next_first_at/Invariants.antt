use Rattle.std.proofs.Common.{◌≡◌, ◌≤◌, None, length}
use Rattle.gd_format.specs.File.{dir_fault, is_first, entries_of}
use Rattle.gd_readable.specs.Asks.{kept_of, bytes_in, Tells}
use Rattle.gd_readable.specs.Checks.{IsHeaderIn}
use Rattle.gd_readable.specs.Left.{passing_from}
use Rattle.gd_readable.proofs.walking.next_first_at.Given as goal

abbrev pub invariant-loop-i : goal.invariant-loop-i
invariant-loop-i g l = record {
  same : kept_of (g.V.Vault.view_of l.vault) ≡ kept_of (g.V.Vault.view_of l.fn.vault);
  later : (g.V.Vault.view_of l.vault).faults ≡ (g.V.Vault.view_of l.fn.vault).faults;
  passed : Tells (bytes_in (kept_of (g.V.Vault.view_of l.fn.vault)) l.f.0) (λ file. IsHeaderIn l.header (length file) → dir_fault file l.header ≡ None → passing_from (is_first file l.header) (entries_of l.header) l.i ≡ passing_from (is_first file l.header) (entries_of l.header) l.from);
}
