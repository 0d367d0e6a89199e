use Rattle.std.proofs.Common.{◌≡◌, ◌≤◌, ◌-◌, length}
use Rattle.std.specs.List.{All}
use Rattle.gd_readable.specs.Asks.{kept_of, bytes_in, Tells}
use Rattle.gd_verify.specs.Known.{IsReadBy, IsAddress, IsPlaced}
use Rattle.gd_verify.proofs.directory.read_places.Given as goal

abbrev pub invariant-pages : goal.invariant-pages
invariant-pages g l = record {
  far : l.i ≤ l.n;
  same : kept_of (g.V.Vault.view_of l.vault) ≡ kept_of (g.V.Vault.view_of l.fn.vault);
  later : (g.V.Vault.view_of l.vault).faults ≡ (g.V.Vault.view_of l.fn.vault).faults;
  size : length l.page ≡ 4096;
  low : All IsAddress l.places.items;
  placed : Tells (bytes_in (kept_of (g.V.Vault.view_of l.fn.vault)) l.f.0) (λ file. IsReadBy file l.header → IsPlaced file l.header l.i l.before l.places.items);
}

abbrev pub decreases-pages : goal.decreases-pages
decreases-pages g l = l.n - l.i
