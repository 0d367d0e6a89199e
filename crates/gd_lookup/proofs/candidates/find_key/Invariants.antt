use Rattle.std.proofs.Common.{◌≡◌, ◌-◌, ◌<◌, ◌≤◌, ℕ, false, length}
use Rattle.gd_bucket.specs.Probing.{slot_after}
use Rattle.gd_map_laws.specs.Find.{is_slot_of}
use Rattle.gd_vault.specs.Views.{OnlyAsks}
use Rattle.gd_open.specs.Files.{AtFile}
use Rattle.gd_lookup.proofs.candidates.find_key.Given as goal

abbrev pub invariant-candidates : goal.invariant-candidates
invariant-candidates g l = record {
  far : l.from ≤ length l.bucket.slots;
  asks : OnlyAsks (g.V.Vault.view_of l.fn.vault) (g.V.Vault.view_of l.vault);
  answered : (g.V.Vault.view_of l.vault).faults ≡ (g.V.Vault.view_of l.fn.vault).faults;
  passed : AtFile (g.V.Vault.view_of l.fn.vault) l.file.id (λ file. (e : ℕ) → e < l.from → is_slot_of file l.key (slot_after l.bucket.slots l.hash e) ≡ false);
}

abbrev pub decreases-candidates : goal.decreases-candidates
decreases-candidates g l = length l.bucket.slots - l.from
