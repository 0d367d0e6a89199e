use Rattle.std.proofs.Common.{◌≡◌, ◌≤◌, None, length}
use Rattle.gd_format.specs.First.{first_below}
use Rattle.gd_format.specs.File.{slot_fault}
use Rattle.gd_readable.specs.Asks.{kept_of, bytes_in, Tells}
use Rattle.gd_readable.specs.Checks.{HaveKeys, SeesHashes}
use Rattle.gd_readable.proofs.stored.wrong_slot.Given as goal

abbrev pub invariant-loop-s : goal.invariant-loop-s
invariant-loop-s g l = record {
  same : kept_of (g.V.Vault.view_of l.vault) ≡ kept_of (g.V.Vault.view_of l.fn.vault);
  later : (g.V.Vault.view_of l.vault).faults ≡ (g.V.Vault.view_of l.fn.vault).faults;
  none : Tells (bytes_in (kept_of (g.V.Vault.view_of l.fn.vault)) l.f.0) (λ file. length file ≡ l.len → first_below l.s (slot_fault file l.block l.at l.top) ≡ None);
  keys : Tells (bytes_in (kept_of (g.V.Vault.view_of l.fn.vault)) l.f.0) (λ file. length file ≡ l.len → HaveKeys file l.block l.s);
  seen : SeesHashes l.seen l.block l.s;
}
