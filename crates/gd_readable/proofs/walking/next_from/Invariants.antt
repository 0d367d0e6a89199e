use Rattle.std.proofs.Common.{◌≡◌, ◌-◌, ◌≤◌}
use Rattle.gd_format.specs.File.{entries_of}
use Rattle.gd_readable.specs.Asks.{kept_of, bytes_in, Tells}
use Rattle.gd_readable.specs.Left.{IsWalk, records_left}
use Rattle.gd_readable.specs.Standing.{FitsWalk, slots_ahead}
use Rattle.gd_readable.proofs.walking.next_from.Given as goal

abbrev pub invariant-buckets : goal.invariant-buckets
invariant-buckets g l = record {
  same : kept_of (g.V.Vault.view_of l.vault) ≡ kept_of (g.V.Vault.view_of l.fn.vault);
  later : (g.V.Vault.view_of l.vault).faults ≡ (g.V.Vault.view_of l.fn.vault).faults;
  ahead : slots_ahead l.header l.place.entry l.place.slot ≤ slots_ahead l.header l.fn.place.entry l.fn.place.slot;
  fits : FitsWalk l.header l.place.entry l.place.block.items l.place.slot;
  walk : Tells (bytes_in (kept_of (g.V.Vault.view_of l.fn.vault)) l.f.0) (λ file. IsWalk file l.header l.fn.place.entry l.fn.place.block.items l.fn.place.slot → IsWalk file l.header l.place.entry l.place.block.items l.place.slot);
  left : Tells (bytes_in (kept_of (g.V.Vault.view_of l.fn.vault)) l.f.0) (λ file. IsWalk file l.header l.fn.place.entry l.fn.place.block.items l.fn.place.slot → records_left file l.header l.place.entry l.place.block.items l.place.slot ≡ records_left file l.header l.fn.place.entry l.fn.place.block.items l.fn.place.slot);
}

abbrev pub decreases-buckets : goal.decreases-buckets
decreases-buckets g l = entries_of l.header - l.place.entry
