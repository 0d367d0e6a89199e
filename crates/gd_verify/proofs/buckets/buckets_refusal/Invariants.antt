use Rattle.std.proofs.Common.{◌≡◌, ◌≤◌, ◌++◌, None, length, take, map}
use Rattle.std.specs.List.{All, flat_map}
use Rattle.gd_verify.specs.Apart.{IsPlain}
use Rattle.gd_format.specs.First.{first_some}
use Rattle.gd_format.specs.Sound.{free_held, records_held}
use Rattle.gd_readable.specs.Asks.{kept_of, bytes_in, Tells}
use Rattle.gd_verify.specs.Known.{HasBucket, free_fault_at}
use Rattle.gd_verify.proofs.buckets.buckets_refusal.Given as goal

abbrev pub invariant-loop-at : goal.invariant-loop-at
invariant-loop-at g l = record {
  same : kept_of (g.V.Vault.view_of l.vault) ≡ kept_of (g.V.Vault.view_of l.fn.vault);
  later : (g.V.Vault.view_of l.vault).faults ≡ (g.V.Vault.view_of l.fn.vault).faults;
  size : length l.block ≡ length l.fn.block;
  plain_records : All IsPlain l.records.items;
  plain_free : All IsPlain l.free.items;
  none : Tells (bytes_in (kept_of (g.V.Vault.view_of l.fn.vault)) l.f.0) (λ file. All (HasBucket file l.header) l.places → first_some (map (free_fault_at file l.header) (take l.at-index l.places)) ≡ None);
  records : Tells (bytes_in (kept_of (g.V.Vault.view_of l.fn.vault)) l.f.0) (λ file. All (HasBucket file l.header) l.places → l.records.items ≡ l.fn.records.items ++ flat_map (records_held file l.header) (take l.at-index l.places));
  free : Tells (bytes_in (kept_of (g.V.Vault.view_of l.fn.vault)) l.f.0) (λ file. All (HasBucket file l.header) l.places → l.free.items ≡ l.fn.free.items ++ flat_map (free_held file l.header) (take l.at-index l.places));
}
