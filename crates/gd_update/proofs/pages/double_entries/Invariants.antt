use Rattle.std.proofs.Common.{◌≡◌, ◌*◌, ◌<◌, ℕ}
use Rattle.std.specs.Prelude.{◌/◌}
use Rattle.gd_format.specs.Field.{i64_at}
use Rattle.gd_update.proofs.pages.double_entries.Given as goal

abbrev pub invariant-loop-k : goal.invariant-loop-k
invariant-loop-k l = (j : ℕ) → j < 2 * l.k → i64_at l.page (8 * j) ≡ i64_at l.source (8 * (j / 2))
