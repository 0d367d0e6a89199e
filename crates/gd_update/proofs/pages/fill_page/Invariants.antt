use Rattle.std.proofs.Common.{◌≡◌, ◌*◌, ◌<◌, ℕ}
use Rattle.std.specs.Prelude.{pos}
use Rattle.gd_format.specs.Field.{i64_at}
use Rattle.gd_update.proofs.pages.fill_page.Given as goal

abbrev pub invariant-loop-j : goal.invariant-loop-j
invariant-loop-j l = (k : ℕ) → k < l.j → i64_at l.page (8 * k) ≡ pos l.address
