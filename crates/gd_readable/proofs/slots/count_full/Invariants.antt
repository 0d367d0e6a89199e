use Rattle.std.proofs.Common.{◌≡◌, ◌≤◌}
use Rattle.gd_format.specs.First.{count_below}
use Rattle.gd_format.specs.File.{is_full_at}
use Rattle.gd_readable.proofs.slots.count_full.Given as goal

abbrev pub invariant-loop-s : goal.invariant-loop-s
invariant-loop-s l = (l.n ≡ count_below l.s (is_full_at l.block)) × (l.n ≤ l.s)
