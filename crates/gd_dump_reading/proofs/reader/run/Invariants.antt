use Rattle.std.proofs.Common.{◌≡◌, ◌≤◌, ◌+◌, ◌-◌, ◌++◌, ℕ, List, length, drop}
use Rattle.gd_dump_reading.proofs.reader.run.Given as goal

-- the bytes up to the place have gone in, and gave no item
abbrev pub invariant-loop-fed : goal.invariant-loop-fed
invariant-loop-fed g l = record {
  within : l.at ≤ length l.piece;
  taken : g.M.Machine.taken l.machine ≡ g.M.Machine.taken l.fn.machine + l.at;
  left : (rest : List ℕ) → g.M.Machine.left l.fn.machine (l.piece ++ rest) ≡ g.M.Machine.left l.machine (drop l.at l.piece ++ rest);
  room : g.M.Machine.has_room l.machine (length l.piece - l.at);
}

abbrev pub decreases-loop-fed : goal.decreases-loop-fed
decreases-loop-fed g l = length l.piece - l.at
