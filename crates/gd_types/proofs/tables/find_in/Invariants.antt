use Rattle.std.proofs.Common.{◌≡◌, drop, map}
use Rattle.gd_types.specs.Lookups.{found_in, rows_from}
use Rattle.gd_types.proofs.Finding.{found_after}
use Rattle.gd_types.proofs.tables.find_in.Given as goal

-- what is found at last is what was found with the rows that are left behind it
abbrev pub invariant-loop-row : goal.invariant-loop-row
invariant-loop-row l =
    found_in (map (λ name. name.now) l.names) l.word ≡ found_after l.found (rows_from l.row (drop l.row (map (λ name. name.now) l.names)) l.word)
