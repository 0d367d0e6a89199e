use Rattle.std.proofs.Common.{◌≡◌}
use Rattle.gd_format.specs.File.{is_first, entries_of}
use Rattle.gd_readable.specs.Left.{passing_from}
use Rattle.gd_readable.proofs.records.next_first.Given as goal

abbrev pub invariant-loop-i : goal.invariant-loop-i
invariant-loop-i l = passing_from (is_first l.file l.header) (entries_of l.header) l.i ≡ passing_from (is_first l.file l.header) (entries_of l.header) l.from
