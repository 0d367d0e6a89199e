use Rattle.std.proofs.Common.{◌≡◌}
use Rattle.gd_format.specs.File.{is_full_at}
use Rattle.gd_readable.specs.Left.{passing_from}
use Rattle.gd_lookup.proofs.following.next_full.Given as goal

abbrev pub invariant-loop-s : goal.invariant-loop-s
invariant-loop-s l = passing_from (is_full_at l.block) l.elems l.s ≡ passing_from (is_full_at l.block) l.elems l.from
