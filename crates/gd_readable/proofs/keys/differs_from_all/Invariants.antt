use Rattle.std.proofs.Common.{◌≡◌, true}
use Rattle.gd_format.specs.First.{all_below}
use Rattle.gd_format.specs.File.{is_other_key}
use Rattle.gd_readable.proofs.keys.differs_from_all.Given as goal

abbrev pub invariant-loop-t : goal.invariant-loop-t
invariant-loop-t l = all_below l.t (is_other_key l.file l.block l.s) ≡ true
