use Rattle.std.proofs.Common.{◌≡◌, length}
use Rattle.gd_lang.specs.Commands.{braced_of}
use Rattle.gd_lang.proofs.Bracing.{before_all}
use Rattle.gd_lang.proofs.parsing.braced.Given as goal

-- the words so far, and those of what is left
abbrev pub invariant-loop-left : goal.invariant-loop-left
invariant-loop-left l = braced_of l.fn.tokens ≡ before_all l.words (braced_of l.left)

abbrev pub decreases-loop-left : goal.decreases-loop-left
decreases-loop-left l = length l.left
