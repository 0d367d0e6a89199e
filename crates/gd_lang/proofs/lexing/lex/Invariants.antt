use Rattle.std.proofs.Common.{◌≡◌, length}
use Rattle.gd_lang.specs.Lexing.{Between, behind, tokens_at, tokens_of}
use Rattle.gd_lang.proofs.lexing.lex.Given as goal

-- the tokens so far, and those of what is left
abbrev pub invariant-loop-left : goal.invariant-loop-left
invariant-loop-left l = tokens_of l.fn.line ≡ behind l.tokens (tokens_at Between l.left)

abbrev pub decreases-loop-left : goal.decreases-loop-left
decreases-loop-left l = length l.left
