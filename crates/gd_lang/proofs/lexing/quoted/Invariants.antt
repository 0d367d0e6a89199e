use Rattle.std.proofs.Common.{◌≡◌, ◌≤◌, length}
use Rattle.gd_lang.specs.Lexing.{Quoted, tokens_at}
use Rattle.gd_lang.proofs.lexing.quoted.Given as goal

-- the tokens behind the bytes that have come
abbrev pub invariant-loop-left : goal.invariant-loop-left
invariant-loop-left l = record {
  same : tokens_at (Quoted l.fn.word.items) l.fn.rest ≡ tokens_at (Quoted l.word.items) l.left;
  short : length l.left ≤ length l.fn.rest;
}

abbrev pub decreases-loop-left : goal.decreases-loop-left
decreases-loop-left l = length l.left
