use Rattle.std.proofs.Common.{◌∙◌, ap, get_or, arith}
use Rattle.gd_lang.specs.Lexing.{Quoted, tokens_at}
use Rattle.gd_lang.proofs.Steps.{emptied, front-and-tail, quoted-cut, quoted-end, tail, tail-shorter}
use Rattle.gd_lang.proofs.lexing.quoted.Goals as goal

pub returns-then-byte-eq34 : goal.returns-then-byte-eq34
returns-then-byte-eq34 c =
    let left = c.loop-left.left.now in
    let word = c.loop-left.word.items in
    let short = tail-shorter left c.in-len1-up.len_at_least in (
      c.loop-left.invariant.same ∙ ap (tokens_at (Quoted word)) (front-and-tail left c.in-len1-up.len_at_least) ∙ quoted-end word (get_or left 0 0) (tail left) c.if-byte-eq34.true,
      omega (arith, short, c.loop-left.invariant.short),
    )

pub returns : goal.returns
returns c =
    c.loop-left.invariant.same ∙ ap (tokens_at (Quoted c.loop-left.word.items)) (emptied c.loop-left.left.now c.in_default.len_below) ∙ quoted-cut c.loop-left.word.items
