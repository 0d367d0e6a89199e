use Rattle.std.proofs.Common.{◌≡◌, ◌∙◌, ap, List, ℕ, [], ◌∷◌, ◌++◌, length, sym, arith, rules}
use Rattle.gd_lang.specs.Lexing.{Escaped, Quoted, tokens_at}
use Rattle.gd_lang.proofs.Steps.{leads-along, quoted-plain, quoted-slash}
use Rattle.gd_lang.proofs.lexing.quoted_part.Goals as goal

pub returns-then-byte-eq92 : goal.returns-then-byte-eq92
returns-then-byte-eq92 c =
    let rest = c.args.rest.now in
    let word = c.args.word.now.items in
    leads-along (tokens_at (Quoted word) (c.args.byte ∷ rest)) (tokens_at (Escaped word) rest) (Quoted c.escape.new.word.items) (length rest) (length rest) c.escape.result
    (quoted-slash word c.args.byte rest c.if-byte-eq92.true) (omega arith) c.escape.ensures

pub returns : goal.returns
returns c =
    let word = c.args.word.now.items in
    let pushed : c.push.new.self.items ≡ word ++ c.args.byte ∷ [] = search rules in (
      quoted-plain word c.args.byte c.args.rest.now c.requires c.if-byte-eq92.false ∙ ap (λ (w : List ℕ). tokens_at (Quoted w) c.args.rest.now) (sym pushed),
      omega arith,
    )
