use Rattle.std.proofs.Common.{◌≡◌, ◌∙◌, ap, ℕ, ◌-◌, true, false, List, [], ◌∷◌, ◌++◌, length, get_or, sym, Some, None, arith, rules}
use Rattle.gd_lang.specs.Lexing.{Escaped, Quoted, Second, is_octal, letter_of, tokens_at}
use Rattle.gd_lang.proofs.Steps.{emptied, escaped-cut, escaped-letter, escaped-octal, escaped-wrong, front-and-tail, leads-along, tail, tail-shorter}
use Rattle.gd_lang.proofs.lexing.escape.Goals as goal

pub returns-in_default : goal.returns-in_default
returns-in_default c = ap (tokens_at (Escaped c.args.word.now.items)) (emptied c.args.rest.now c.in_default.len_below) ∙ escaped-cut c.args.word.now.items

pub returns-then-not-is_octal : goal.returns-then-not-is_octal
returns-then-not-is_octal c =
    let rest = c.args.rest.now in
    let none : letter_of (get_or rest 0 0) ≡ None = cc in
    let wrong : is_octal 51 (get_or rest 0 0) ≡ false = cc in
    ap (tokens_at (Escaped c.args.word.now.items)) (front-and-tail rest c.in-len1-up.len_at_least) ∙ escaped-wrong c.args.word.now.items (get_or rest 0 0) (tail rest) none wrong

pub returns-else-is_err : goal.returns-else-is_err
returns-else-is_err c =
    let rest = c.args.rest.now in
    let word = c.args.word.now.items in
    let some : letter_of (get_or rest 0 0) ≡ Some c.in-Some.byte = cc in
    let pushed : c.push.new.self.items ≡ word ++ c.in-Some.byte ∷ [] = search rules in
    let short = tail-shorter rest c.in-len1-up.len_at_least in (
      ap (tokens_at (Escaped word)) (front-and-tail rest c.in-len1-up.len_at_least) ∙ escaped-letter word (get_or rest 0 0) (tail rest) c.in-Some.byte some
          ∙ ap (λ (w : List ℕ). tokens_at (Quoted w) (tail rest)) (sym pushed),
      omega (arith, short),
    )

pub returns-else-not-is_octal : goal.returns-else-not-is_octal
returns-else-not-is_octal c =
    let rest = c.args.rest.now in
    let word = c.args.word.now.items in
    let none : letter_of (get_or rest 0 0) ≡ None = cc in
    let digit : is_octal 51 (get_or rest 0 0) ≡ true = cc in
    let short = tail-shorter rest c.in-len1-up.len_at_least in
    leads-along (tokens_at (Escaped word) rest) (tokens_at (Second word (get_or rest 0 0 - 48)) (tail rest)) (Quoted c.octal.new.word.items) (length (tail rest)) (length rest) c.octal.result
    (ap (tokens_at (Escaped word)) (front-and-tail rest c.in-len1-up.len_at_least) ∙ escaped-octal word (get_or rest 0 0) (tail rest) none digit) (omega (arith, short)) c.octal.ensures
