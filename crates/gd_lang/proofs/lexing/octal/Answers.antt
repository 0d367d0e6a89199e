use Rattle.std.proofs.Common.{◌≡◌, ◌∙◌, ap, ℕ, ◌+◌, ◌-◌, ◌*◌, true, false, List, [], ◌∷◌, ◌++◌, get_or, sym, arith, rules}
use Rattle.gd_lang.specs.Lexing.{Quoted, Second, Third, is_octal, tokens_at}
use Rattle.gd_lang.proofs.Steps.{emptied, front-and-tail, second-cut, second-digit, second-wrong, tail, tail-shorter, third-cut, third-digit, third-wrong}
use Rattle.gd_lang.proofs.lexing.octal.Goals as goal

pub returns-in_default : goal.returns-in_default
returns-in_default c =
    ap (tokens_at (Second c.args.word.now.items c.args.first)) (emptied c.args.rest.now c.in_default.len_below) ∙ second-cut c.args.word.now.items c.args.first

pub returns-then-not-is_octal : goal.returns-then-not-is_octal
returns-then-not-is_octal c =
    let rest = c.args.rest.now in
    let wrong : is_octal 55 (get_or rest 0 0) ≡ false = cc in
    ap (tokens_at (Second c.args.word.now.items c.args.first)) (front-and-tail rest c.in-len1-up.len_at_least) ∙ second-wrong c.args.word.now.items c.args.first (get_or rest 0 0) (tail rest) wrong

pub returns-in_default-rest : goal.returns-in_default-rest
returns-in_default-rest c =
    let rest = c.args.rest.now in
    let word = c.args.word.now.items in
    let digit : is_octal 55 (get_or rest 0 0) ≡ true = cc in
    ap (tokens_at (Second word c.args.first)) (front-and-tail rest c.in-len1-up.len_at_least) ∙ second-digit word c.args.first (get_or rest 0 0) (tail rest) digit
    ∙ ap (tokens_at (Third word (8 * c.args.first + (get_or rest 0 0 - 48)))) (emptied (tail rest) c.in_default-rest.len_below) ∙ third-cut word _

pub returns-then-not-is_octal-2 : goal.returns-then-not-is_octal-2
returns-then-not-is_octal-2 c =
    let rest = c.args.rest.now in
    let word = c.args.word.now.items in
    let n = 8 * c.args.first + (get_or rest 0 0 - 48) in
    let digit : is_octal 55 (get_or rest 0 0) ≡ true = cc in
    let wrong : is_octal 55 (get_or (tail rest) 0 0) ≡ false = cc in
    ap (tokens_at (Second word c.args.first)) (front-and-tail rest c.in-len1-up.len_at_least) ∙ second-digit word c.args.first (get_or rest 0 0) (tail rest) digit
    ∙ ap (tokens_at (Third word n)) (front-and-tail (tail rest) c.in-len1-up-rest.len_at_least) ∙ third-wrong word n (get_or (tail rest) 0 0) (tail (tail rest)) wrong

pub returns : goal.returns
returns c =
    let rest = c.args.rest.now in
    let word = c.args.word.now.items in
    let n = 8 * c.args.first + (get_or rest 0 0 - 48) in
    let m = 8 * n + (get_or (tail rest) 0 0 - 48) in
    let digit : is_octal 55 (get_or rest 0 0) ≡ true = cc in
    let other : is_octal 55 (get_or (tail rest) 0 0) ≡ true = cc in
    let pushed : c.push.new.self.items ≡ word ++ m ∷ [] = search rules in
    let first = tail-shorter rest c.in-len1-up.len_at_least in
    let second = tail-shorter (tail rest) c.in-len1-up-rest.len_at_least in (
      ap (tokens_at (Second word c.args.first)) (front-and-tail rest c.in-len1-up.len_at_least) ∙ second-digit word c.args.first (get_or rest 0 0) (tail rest) digit
          ∙ ap (tokens_at (Third word n)) (front-and-tail (tail rest) c.in-len1-up-rest.len_at_least) ∙ third-digit word n (get_or (tail rest) 0 0) (tail (tail rest)) other
          ∙ ap (λ (w : List ℕ). tokens_at (Quoted w) (tail (tail rest))) (sym pushed),
      omega (arith, first, second),
    )
