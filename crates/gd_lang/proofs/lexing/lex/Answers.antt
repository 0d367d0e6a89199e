use Rattle.std.proofs.Common.{◌≡◌, ◌∙◌, ap, true, false, List, [], ℕ, get_or, append-nil, Ok}
use Rattle.gd_lang.specs.Lexing.{Between, Lexed, behind, parts, tokens_at, tokens_of, word_on}
use Rattle.gd_lang.proofs.Refusing.{answers-exit}
use Rattle.gd_lang.proofs.Steps.{between-comment, between-end, between-parts, between-word, emptied, front-and-tail, refuses-along, refuses-behind, tail}
use Rattle.gd_lang.proofs.lexing.lex.Goals as goal

pub loop-left-preserved-then-parts : goal.loop-left-preserved-then-parts
loop-left-preserved-then-parts c =
    let left = c.loop-left.left.now in
    let ends : parts (get_or left 0 0) (tail left) ≡ true = cc in
    c.loop-left.invariant ∙ ap (λ (l : List ℕ). behind c.loop-left.tokens (tokens_at Between l)) (front-and-tail left c.in-len1-up.len_at_least)
    ∙ ap (λ (l : Lexed). behind c.loop-left.tokens l) (between-parts (get_or left 0 0) (tail left) ends) ∙ c.in_ok-push_mark.ensures (tokens_at Between (tail left))

pub returns-then-byte-eq35 : goal.returns-then-byte-eq35
returns-then-byte-eq35 c =
    let left = c.loop-left.left.now in
    let on : parts (get_or left 0 0) (tail left) ≡ false = cc in
    c.loop-left.invariant ∙ ap (λ (l : List ℕ). behind c.loop-left.tokens (tokens_at Between l)) (front-and-tail left c.in-len1-up.len_at_least)
    ∙ ap (λ (l : Lexed). behind c.loop-left.tokens l) (between-comment (get_or left 0 0) (tail left) on c.if-byte-eq35.true) ∙ ap Ok (append-nil c.loop-left.tokens)

pub returns-in_err-left : goal.returns-in_err-left
returns-in_err-left c =
    let left = c.loop-left.left.now in
    let front = c.loop-left.tokens in
    let e = c.in_err-left.field-0.0 in
    let on : parts (get_or left 0 0) (tail left) ≡ false = cc in
    let word = word_on [] (get_or left 0 0) (λ place. tokens_at place (tail left)) in
    let is : tokens_of c.args.line.now ≡ behind front word =
    c.loop-left.invariant ∙ ap (λ (l : List ℕ). behind front (tokens_at Between l)) (front-and-tail left c.in-len1-up.len_at_least)
    ∙ ap (λ (l : Lexed). behind front l) (between-word (get_or left 0 0) (tail left) on c.if-byte-eq35.false) in
    answers-exit c.from_residual-in_err-left.result e (tokens_of c.args.line.now) c.from_residual-in_err-left.ensures.1
    (refuses-along (tokens_of c.args.line.now) (behind front word) e is (refuses-behind front word e c.in_err-left.ensures))

pub loop-left-preserved : goal.loop-left-preserved
loop-left-preserved c =
    let left = c.loop-left.left.now in
    let front = c.loop-left.tokens in
    let on : parts (get_or left 0 0) (tail left) ≡ false = cc in
    c.loop-left.invariant ∙ ap (λ (l : List ℕ). behind front (tokens_at Between l)) (front-and-tail left c.in-len1-up.len_at_least)
    ∙ ap (λ (l : Lexed). behind front l) (between-word (get_or left 0 0) (tail left) on c.if-byte-eq35.false) ∙ c.in_ok-left.ensures.0

pub returns : goal.returns
returns c =
    c.loop-left.invariant ∙ ap (λ (l : List ℕ). behind c.loop-left.tokens (tokens_at Between l)) (emptied c.loop-left.left.now c.in_default.len_below)
    ∙ ap (λ (l : Lexed). behind c.loop-left.tokens l) between-end ∙ ap Ok (append-nil c.loop-left.tokens)
