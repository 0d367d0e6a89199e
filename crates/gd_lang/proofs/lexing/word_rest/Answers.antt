use Rattle.std.proofs.Common.{◌≡◌, ◌∙◌, ap, sym, true, false, List, ℕ, get_or, length, arith}
use Rattle.gd_lang.specs.Lexing.{Between, Inside, parts, tokens_at, with_token, word_on}
use Rattle.gd_lang.specs.declared.tokens.Token.TheVariants.{Word}
use Rattle.gd_lang.proofs.Steps.{emptied, exits-leads, front-and-tail, inside-end, inside-on, inside-parts, refuses-along, tail, tail-shorter}
use Rattle.gd_lang.proofs.lexing.word_rest.Goals as goal

pub returns-then-parts : goal.returns-then-parts
returns-then-parts c =
    let left = c.loop-left.left.now in
    let word = c.loop-left.word.items in
    let ends : parts (get_or left 0 0) (tail left) ≡ true = cc in
    let is = front-and-tail left c.in-len1-up.len_at_least in (
      c.loop-left.invariant.same ∙ ap (tokens_at (Inside word)) is ∙ inside-parts word (get_or left 0 0) (tail left) ends
          ∙ ap (λ (l : List ℕ). with_token (Word word) (tokens_at Between l)) (sym is),
      c.loop-left.invariant.short,
    )

pub returns-in_err-left : goal.returns-in_err-left
returns-in_err-left c =
    let left = c.loop-left.left.now in
    let word = c.loop-left.word.items in
    let all = tokens_at (Inside c.args.word.now.items) c.args.rest.now in
    let on : parts (get_or left 0 0) (tail left) ≡ false = cc in
    let e = c.in_err-left.field-0.0 in
    let due = refuses-along all (word_on word (get_or left 0 0) (λ place. tokens_at place (tail left))) e
    (c.loop-left.invariant.same ∙ ap (tokens_at (Inside word)) (front-and-tail left c.in-len1-up.len_at_least) ∙ inside-on word (get_or left 0 0) (tail left) on) c.in_err-left.ensures in
    exits-leads c.from_residual.result e all (λ (l : List ℕ). with_token (Word c.word_part.new.word.items) (tokens_at Between l)) (length c.args.rest.now) c.from_residual.ensures.1 due

pub loop-left-preserved : goal.loop-left-preserved
loop-left-preserved c =
    let left = c.loop-left.left.now in
    let word = c.loop-left.word.items in
    let on : parts (get_or left 0 0) (tail left) ≡ false = cc in
    let short = tail-shorter left c.in-len1-up.len_at_least in
    record {
      same = c.loop-left.invariant.same ∙ ap (tokens_at (Inside word)) (front-and-tail left c.in-len1-up.len_at_least) ∙ inside-on word (get_or left 0 0) (tail left) on ∙ c.in_ok-left.ensures.0;
      short = omega (arith, short, c.in_ok-left.ensures.1, c.loop-left.invariant.short);
    }

pub returns : goal.returns
returns c =
    let left = c.loop-left.left.now in
    let word = c.loop-left.word.items in
    let is = emptied left c.in_default.len_below in (
      c.loop-left.invariant.same ∙ ap (tokens_at (Inside word)) is ∙ inside-end word ∙ ap (λ (l : List ℕ). with_token (Word word) (tokens_at Between l)) (sym is),
      c.loop-left.invariant.short,
    )
