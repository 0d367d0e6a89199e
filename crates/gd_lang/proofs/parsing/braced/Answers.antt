use Rattle.std.proofs.Common.{◌∙◌, ap, sym, ℕ, List, ◌∷◌, Ok, length, ◌-◌, drop, take, inl, inr}
use Rattle.gd_lang.specs.Commands.{braced_of}
use Rattle.gd_lang.specs.declared.tokens.Token.{Token}
use Rattle.gd_lang.specs.declared.tokens.Token.TheVariants.{Word}
use Rattle.gd_lang.proofs.Bracing.{before_all, braced_ends, braced_goes_on, braced_is_other, braced_is_short, braced_without_word, not_a_word, two_fronted}
use Rattle.gd_lang.proofs.parsing.braced.Goals as goal

abbrev behind_two : List Token → List Token
behind_two tokens = take (length tokens - 2) (drop 2 tokens)

pub returns-in_default-first : goal.returns-in_default-first
returns-in_default-first c =
    let left = c.loop-left.left.now in
    braced_without_word c.args.tokens.now left c.loop-left.words c.loop-left.invariant c.first-item.result c.mark-item.result (behind_two left)
    (two_fronted left c.first-item.result c.mark-item.result c.in-len2-up.len_at_least c.first-item.is c.mark-item.is)
    (not_a_word c.first-item.result c.in_default-first.not-Word)

pub loop-left-preserved : goal.loop-left-preserved
loop-left-preserved c =
    let left = c.loop-left.left.now in
    let mark = c.mark-item.result in
    let word = c.in-Word.word in
    let is = two_fronted left c.first-item.result mark c.in-len2-up.len_at_least c.first-item.is c.mark-item.is
    ∙ ap (λ (t : Token). t ∷ mark ∷ behind_two left) c.in-Word.is ∙ ap (λ (t : Token). Word word ∷ t ∷ behind_two left) c.in-Comma.is in
    braced_goes_on c.args.tokens.now left c.loop-left.words c.loop-left.invariant word (behind_two left) is
    ∙ ap (λ (ws : List (List ℕ)). before_all ws (braced_of (behind_two left))) (sym c.in_ok-push_copy.ensures)

pub returns-in-RightBrace : goal.returns-in-RightBrace
returns-in-RightBrace c =
    let left = c.loop-left.left.now in
    let mark = c.mark-item.result in
    let word = c.in-Word.word in
    let is = two_fronted left c.first-item.result mark c.in-len2-up.len_at_least c.first-item.is c.mark-item.is
    ∙ ap (λ (t : Token). t ∷ mark ∷ behind_two left) c.in-Word.is ∙ ap (λ (t : Token). Word word ∷ t ∷ behind_two left) c.in-RightBrace.is in
    braced_ends c.args.tokens.now left c.loop-left.words c.loop-left.invariant word (behind_two left) is
    ∙ ap (λ (ws : List (List ℕ)). Ok (ws, behind_two left)) (sym c.in_ok-push_copy.ensures)

pub returns-in-Word-mark : goal.returns-in-Word-mark
returns-in-Word-mark c =
    let left = c.loop-left.left.now in
    let mark = c.mark-item.result in
    let word = c.in-Word.word in
    let is = two_fronted left c.first-item.result mark c.in-len2-up.len_at_least c.first-item.is c.mark-item.is
    ∙ ap (λ (t : Token). t ∷ mark ∷ behind_two left) c.in-Word.is in
    elim c.in-Word-mark.is [
      | inl h ↦ braced_is_other c.args.tokens.now left c.loop-left.words c.loop-left.invariant word mark (behind_two left) is (λ e. cc) (λ e. cc)
      | inr h ↦ braced_is_other c.args.tokens.now left c.loop-left.words c.loop-left.invariant word mark (behind_two left) is (λ e. cc) (λ e. cc)
    ]

pub returns : goal.returns
returns c = braced_is_short c.args.tokens.now c.loop-left.left.now c.loop-left.words c.loop-left.invariant c.in_default.len_below
