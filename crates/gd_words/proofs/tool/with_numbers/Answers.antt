use Rattle.std.proofs.Common.{rules, ◌≡◌, ◌∙◌, ap, ap₂, codes}
use Rattle.std.proofs.lemmas.Result.{IfOk-weaker}
use Rattle.clap.specs.Words.{app_of, rule_of, with_rule}
use Rattle.gd_words.specs.Commands.{option_rule}
use Rattle.gd_words.proofs.tool.with_numbers.Goals as goal

pub returns : goal.returns
returns c =
    let block : rule_of c.option.result ≡ option_rule (codes "block") 98 (codes "block-size") = search rules in
    let cache : rule_of c.option-2.result ≡ option_rule (codes "cache") 99 (codes "cache-size") = search rules in
    let first = c.in_ok-arg.ensures.shape c.option.ensures.local ∙ ap (with_rule (app_of c.args.command)) block in
    IfOk-weaker c.arg-2.result _ _ (λ r added. added.shape c.option-2.ensures.local ∙ ap₂ with_rule first cache) c.arg-2.ensures
