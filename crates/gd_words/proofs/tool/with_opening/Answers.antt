use Rattle.std.proofs.Common.{rules, ◌≡◌, ◌∙◌, ap, ap₂, codes}
use Rattle.std.proofs.lemmas.Result.{IfOk-weaker}
use Rattle.clap.specs.Words.{app_of, rule_of, with_rule}
use Rattle.gd_words.specs.Commands.{flag_rule}
use Rattle.gd_words.proofs.tool.with_opening.Goals as goal

pub returns : goal.returns
returns c =
    let reader : rule_of c.flag.result ≡ flag_rule (codes "reader") 114 (codes "read-only") = search rules in
    let newdb : rule_of c.flag-2.result ≡ flag_rule (codes "newdb") 110 (codes "newdb") = search rules in
    let extended : rule_of c.flag-3.result ≡ flag_rule (codes "extended") 120 (codes "extended") = search rules in
    let first = c.in_ok-arg.ensures.shape c.flag.ensures.local ∙ ap (with_rule (app_of c.args.command)) reader in
    let second = c.in_ok-arg-2.ensures.shape c.flag-2.ensures.local ∙ ap₂ with_rule first newdb in
    IfOk-weaker c.arg-3.result _ _ (λ r added. added.shape c.flag-3.ensures.local ∙ ap₂ with_rule second extended) c.arg-3.ensures
