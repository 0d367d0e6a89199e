use Rattle.std.proofs.Common.{rules, ◌≡◌, ◌∙◌, ap, ap₂, codes}
use Rattle.std.proofs.lemmas.Result.{IfOk-weaker}
use Rattle.clap.specs.Words.{app_of, rule_of, with_rule}
use Rattle.gd_words.specs.Commands.{flag_rule}
use Rattle.gd_words.proofs.load.with_storing.Goals as goal

pub returns : goal.returns
returns c =
    let nometa : rule_of c.flag.result ≡ flag_rule (codes "nometa") 110 (codes "no-meta") = search rules in
    let replace : rule_of c.flag-2.result ≡ flag_rule (codes "replace") 114 (codes "replace") = search rules in
    let update : rule_of c.flag-3.result ≡ flag_rule (codes "update") 85 (codes "update") = search rules in
    let first = c.in_ok-arg.ensures.shape c.flag.ensures.local ∙ ap (with_rule (app_of c.args.command)) nometa in
    let second = c.in_ok-arg-2.ensures.shape c.flag-2.ensures.local ∙ ap₂ with_rule first replace in
    IfOk-weaker c.arg-3.result _ _ (λ r added. added.shape c.flag-3.ensures.local ∙ ap₂ with_rule second update) c.arg-3.ensures
