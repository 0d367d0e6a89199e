use Rattle.std.proofs.Common.{sym, ◌∙◌}
use Rattle.gd_words.proofs.Digits.{number_is}
use Rattle.gd_words.proofs.numbers.number.Goals as goal

pub returns-then-is_number : goal.returns-then-is_number
returns-then-is_number c = number_is c.args.text.now c.parse.result c.ok.result (sym c.is_number.ensures ∙ c.if-is_number.true) c.parse.ensures.value.0 c.ok.ensures.value
