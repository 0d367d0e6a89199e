-- What std reads of digits.
use Rattle.std.proofs.Common.{◌≡◌, ◌∙◌, ℕ, ◌<◌, true, List, length, Result, Ok, rules, arith, nat_lt, nat_le, ◌&&◌, Option, ap}
use Rattle.std.specs.Result.{result_ok}
use Rattle.std.proofs.lemmas.Bool.{ltb-true, leb-true}
use Rattle.clap.proofs.WalkLemmas.{both}
use Rattle.std.specs.Char.{is_ascii_digit}
use Rattle.std.specs.List.{list_all}
use Rattle.std.specs.Str.Parse.{ParsesUnsigned}
use Rattle.std.proofs.lemmas.Str.Parse.{IsNumeralModel, numerals_by_fold, digits_value_short, parse_gives}
use Rattle.gd_words.specs.Meaning.{read_on, is_number, number_of}

own : IsNumeralModel (λ ds. list_all is_ascii_digit ds ≡ true) (read_on 0)
own = numerals_by_fold _ (search rules) read_on (search rules)

parsed : {E : Type 0} (text : List ℕ) (r : Result ℕ E) → ParsesUnsigned 64 10 text r → 0 < length text → length text < 11 → list_all is_ascii_digit text ≡ true → r ≡ Ok (read_on 0 text)
parsed text r h some short digits =
    let small = digits_value_short own text 10 digits (omega (arith, short)) in
    parse_gives own 64 text r h digits some (omega (arith, small))

pub number_is : {E : Type 0} (text : List ℕ) (r : Result ℕ E) (o : Option ℕ) → is_number text ≡ true → ParsesUnsigned 64 10 text r → o ≡ result_ok r → o ≡ number_of text
number_is text r o is h ok =
    let parts = both (nat_lt 0 (length text)) (nat_le (length text) 10 && list_all is_ascii_digit text) is in
    let more = both (nat_le (length text) 10) (list_all is_ascii_digit text) parts.1 in
    let short : length text < 11 = omega (arith, leb-true (length text) 10 more.0) in
    let read = parsed text r h (ltb-true 0 (length text) parts.0) short more.1 in
    rw is (ok ∙ ap result_ok read)
