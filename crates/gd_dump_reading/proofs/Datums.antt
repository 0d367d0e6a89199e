-- The text of a datum.
use Rattle.std.proofs.Common.{◌≡◌, ◌∙◌, ap, ℕ, true, List, length, Some, Ok, Err, arith}
use Rattle.std.specs.Prelude.{nat_lt, ◌==◌}
use Rattle.std.proofs.lemmas.Bool.{cond-true, cond-false, eq-eqb, le-ltb}
use Rattle.gd_dump_reading.specs.AsciiItems.{datum_in, decoded, text_size}
use Rattle.gd_dump_reading.specs.Base64.{strict_bytes}
use Rattle.gd_dump_reading.specs.declared.items.DumpKind.TheVariants.{Length}

pub datum-whole : (n at end : ℕ) (text bytes : List ℕ) → length text ≡ text_size n → strict_bytes text ≡ Some bytes → length bytes ≡ n → datum_in n at text true end ≡ Ok bytes
datum-whole n at end text bytes len read size =
    cond-false (nat_lt (text_size n) (length text)) (Err (Length, at)) _ (le-ltb _ _ (omega (arith, len)))
    ∙ cond-false (nat_lt (length text) (text_size n)) (Err (Length, at)) _ (le-ltb _ _ (omega (arith, len)))
    ∙ ap (decoded n at) read ∙ cond-true (length bytes == n) (Ok bytes) (Err (Length, at)) (eq-eqb _ _ size)
