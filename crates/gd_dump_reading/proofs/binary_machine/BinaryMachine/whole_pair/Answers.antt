use Rattle.std.proofs.Common.{◌≡◌, ◌∙◌, ap, ap₂, sym, arith, rules, ℕ, List, ◌++◌, ◌+◌, take, drop}
use Rattle.std.proofs.lemmas.List.{length-append}
use Rattle.gd_dump_reading.specs.BinaryItems.{pairs_told}
use Rattle.gd_dump_reading.specs.BinaryLeft.{left_in}
use Rattle.gd_dump_reading.specs.Told.{given}
use Rattle.gd_dump_reading.specs.declared.items.Item.TheVariants.{Pair}
use Rattle.gd_dump_reading.proofs.BinaryPairs.{pairs-step, told-whole}
use Rattle.gd_dump_reading.proofs.binary_machine.BinaryMachine.whole_pair.Goals as goal

pub returns-clause-pair : goal.returns-clause-pair
returns-clause-pair c = λ rest.
    let now = c.args.self.now in
    let held = now.held.items in
    let k = c.args.key in
    let v = c.args.value in
    let end = now.place + (8 + k + v) in
    let whole = c.requires.whole in
    let size = length-append held rest in
    let left : c.drop-drain.new.self.0.items ≡ drop (8 + k + v) held = search rules in
    let first : c.from.result ≡ take k (drop 4 held) = search rules in
    let second : c.from-2.result ≡ take v (drop (8 + k) held) = search rules in
    ap (λ p. left_in p now.place held rest) c.requires.phase
    ∙ pairs-step now.place (held ++ rest) (omega (arith, whole.2, size))
    ∙ told-whole pairs_told now.place k v held rest whole
    ∙ ap₂ (λ (x y : List ℕ). given (Pair x y) end (pairs_told end (drop (8 + k + v) held ++ rest))) (sym first) (sym second)
    ∙ ap (λ (r : List ℕ). given (Pair c.from.result c.from-2.result) end (pairs_told end (r ++ rest))) (sym left)
    ∙ ap (λ p. given (Pair c.from.result c.from-2.result) end (left_in p end c.drop-drain.new.self.0.items rest)) (sym c.requires.phase)
