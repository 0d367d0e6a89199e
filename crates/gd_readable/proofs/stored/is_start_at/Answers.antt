use Rattle.std.proofs.Common.{◌≡◌, ℕ, List, [], ◌∷◌, length, take, ap, ◌∙◌, arith}
use Rattle.std.specs.Str.{bytes_eq}
use Rattle.std.proofs.lemmas.List.{length-take-le}
use Rattle.gd_format.specs.Field.{bytes_at}
use Rattle.gd_format.proofs.Pieces.{start_is, length-bytes_at}
use Rattle.gd_readable.proofs.stored.is_start_at.Goals as goal

pub returns-clause-answer : goal.returns-clause-answer
returns-clause-answer g c =
    λ file told some whole.
    let len : length (take c.min-n.result (0 ∷ 0 ∷ 0 ∷ 0 ∷ [])) ≡ c.min-n.result = length-take-le c.min-n.result (0 ∷ 0 ∷ 0 ∷ 0 ∷ []) (omega arith) in
    let part = c.in_ok-fill.ensures.read file told (omega (arith, len, whole)) ∙ ap (bytes_at file c.args.at) len in
    let start = start_is file c.args.at c.args.size c.min-n.result whole (omega arith) in
    let count = length-bytes_at file c.args.at c.min-n.result (omega (arith, whole)) in
    rw (start, count) (c.are_equal.ensures ∙ ap (λ (k : List ℕ). bytes_eq k (take c.min-n.result c.args.start.now)) part)
