use Rattle.std.proofs.Common.{◌≡◌, ◌%◌, ◌≤◌, ◌++◌, ap, arith}
use Rattle.std.specs.Fmt.{decimal}
use Rattle.std.proofs.lemmas.List.{take-replicate}
use Rattle.gd_session.proofs.numbered.number_content.Goals as goal

pub returns : goal.returns
returns c =
    let few : c.args.number % 64 ≤ 64 = omega arith in
    rw (c.append-2.ensures, c.append.ensures, c.new-content.ensures, c.as_bytes.ensures.value, c.format.ensures.text, c.dots.ensures)
    (ap (λ t. decimal c.args.number ++ t) (take-replicate (c.args.number % 64) 64 46 few))
