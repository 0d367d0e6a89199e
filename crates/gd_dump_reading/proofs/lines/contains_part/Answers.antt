use Rattle.std.proofs.Common.{◌∙◌, ap, sym, rules, drop, eqb, false, ◌≡◌}
use Rattle.std.specs.List.{starts_with}
use Rattle.std.proofs.lemmas.List.{take_rest}
use Rattle.gd_dump_reading.proofs.Contains.{contains-next}
use Rattle.gd_dump_reading.proofs.lines.contains_part.Goals as goal

pub loop-at-preserved : goal.loop-at-preserved
loop-at-preserved c =
    let line = c.args.line.now in
    let rest = ap (λ b. starts_with eqb b c.args.part.now) (take_rest line c.loop-at.at) in
    let differs : starts_with eqb (drop c.loop-at.at line) c.args.part.now ≡ false = sym rest ∙ search rules in
    c.loop-at.invariant ∙ contains-next c.args.part.now line c.loop-at.at (search rules) differs
