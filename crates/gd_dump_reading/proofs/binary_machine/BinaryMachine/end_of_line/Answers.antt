use Rattle.std.proofs.Common.{◌≡◌, ◌∙◌, ap₂, sym, arith, rules, ℕ, List, [], ◌++◌, ◌+◌, length, take, drop, true}
use Rattle.std.proofs.lemmas.List.{length-append, length-take-le}
use Rattle.gd_dump_reading.specs.BinaryItems.{is_head_line}
use Rattle.gd_dump_reading.specs.BinaryLeft.{head_left}
use Rattle.gd_dump_reading.proofs.BinaryReading.{good-phase, bad-phase}
use Rattle.gd_dump_reading.proofs.binary_machine.BinaryMachine.end_of_line.Goals as goal

pub returns-then-not-head_line-clause-steps : goal.returns-then-not-head_line-clause-steps
returns-then-not-head_line-clause-steps c = λ rest.
    let now = c.args.self.now in
    bad-phase now.phase c.args.after now.place now.held.items c.args.piece.now rest c.args.end c.requires.phase c.requires.inside c.requires.within c.requires.feed (search rules)

pub returns-clause-steps : goal.returns-clause-steps
returns-clause-steps c =
    let now = c.args.self.now in
    let piece = c.args.piece.now in
    let end = c.args.end in
    let line : c.append.new.list.items ≡ now.held.items ++ take end piece = search rules in
    let len : c.len.result ≡ length (now.held.items ++ take end piece) = search rules in
    let none : c.clear-2.new.self.items ≡ [] = search rules in
    let good : is_head_line c.args.after (now.held.items ++ take end piece) ≡ true = search rules in
    let size = length-append now.held.items (take end piece) in
    let cut = length-take-le end piece in (
      omega arith,
      omega (arith, size, cut),
      λ rest.
          good-phase now.phase c.args.after now.place now.held.items piece rest end c.requires.phase c.requires.inside c.requires.within c.requires.feed good
          ∙ ap₂ (λ place (held : List ℕ). head_left c.args.after place held (drop (end + 1) piece ++ rest)) (omega (arith, len)) (sym none),
    )
