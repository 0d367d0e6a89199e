use Rattle.std.proofs.Common.{◌≡◌, ◌∙◌, ap₂, sym, arith, rules, ℕ, List, [], ◌++◌, length, drop, vec_len}
use Rattle.std.proofs.lemmas.List.{drop_all}
use Rattle.gd_dump_reading.specs.BinaryLeft.{left_in}
use Rattle.gd_dump_reading.proofs.BinaryEnds.{line-waits}
use Rattle.gd_dump_reading.proofs.BinaryReading.{part-phase, front-phase}
use Rattle.gd_dump_reading.proofs.binary_machine.BinaryMachine.part_of_line.Goals as goal

pub returns-then-no_front-clause-steps : goal.returns-then-no_front-clause-steps
returns-then-no_front-clause-steps c = λ rest.
    let now = c.args.self.now in
    front-phase now.phase c.args.after now.place now.held.items c.args.piece.now rest c.requires.phase c.requires.within (search rules)

pub returns-clause-steps : goal.returns-clause-steps
returns-clause-steps c =
    let now = c.args.self.now in
    let piece = c.args.piece.now in
    let held : c.append.new.list.items ≡ now.held.items ++ piece = search rules in
    let all : drop (length piece) piece ≡ [] = drop_all (length piece) piece (omega arith) in (
      omega arith,
      search rules,
      λ rest.
          part-phase now.phase c.args.after now.place now.held.items piece rest c.requires.phase c.requires.within
          ∙ sym (ap₂ (λ (h t : List ℕ). left_in now.phase now.place h (t ++ rest)) held all),
    )

pub returns-clause-waits : goal.returns-clause-waits
returns-clause-waits c = λ none zero rest some.
    let now = c.args.self.now in
    let new = c.append.new.list in
    let len : vec_len new ≡ length new.items = search rules in
    line-waits now.phase c.args.after now.place new.items rest _ c.requires.phase (omega (arith, len))
