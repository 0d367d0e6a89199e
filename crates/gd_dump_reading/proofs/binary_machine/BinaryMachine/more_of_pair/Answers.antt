use Rattle.std.proofs.Common.{◌≡◌, ◌∙◌, ◌<◌, ap, append-nil, length, sym, subst, arith, rules, ℕ, List, ◌++◌, take, drop, vec_len}
use Rattle.gd_dump_reading.specs.BinaryDemand.{needed}
use Rattle.gd_dump_reading.proofs.BinaryEnds.{pair-waits}
use Rattle.std.proofs.lemmas.List.{append_assoc, take-append-drop}
use Rattle.gd_dump_reading.specs.BinaryItems.{pairs_told}
use Rattle.gd_dump_reading.specs.BinaryLeft.{left_in}
use Rattle.gd_dump_reading.proofs.binary_machine.BinaryMachine.more_of_pair.Goals as goal

pub returns-clause-steps : goal.returns-clause-steps
returns-clause-steps c =
    let now = c.args.self.now in
    let piece = c.args.piece.now in
    let n = c.min-taken.result in
    let held : c.append.new.list.items ≡ now.held.items ++ take n piece = search rules in (
      omega arith,
      search rules,
      λ rest.
          ap (λ p. left_in p now.place now.held.items (piece ++ rest)) c.requires.phase
          ∙ ap (λ (t : List ℕ). pairs_told now.place (now.held.items ++ (t ++ rest))) (sym (take-append-drop n piece))
          ∙ ap (λ (t : List ℕ). pairs_told now.place (now.held.items ++ t)) (append_assoc (take n piece) (drop n piece) rest)
          ∙ ap (pairs_told now.place) (sym (append_assoc now.held.items (take n piece) (drop n piece ++ rest)))
          ∙ ap (λ (h : List ℕ). pairs_told now.place (h ++ (drop n piece ++ rest))) (sym held)
          ∙ ap (λ p. left_in p now.place c.append.new.list.items (drop n piece ++ rest)) (sym c.requires.phase),
    )

pub returns-clause-waits : goal.returns-clause-waits
returns-clause-waits c = λ none zero rest some.
    let now = c.args.self.now in
    let piece = c.args.piece.now in
    let new = c.append.new.list in
    let held : new.items ≡ now.held.items ++ take c.min-taken.result piece = search rules in
    let same : new.items ≡ now.held.items = held ∙ ap (λ k. now.held.items ++ take k piece) zero ∙ append-nil now.held.items in
    let now_len : vec_len now.held ≡ length now.held.items = search rules in
    let len : vec_len new ≡ length new.items = search rules in
    let less : length now.held.items < needed now.held.items = omega (arith, now_len, c.requires.more, c.requires.wanted) in
    pair-waits now.phase now.place new.items rest _ c.requires.phase (subst (λ (h : List ℕ). length h < needed h) (sym same) less) (omega (arith, len)) some
