use Rattle.std.proofs.Common.{◌≡◌, ◌∙◌, ap, ap₂, sym, refl, false, true, arith, rules, length, ◌++◌, ◌+◌, ◌-◌, drop, vec_len, ◌∷◌, Some, None, Ok}
use Rattle.std.specs.Prelude.{codes}
use Rattle.gd_dump_reading.specs.AsciiItems.{data_told, lines_in}
use Rattle.gd_dump_reading.specs.AsciiLeft.{key_of}
use Rattle.gd_dump_reading.specs.Said.{named_in}
use Rattle.gd_dump_reading.specs.Told.{given}
use Rattle.gd_dump_reading.specs.declared.items.Item.TheVariants.{Pair}
use Rattle.gd_dump_reading.proofs.DatumParts.{datum-at, hash-left, hash-told, none-kept, room-less}
use Rattle.gd_dump_reading.proofs.TextLines.{closed-bad, closed-key, closed-pair, hash-parted}
use Rattle.gd_dump_reading.proofs.ascii_machine.AsciiMachine.close_datum.Goals as goal

pub returns-in-Some-clause-steps : goal.returns-in-Some-clause-steps
returns-in-Some-clause-steps c = λ rest.
    let now = c.args.self.now in
    let piece = c.args.piece.now in
    let kept = none-kept now.phase (vec_len now.line) c.requires.datum now.no_line in
    let len : vec_len now.line ≡ length now.line.items = search rules in
    let key = key_of now.waits now.key.items in
    let shape = hash-parted (lines_in (drop 1 piece ++ rest)) in
    datum-at now.phase (named_in now.names) now.count key now.text now.place now.inside now.line.items (lines_in (piece ++ rest)) c.requires.datum (omega (arith, kept, len))
    ∙ hash-told now.count key now.text now.place now.inside piece rest shape.0 shape.1 c.requires.begins c.requires.hash.0 c.requires.hash.1 shape.2
    ∙ closed-bad now.count key now.text now.place shape.0 shape.1 c.in-Some.stop.kind c.in-Some.stop.place c.in-Some.ensures

pub returns-then-self-clause-steps : goal.returns-then-self-clause-steps
returns-then-self-clause-steps c =
    let now = c.args.self.now in
    let piece = c.args.piece.now in
    let new = c.give_pair-pair.new.self in
    let gives = c.give_pair-pair.ensures in
    let kept = none-kept now.phase (vec_len now.line) c.requires.datum now.no_line in
    let len : vec_len now.line ≡ length now.line.items = search rules in
    let one = ap length gives.line in
    let new_len : vec_len new.line ≡ length new.line.items = search rules in
    let key = key_of now.waits now.key.items in
    let key_is = ap (λ b. key_of b now.key.items) c.if-self.true in
    let none = ap (λ b. key_of b new.key.items) gives.rest.3 in (
      omega (arith, c.requires.hash.0),
      omega (arith, kept, one, new_len, gives.rest.1),
      λ rest.
          let ls = lines_in (drop 1 piece ++ rest) in
          let shape = hash-parted ls in
          datum-at now.phase (named_in now.names) now.count key now.text now.place now.inside now.line.items (lines_in (piece ++ rest)) c.requires.datum (omega (arith, kept, len))
          ∙ hash-told now.count key now.text now.place now.inside piece rest shape.0 shape.1 c.requires.begins c.requires.hash.0 c.requires.hash.1 shape.2
          ∙ closed-pair now.count key now.text now.place shape.0 shape.1 now.key.items now.text.bytes.items key_is c.in_default.ensures
          ∙ ap₂ (λ item n. given item n (data_told (now.count + 1) None now.place (shape.0 ∷ shape.1))) (sym gives.pair) (omega (arith, one, new_len, gives.rest.1))
          ∙ ap (given c.give_pair-pair.result (new.place + vec_len new.line)) (sym (hash-left new.phase (named_in new.names) new.count (key_of new.waits new.key.items) new.text new.place new.inside new.line.items ls shape.0 shape.1 (now.count + 1) None now.place
          gives.rest.0 gives.line shape.2 gives.rest.2 none gives.rest.1)),
    )

pub returns-clause-steps : goal.returns-clause-steps
returns-clause-steps c =
    let now = c.args.self.now in
    let piece = c.args.piece.now in
    let new = c.keep_key.new.self in
    let keeps = c.keep_key.ensures in
    let kept = none-kept now.phase (vec_len now.line) c.requires.datum now.no_line in
    let len : vec_len now.line ≡ length now.line.items = search rules in
    let one = ap length keeps.line in
    let new_len : vec_len new.line ≡ length new.line.items = search rules in
    let key = key_of now.waits now.key.items in
    let key_is = ap (λ b. key_of b now.key.items) c.if-self.false in
    let some = ap₂ key_of keeps.key.0 keeps.key.1 in (
      omega (arith, c.requires.hash.0),
      omega (arith, kept, one, new_len, keeps.rest.1),
      λ rest.
          let ls = lines_in (drop 1 piece ++ rest) in
          let shape = hash-parted ls in
          datum-at now.phase (named_in now.names) now.count key now.text now.place now.inside now.line.items (lines_in (piece ++ rest)) c.requires.datum (omega (arith, kept, len))
          ∙ hash-told now.count key now.text now.place now.inside piece rest shape.0 shape.1 c.requires.begins c.requires.hash.0 c.requires.hash.1 shape.2
          ∙ closed-key now.count key now.text now.place shape.0 shape.1 now.text.bytes.items key_is c.in_default.ensures
          ∙ sym (hash-left new.phase (named_in new.names) new.count (key_of new.waits new.key.items) new.text new.place new.inside new.line.items ls shape.0 shape.1 now.count (Some now.text.bytes.items) now.place
          keeps.rest.0 keeps.line shape.2 keeps.rest.2 some keeps.rest.1),
    )

pub returns-clause-room : goal.returns-clause-room
returns-clause-room c = λ none. room-less c.keep_key.new.self (length c.args.piece.now) (length c.args.piece.now - 1) (c.keep_key.ensures.room (length c.args.piece.now) c.requires.room) (omega arith)
