use Rattle.std.proofs.Common.{◌≡◌, ◌≤◌, ◌∙◌, ap, ap₂, sym, subst, arith, rules, length, take, drop, ◌++◌, ◌+◌, ◌-◌, true, vec_len, ℕ, List, Err}
use Rattle.std.specs.Prelude.{vec_capacity}
use Rattle.gd_dump_reading.specs.AsciiHeld.{HasRoom}
use Rattle.gd_dump_reading.specs.AsciiItems.{lines_in}
use Rattle.gd_dump_reading.specs.AsciiLeft.{key_of}
use Rattle.gd_dump_reading.specs.Said.{named_in}
use Rattle.gd_dump_reading.specs.TextLeft.{Takes}
use Rattle.gd_dump_reading.specs.Told.{refused}
use Rattle.gd_dump_reading.proofs.DatumParts.{datum-at, none-kept, take-less, text-over}
use Rattle.gd_dump_reading.proofs.TextLines.{text-part}
use Rattle.gd_dump_reading.proofs.ascii_machine.AsciiMachine.part_of_text.Goals as goal

pub returns-then-is_over-clause-steps : goal.returns-then-is_over-clause-steps
returns-then-is_over-clause-steps c = λ rest.
    let now = c.args.self.now in
    let piece = c.args.piece.now in
    let kept = none-kept now.phase (vec_len now.line) c.requires.datum now.no_line in
    let len : vec_len now.line ≡ length now.line.items = search rules in
    let key = key_of now.waits now.key.items in
    datum-at now.phase (named_in now.names) now.count key now.text now.place now.inside now.line.items (lines_in (piece ++ rest)) c.requires.datum (omega (arith, kept, len))
    ∙ text-over now.count key now.text now.place now.text.at c.args.count now.inside piece rest c.requires.some.0 c.requires.some.1 c.requires.within c.requires.text (λ chars more follows end fits. c.is_over.ensures.over c.if-is_over.true chars more follows end fits)
    ∙ sym (ap₂ refused c.too_long.ensures.0 c.too_long.ensures.1)

pub returns-clause-steps : goal.returns-clause-steps
returns-clause-steps c =
    let now = c.args.self.now in
    let piece = c.args.piece.now in
    let kept = none-kept now.phase (vec_len now.line) c.requires.datum now.no_line in
    let len : vec_len now.line ≡ length now.line.items = search rules in
    let key = key_of now.waits now.key.items in
    let n = c.take-taken.result in
    let within : n ≤ c.args.count = search rules in
    let takes : Takes now.text c.take-taken.new.self (take n piece) = subst (Takes now.text c.take-taken.new.self) (take-less n c.args.count piece within) c.take-taken.ensures.takes in (
      omega (arith, within),
      omega arith,
      λ rest.
          datum-at now.phase (named_in now.names) now.count key now.text now.place now.inside now.line.items (lines_in (piece ++ rest)) c.requires.datum (omega (arith, kept, len))
          ∙ text-part now.count key now.text c.take-taken.new.self now.place n now.inside piece rest c.take-taken.ensures.some (omega (arith, within)) (λ k lt. c.requires.within k (omega (arith, lt, within))) c.requires.text takes
          ∙ sym (datum-at now.phase (named_in now.names) now.count key c.take-taken.new.self (now.place + n) true now.line.items (lines_in (drop n piece ++ rest)) c.requires.datum (omega (arith, kept, len))),
    )

pub returns-clause-room : goal.returns-clause-room
returns-clause-room c = λ none.
    let room = c.requires.room in
    let within : c.take-taken.result ≤ c.args.count = search rules in
    record {
      line = room.line;
      values = room.values;
      text = omega (arith, room.text, c.take-taken.ensures.fits, c.take-taken.ensures.room, within);
      key = λ first. let k = room.key first in omega (arith, k);
    }
