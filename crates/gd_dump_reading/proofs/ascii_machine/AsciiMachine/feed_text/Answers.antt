use Rattle.std.proofs.Common.{◌≡◌, ◌∙◌, sym, arith, rules, length, drop, ◌++◌, ◌+◌, false, vec_len}
use Rattle.gd_dump_reading.specs.AsciiItems.{lines_in}
use Rattle.gd_dump_reading.specs.AsciiLeft.{key_of}
use Rattle.gd_dump_reading.specs.Said.{named_in}
use Rattle.gd_dump_reading.proofs.DatumParts.{datum-at, none-kept}
use Rattle.gd_dump_reading.proofs.TextLines.{text-feed}
use Rattle.gd_dump_reading.proofs.ascii_machine.AsciiMachine.feed_text.Goals as goal

pub returns-clause-steps : goal.returns-clause-steps
returns-clause-steps c =
    let now = c.args.self.now in
    let piece = c.args.piece.now in
    let kept = none-kept now.phase (vec_len now.line) c.requires.datum now.no_line in
    let len : vec_len now.line ≡ length now.line.items = search rules in
    let key = key_of now.waits now.key.items in (
      omega arith,
      omega arith,
      λ rest.
          datum-at now.phase (named_in now.names) now.count key now.text now.place now.inside now.line.items (lines_in (piece ++ rest)) c.requires.datum (omega (arith, kept, len))
          ∙ text-feed now.count key now.text now.place now.inside piece rest c.requires.feed.0 c.requires.feed.1
          ∙ sym (datum-at now.phase (named_in now.names) now.count key now.text (now.place + 1) false now.line.items (lines_in (drop 1 piece ++ rest)) c.requires.datum (omega (arith, kept, len))),
    )
