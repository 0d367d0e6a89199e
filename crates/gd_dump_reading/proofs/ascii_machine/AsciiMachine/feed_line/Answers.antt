use Rattle.std.proofs.Common.{◌≡◌, ◌∙◌, ap, sym, true, arith, rules, length, ◌++◌, ◌+◌, ◌-◌, drop, vec_len}
use Rattle.gd_dump_reading.specs.AsciiItems.{size_of}
use Rattle.gd_dump_reading.specs.AsciiLeft.{ascii_left}
use Rattle.gd_dump_reading.specs.Told.{given_if}
use Rattle.gd_dump_reading.proofs.AsciiEnds.{feed-refused, feed-told}
use Rattle.gd_dump_reading.proofs.DatumParts.{room-less}
use Rattle.gd_dump_reading.proofs.ascii_machine.AsciiMachine.feed_line.Goals as goal

pub returns-in-Err-clause-steps : goal.returns-in-Err-clause-steps
returns-in-Err-clause-steps c = λ rest.
    let now = c.args.self.now in
    feed-refused now c.line_done.new.self c.in-Err.stop (now.place + size_of (record { text = now.line.items; ended = true })) c.args.piece.now rest c.requires.datum c.requires.feed.0 c.requires.feed.1 c.in-Err.ensures.follows

pub returns-in-Ok-clause-steps : goal.returns-in-Ok-clause-steps
returns-in-Ok-clause-steps c =
    let now = c.args.self.now in
    let piece = c.args.piece.now in
    let new = c.line_done.new.self in
    let done = c.in-Ok.ensures.follows in
    let len : vec_len new.line ≡ length new.line.items = search rules in
    let none = ap length done.0 in
    let now_len : vec_len now.line ≡ length now.line.items = search rules in
    let place = done.2 in (
      omega arith,
      omega (arith, len, none, now_len, place),
      λ rest.
          feed-told now new c.in-Ok.item _ piece rest c.requires.datum c.requires.feed.0 c.requires.feed.1 done
          ∙ ap (λ n. given_if c.in-Ok.item n (ascii_left new (drop 1 piece ++ rest))) (sym place ∙ omega (arith, len, none)),
    )

pub returns-in-Ok-clause-room : goal.returns-in-Ok-clause-room
returns-in-Ok-clause-room c = λ none. room-less c.line_done.new.self (length c.args.piece.now) (length c.args.piece.now - 1) (c.in-Ok.ensures.room none (length c.args.piece.now) c.requires.room) (omega arith)
