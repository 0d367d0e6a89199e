use Rattle.std.proofs.Common.{◌∙◌, ap, sym, rules}
use Rattle.gd_dump_reading.specs.AsciiItems.{end_told, unless_body}
use Rattle.gd_dump_reading.specs.AsciiLeft.{key_of}
use Rattle.gd_dump_reading.proofs.DataLines.{data-line, count-fine}
use Rattle.gd_dump_reading.proofs.ascii_machine.AsciiMachine.count_line.Goals as goal

pub returns-clause-follows : goal.returns-clause-follows
returns-clause-follows c =
    let now = c.args.self.now in (
      c.next_line.ensures.line,
      c.next_line.ensures.inside,
      c.next_line.ensures.place,
      λ lines.
          data-line now c.args.ended lines c.requires.phase c.requires.starts
          ∙ count-fine now.count (key_of now.waits now.key.items) now.place (record { line = record { text = now.line.items; ended = c.args.ended }; body = lines.0 }) lines.1 c.requires.other c.requires.count (search rules) (search rules)
          ∙ ap (λ n. unless_body n lines.0 (end_told n lines.1)) (sym c.next_line.ensures.place),
    )
