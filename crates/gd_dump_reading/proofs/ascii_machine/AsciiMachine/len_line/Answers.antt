use Rattle.std.proofs.Common.{◌≡◌, ◌∙◌, ap, ap₂, sym, rules, drop, ◌+◌, ℕ, List, []}
use Rattle.gd_dump_reading.specs.AsciiItems.{data_told, datum_in, is_some_section, joined, size_of, sizes, with_datum}
use Rattle.gd_dump_reading.specs.AsciiLeft.{datum_left, key_of}
use Rattle.gd_dump_reading.specs.Numbers.{value_of}
use Rattle.gd_dump_reading.specs.TextLeft.{text_left}
use Rattle.gd_dump_reading.proofs.DataLines.{data-line, len-fine}
use Rattle.gd_dump_reading.proofs.ascii_machine.AsciiMachine.len_line.Goals as goal

pub returns-clause-follows : goal.returns-clause-follows
returns-clause-follows c =
    let now = c.args.self.now in
    let new = c.next_line.new.self in
    let text = c.start.new.self in
    let same = c.next_line.ensures.rest in
    let next = now.place + size_of (record { text = now.line.items; ended = c.args.ended }) in
    let key = key_of now.waits now.key.items in
    let size : c.in-Some.size ≡ value_of (drop 6 now.line.items) = c.in-Some.ensures.0 in (
      c.next_line.ensures.line,
      c.next_line.ensures.inside,
      c.next_line.ensures.place,
      λ lines.
          let end = next + sizes lines.0 in
          data-line now c.args.ended lines c.requires.phase c.requires.starts
          ∙ len-fine now.count key now.place (record { line = record { text = now.line.items; ended = c.args.ended }; body = lines.0 }) lines.1 c.requires.len (search rules) (search rules)
          ∙ ap (λ r. with_datum now.count key end r (λ x k. data_told x k end lines.1))
          (ap (λ n. datum_in n now.place (joined lines.0) (is_some_section lines.1) end) (sym size) ∙ sym (c.start.ensures.left (joined lines.0) (is_some_section lines.1) end))
          ∙ ap₂ (λ t n. datum_left now.count key t n lines.0 lines.1) (sym same.text) (sym c.next_line.ensures.place)
          ∙ ap₂ (λ w (k : List ℕ). datum_left now.count (key_of w k) new.text new.place lines.0 lines.1) (sym same.waits) (sym (ap (λ k. k.items) same.key))
          ∙ ap (λ n. datum_left n (key_of new.waits new.key.items) new.text new.place lines.0 lines.1) (sym same.count),
    )
