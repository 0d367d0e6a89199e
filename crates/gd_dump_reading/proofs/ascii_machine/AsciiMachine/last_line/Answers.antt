use Rattle.std.proofs.Common.{◌≡◌, ◌∙◌, ap, subst, arith, rules, length, [], ◌+◌, false, vec_len, Option, Some, None, Ok, Err, Result}
use Rattle.gd_dump_reading.specs.AsciiItems.{size_of}
use Rattle.gd_dump_reading.specs.AsciiLeft.{ascii_left}
use Rattle.gd_dump_reading.specs.AsciiSteps.{Follows}
use Rattle.gd_dump_reading.specs.Told.{given}
use Rattle.gd_dump_reading.specs.declared.items.Item.{Item}
use Rattle.gd_dump_reading.specs.declared.items.Refusal.{Refusal}
use Rattle.gd_dump_reading.proofs.AsciiEnds.{last-refused, last-told}
use Rattle.gd_dump_reading.proofs.ascii_machine.AsciiMachine.last_line.Goals as goal

pub returns-in-Ok-Some : goal.returns-in-Ok-Some
returns-in-Ok-Some c =
    let now = c.args.self.now in
    let new = c.line_done.new.self in
    let end = now.place + size_of (record { text = now.line.items; ended = false }) in
    let done = subst (λ (r : Result (Option Item) Refusal). Follows now new false end r) (c.in-Ok-Some.is ∙ ap Ok c.in-Ok-Some.field-0-is) c.line_done.ensures.follows in
    let len : vec_len new.line ≡ length new.line.items = search rules in
    let now_len : vec_len now.line ≡ length now.line.items = search rules in
    let none = ap length done.0 in
    let place = done.2 in
    (omega (arith, len, none, now_len, place), last-told now new (Some c.in-Ok-Some.item) end c.requires.datum c.requires.some done ∙ ap (λ n. given c.in-Ok-Some.item n (ascii_left new [])) (omega (arith, len, none, place)))

pub returns-in-Some : goal.returns-in-Some
returns-in-Some c =
    let now = c.args.self.now in
    let new = c.line_done.new.self in
    let end = now.place + size_of (record { text = now.line.items; ended = false }) in
    let done = subst (λ (r : Result (Option Item) Refusal). Follows now new false end r) (c.in-Ok-None.is ∙ ap Ok c.in-Ok-None.field-0-is) c.line_done.ensures.follows in
    last-told now new None end c.requires.datum c.requires.some done ∙ c.in-Some.ensures

pub returns-in-None : goal.returns-in-None
returns-in-None c =
    let now = c.args.self.now in
    let new = c.line_done.new.self in
    let end = now.place + size_of (record { text = now.line.items; ended = false }) in
    let done = subst (λ (r : Result (Option Item) Refusal). Follows now new false end r) (c.in-Ok-None.is ∙ ap Ok c.in-Ok-None.field-0-is) c.line_done.ensures.follows in
    let len : vec_len new.line ≡ length new.line.items = search rules in
    let now_len : vec_len now.line ≡ length now.line.items = search rules in
    let none = ap length done.0 in
    let place = done.2 in
    (omega (arith, len, none, now_len, place), last-told now new None end c.requires.datum c.requires.some done ∙ c.in-None.ensures, c.in-None.ensures)

pub returns-in-Err : goal.returns-in-Err
returns-in-Err c =
    let now = c.args.self.now in
    let end = now.place + size_of (record { text = now.line.items; ended = false }) in
    last-refused now c.line_done.new.self c.in-Err.stop end c.requires.datum c.requires.some c.in-Err.ensures.follows
