-- A reader of ASCII dumps that waits for more.
use Rattle.std.proofs.Common.{◌≡◌, ℕ, List, length, subst, ◌≤◌, Result, Ok, Err, arith, vec_len}
use Rattle.gd_dump_reading.specs.AsciiLeft.{ascii_left, ascii_taken, key_of}
use Rattle.gd_dump_reading.specs.AsciiRooms.{line_room}
use Rattle.gd_dump_reading.specs.Said.{named_in}
use Rattle.gd_dump_reading.specs.Told.{Waits}
use Rattle.gd_dump_reading.specs.declared.ascii_machine.AsciiMachine.{AsciiMachine}
use Rattle.gd_dump_reading.specs.declared.items.Fed.{Fed}
use Rattle.gd_dump_reading.specs.declared.items.Refusal.{Refusal}
use Rattle.gd_dump_reading.proofs.ItemEnds.{none-ends}

pub waits-of : (m : AsciiMachine) (r : Result Fed Refusal) → vec_len m.line ≡ length m.line.items → Waits (ascii_left m) (ascii_taken m) r
waits-of m (Err stop) len = tt
waits-of m (Ok fed) len = λ none zero rest some.
    none-ends m.phase (named_in m.names) m.count (key_of m.waits m.key.items) m.text m.place m.inside m.line.items rest (ascii_taken m) (subst (λ k. k ≤ line_room m.phase k) len m.no_line) (omega (arith, len)) some
