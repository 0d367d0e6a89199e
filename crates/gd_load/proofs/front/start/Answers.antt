use Rattle.std.proofs.Common.{◌∙◌, ◌++◌, sym, subst, refl, Ok, Err, arith}
use Rattle.gd_dump_reading.specs.AsciiItems.{ascii_items}
use Rattle.gd_dump_reading.specs.BinaryItems.{binary_items}
use Rattle.gd_load.specs.Items.{waiting}
use Rattle.gd_load.specs.declared.front.Begun.{Begun}
use Rattle.gd_load.specs.declared.front.Front.TheVariants.{Ascii, Binary}
use Rattle.gd_load.proofs.Beginnings.{Dump, ascii-dump, binary-dump, chosen-ascii, chosen-binary, fresh-left, head-came, started, stop-begins}
use Rattle.gd_load.proofs.front.start.Goals as goal

pub next_head-requires-clause-begins : goal.next_head-requires-clause-begins
next_head-requires-clause-begins g c = λ rest.
    (subst Dump (sym (c.with_machine-dump.ensures.left rest)) (binary-dump (waiting c.turn_page.new.self ++ rest))).is

pub next_head-requires-2-clause-begins : goal.next_head-requires-2-clause-begins
next_head-requires-2-clause-begins g c = λ rest.
    (subst Dump (sym (fresh-left ascii_items c.new-first.result c.turn_page.new.self c.new-first.ensures.left c.new-first.ensures.all c.turn_page.ensures.reader rest)) (ascii-dump (waiting c.turn_page.new.self ++ rest))).is

pub returns-in-Ok-clause-starts : goal.returns-in-Ok-clause-starts
returns-in-Ok-clause-starts g c =
    let old = c.with_machine-dump.result in
    let n = c.next_head.new.dump in
    let xs = waiting c.turn_page.new.self in
    let gives = c.in-Ok.ensures.gives in
    let b : Begun = record { front = Binary n; head = c.in-Ok.head; place = c.taken.result } in
    let chosen = chosen-binary old xs c.with_machine-dump.ensures.left (sym c.begins_with.ensures ∙ c.if-begins_with.true) (omega (arith, c.with_machine-dump.ensures.same.0, c.in_default.ensures.read, c.new-first.ensures.read, c.turn_page.ensures.size)) in
    started binary_items old n xs gives.bytes _ _ _ (Ok b) chosen gives.says.0 c.turn_page.ensures.front gives.front c.next_head.ensures.few c.next_head.ensures.ended
    (head-came binary_items old n xs gives.bytes b chosen gives.says.0 gives.says.1 (λ rest. refl) c.taken.ensures refl refl refl)

pub returns-in-Err-next_head-clause-starts : goal.returns-in-Err-next_head-clause-starts
returns-in-Err-next_head-clause-starts g c =
    let old = c.with_machine-dump.result in
    let n = c.next_head.new.dump in
    let xs = waiting c.turn_page.new.self in
    let gives = c.in-Err-next_head.ensures.gives in
    let chosen = chosen-binary old xs c.with_machine-dump.ensures.left (sym c.begins_with.ensures ∙ c.if-begins_with.true) (omega (arith, c.with_machine-dump.ensures.same.0, c.in_default.ensures.read, c.new-first.ensures.read, c.turn_page.ensures.size)) in
    started binary_items old n xs gives.bytes _ _ _ (Err c.in-Err-next_head.stop) chosen gives.says.0 c.turn_page.ensures.front gives.front c.next_head.ensures.few c.next_head.ensures.ended
    (stop-begins binary_items old n xs gives.bytes (Binary n) c.in-Err-next_head.stop _ _ chosen gives.says.0 gives.says.1 c.in-Err-next_head.ensures.cause (λ rest. refl) refl refl)

pub returns-in-Ok-next_head-clause-starts : goal.returns-in-Ok-next_head-clause-starts
returns-in-Ok-next_head-clause-starts g c =
    let old = c.turn_page.new.self in
    let n = c.next_head-2.new.dump in
    let xs = waiting old in
    let gives = c.in-Ok-next_head.ensures.gives in
    let b : Begun = record { front = Ascii n; head = c.in-Ok-next_head.head; place = c.taken-in-Ok-next_head.result } in
    let chosen = chosen-ascii old xs (fresh-left ascii_items c.new-first.result old c.new-first.ensures.left c.new-first.ensures.all c.turn_page.ensures.reader) (sym c.begins_with.ensures ∙ c.if-begins_with.false)
    (omega (arith, c.in_default.ensures.read, c.new-first.ensures.read, c.turn_page.ensures.size)) c.turn_page.ensures.size c.in_default.ensures.last in
    started ascii_items old n xs gives.bytes _ _ _ (Ok b) chosen gives.says.0 c.turn_page.ensures.front gives.front c.next_head-2.ensures.few c.next_head-2.ensures.ended
    (head-came ascii_items old n xs gives.bytes b chosen gives.says.0 gives.says.1 (λ rest. refl) c.taken-in-Ok-next_head.ensures refl refl refl)

pub returns-in-Err-next_head-2-clause-starts : goal.returns-in-Err-next_head-2-clause-starts
returns-in-Err-next_head-2-clause-starts g c =
    let old = c.turn_page.new.self in
    let n = c.next_head-2.new.dump in
    let xs = waiting old in
    let gives = c.in-Err-next_head-2.ensures.gives in
    let chosen = chosen-ascii old xs (fresh-left ascii_items c.new-first.result old c.new-first.ensures.left c.new-first.ensures.all c.turn_page.ensures.reader) (sym c.begins_with.ensures ∙ c.if-begins_with.false)
    (omega (arith, c.in_default.ensures.read, c.new-first.ensures.read, c.turn_page.ensures.size)) c.turn_page.ensures.size c.in_default.ensures.last in
    started ascii_items old n xs gives.bytes _ _ _ (Err c.in-Err-next_head-2.stop) chosen gives.says.0 c.turn_page.ensures.front gives.front c.next_head-2.ensures.few c.next_head-2.ensures.ended
    (stop-begins ascii_items old n xs gives.bytes (Ascii n) c.in-Err-next_head-2.stop _ _ chosen gives.says.0 gives.says.1 c.in-Err-next_head-2.ensures.cause (λ rest. refl) refl refl)
