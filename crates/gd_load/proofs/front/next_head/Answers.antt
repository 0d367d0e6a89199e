use Rattle.gd_load.proofs.Beginnings.{is-head, no-end}
use Rattle.gd_load.proofs.front.next_head.Goals as goal

pub head_of-requires : goal.head_of-requires
head_of-requires g c =
    let read = c.in-Ok-Some.ensures.gives in
    is-head c.args.dump.now c.next.new.self read.bytes c.in-Ok-Some.field-0 c.in-Ok-Some.item c.requires.begins c.in-Ok-Some.field-0-is read.says.1

pub unreachable-requires : goal.unreachable-requires
unreachable-requires g c =
    let read = c.in-Ok-None.ensures.gives in
    no-end c.args.dump.now c.next.new.self read.bytes c.in-Ok-None.field-0 c.requires.begins c.in-Ok-None.field-0-is read.says.1
