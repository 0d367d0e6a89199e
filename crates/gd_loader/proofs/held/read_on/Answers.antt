use Rattle.std.proofs.Common.{rules}
use Rattle.gd_loader.proofs.Fronts.{front_more, front_whole}
use Rattle.gd_loader.proofs.held.read_on.Goals as goal

pub returns-then-count-eq0-clause-reads : goal.returns-then-count-eq0-clause-reads
returns-then-count-eq0-clause-reads g c =
    λ d told x is front.
    front_whole c.in-Ok.count c.room_behind-room.result c.len.result c.len-2.result c.args.bytes.now.items x.bytes front c.requires.few
    (search rules) (search rules) c.room_behind-room.ensures (c.in-Ok.ensures.read d told x is).0 (search rules)

pub returns-in-Ok-extend_from_slice-clause-reads : goal.returns-in-Ok-extend_from_slice-clause-reads
returns-in-Ok-extend_from_slice-clause-reads g c =
    λ d told x is front.
    front_more c.in-Ok.count c.room_behind-room.result c.len-2.result c.args.bytes.now.items c.read_front.new.page c.extend_from_slice.new.self.items x.bytes front
    (search rules) c.in-Ok.ensures.small c.in-Ok-extend_from_slice.ensures.items (c.in-Ok.ensures.read d told x is).1
