use Rattle.gd_script.proofs.Pieces.{front_all, front_some}
use Rattle.gd_script.proofs.reader.take_front.Goals as goal

pub returns-in-Ok : goal.returns-in-Ok
returns-in-Ok c = front_some c.in-Some.n c.args.rest.now c.args.line.now.items c.extend_from_slice.new.self.items c.in-Some.ensures c.in-Ok.ensures.items

pub returns-in-Ok-extend_from_slice : goal.returns-in-Ok-extend_from_slice
returns-in-Ok-extend_from_slice c =
    front_all c.args.rest.now c.args.line.now.items c.extend_from_slice-in-None.new.self.items c.in-None.ensures c.in-Ok-extend_from_slice.ensures.items
