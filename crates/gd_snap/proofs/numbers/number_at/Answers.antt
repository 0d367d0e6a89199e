use Rattle.std.proofs.Common.{◌∙◌}
use Rattle.gd_snap.proofs.Fields.{field_read}
use Rattle.gd_snap.proofs.numbers.number_at.Goals as goal

pub returns-clause-number : goal.returns-clause-number
returns-clause-number g c = λ content told x there inside.
    let read = c.in_ok-read_at.ensures.bytes content x told there in
    c.u32_from.ensures ∙ field_read c.args.at c.in_ok-read_at.field-0 x.bytes c.read_at.new.buf read.0 read.1 inside
