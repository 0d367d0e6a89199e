use Rattle.std.proofs.Common.{◌∙◌, ap, List, ℕ, []}
use Rattle.gd_dump_reading.specs.AsciiLeft.{attach, key_of, lines_left}
use Rattle.gd_dump_reading.specs.Said.{named_in}
use Rattle.gd_dump_reading.proofs.DatumParts.{cut-told}
use Rattle.gd_dump_reading.proofs.LineParts.{told_at}
use Rattle.gd_dump_reading.proofs.ascii_machine.AsciiMachine.cut.Goals as goal

pub returns-in_default : goal.returns-in_default
returns-in_default c =
    let now = c.args.self.now in
    ap (λ (l : List ℕ). told_at now.phase (named_in now.names) now.count (key_of now.waits now.key.items) now.text now.place (lines_left now.phase now.inside (attach l []))) c.requires
    ∙ cut-told now.phase (named_in now.names) now.count (key_of now.waits now.key.items) now.text now.place now.inside c.in_default.not-Ended
