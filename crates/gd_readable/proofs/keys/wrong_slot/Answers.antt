use Rattle.std.proofs.Common.{sym, ◌∙◌}
use Rattle.gd_format.specs.File.{slot_fault}
use Rattle.gd_format.proofs.Firsts.{first_below_found}
use Rattle.gd_readable.proofs.keys.wrong_slot.Goals as goal

pub returns-in-Some : goal.returns-in-Some
returns-in-Some c =
    sym (first_below_found (slot_fault c.args.file.now c.args.block.now c.args.at c.args.top) c.args.elems c.loop-s.s c.in-Some.e c.loop-s-test.true c.loop-s.invariant.none
    (sym c.in_ok-refusal.ensures.refusal ∙ c.in-Some.is))
