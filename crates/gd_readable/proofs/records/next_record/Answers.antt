use Rattle.std.proofs.Common.{ap, ◌∙◌}
use Rattle.gd_format.specs.File.{key_of, value_of}
use Rattle.gd_readable.proofs.Left.{slot_left, walk_slot}
use Rattle.gd_readable.proofs.records.next_record.Goals as goal

pub returns-clause-some : goal.returns-clause-some
returns-clause-some c =
    let found = c.in-Some.ensures.some in
    let file = c.args.file.now in
    let h = c.args.header.now in
    let i = c.args.entry in
    let block = c.args.block.now in
    let s = c.args.slot in
    let w = c.requires in (
      slot_left file h i block s w c.in-Some.s c.record_from.result.0.now c.record_from.result.1.now found.3 (c.record_from.ensures.key ∙ ap (key_of file) c.raw_slot.ensures) (c.record_from.ensures.value ∙ ap (value_of file) c.raw_slot.ensures),
      walk_slot file h i block s w c.in-Some.s found.0 found.1,
    )
