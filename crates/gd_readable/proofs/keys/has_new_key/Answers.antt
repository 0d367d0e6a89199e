use Rattle.std.proofs.Common.{sym, ◌∙◌}
use Rattle.gd_readable.proofs.Places.{key_new_at}
use Rattle.gd_readable.proofs.keys.has_new_key.Goals as goal

pub returns-in-Ok-true-clause-new : goal.returns-in-Ok-true-clause-new
returns-in-Ok-true-clause-new c =
    key_new_at c.args.seen.now c.args.file.now c.args.block.now c.args.raw.now c.args.s c.requires.slot c.requires.keys c.requires.own c.requires.seen
    c.hash_field.result c.hash_field.ensures (sym c.in-Ok-true.ensures.added ∙ c.in-Ok-true.field-0-test)
