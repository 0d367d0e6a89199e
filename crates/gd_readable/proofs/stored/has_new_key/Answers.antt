use Rattle.std.proofs.Common.{sym, ◌∙◌}
use Rattle.gd_readable.proofs.Places.{key_new_at}
use Rattle.gd_readable.proofs.stored.has_new_key.Goals as goal

pub returns-in-Ok-true-clause-answer : goal.returns-in-Ok-true-clause-answer
returns-in-Ok-true-clause-answer g c =
    λ file told own keys.
    key_new_at c.args.seen.now file c.args.block.now c.args.raw.now c.args.s c.requires.slot keys own c.requires.seen
    c.hash_field.result c.hash_field.ensures (sym c.in-Ok-true.ensures.added ∙ c.in-Ok-true.field-0-test)
