use Rattle.std.proofs.Common.{sym, ◌∙◌}
use Rattle.gd_readable.proofs.Places.{has_key}
use Rattle.gd_readable.proofs.keys.has_right_record.Goals as goal

pub returns-clause-key : goal.returns-clause-key
returns-clause-key c =
    λ right.
    has_key c.args.file.now c.key_from.result.now c.args.raw.now c.args.bits c.args.top c.key_from.ensures (sym c.is_key_right.ensures ∙ right) (c.has_record_in.ensures.key c.if-not-has_record_in.false)
