use Rattle.std.proofs.Common.{◌≡◌, sym, ◌∙◌}
use Rattle.gd_session.proofs.Spaced.{pair_failed, pair_fits, pair_said}
use Rattle.gd_session.proofs.typed.say_pair.Goals as goal

pub write_pair_line-requires-clause-content_fits : goal.write_pair_line-requires-clause-content_fits
write_pair_line-requires-clause-content_fits g c =
    (pair_fits c.args.key_form.now c.args.content_form.now c.args.key.now c.args.content.now c.args.delim.now (sym c.misfit.ensures ∙ c.in_default.is)).1

pub returns-in-Ok-clause-shows : goal.returns-in-Ok-clause-shows
returns-in-Ok-clause-shows g c =
    pair_said c.args.key_form.now c.args.content_form.now c.args.key.now c.args.content.now c.args.delim.now _ _ _ _ (sym c.misfit.ensures ∙ c.in_default.is) c.in-Ok.ensures.bytes

pub returns-in-Err-clause-shows : goal.returns-in-Err-clause-shows
returns-in-Err-clause-shows g c =
    pair_failed c.args.key_form.now c.args.content_form.now c.args.key.now c.args.content.now c.args.delim.now _ _ _ _ (sym c.misfit.ensures ∙ c.in_default.is) c.in-Err.ensures.bytes c.in-Err.ensures.cause.failed
