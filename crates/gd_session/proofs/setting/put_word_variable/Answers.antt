use Rattle.std.proofs.Common.{[], ◌∷◌, ◌++◌}
use Rattle.gd_session.specs.Texts.{line}
use Rattle.gd_base.proofs.Waits.{pends-after, pends-front}
use Rattle.gd_session.proofs.setting.put_word_variable.Goals as goal

pub returns-in_err-put-clause-bytes : goal.returns-in_err-put-clause-bytes
returns-in_err-put-clause-bytes g c = pends-front _ c.from_residual.result _ _ _ _ (c.args.name.now) (line c.args.value.now) c.from_residual.ensures.1 c.in_err-put.ensures.bytes

pub returns-clause-bytes : goal.returns-clause-bytes
returns-clause-bytes g c = pends-after c.put_line.result _ _ _ _ _ _ (c.args.name.now) (line c.args.value.now) c.in_ok-put.ensures.bytes c.put_line.ensures.bytes
