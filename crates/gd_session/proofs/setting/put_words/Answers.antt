use Rattle.std.proofs.Common.{[], ◌∷◌, ◌++◌}
use Rattle.std.specs.Prelude.{codes}
use Rattle.gd_session.specs.Texts.{format_name, line, opening_name}
use Rattle.gd_base.proofs.Waits.{pends-after, pends-front}
use Rattle.gd_session.proofs.setting.put_words.Goals as goal

pub returns-in_err-put_word_variable-clause-bytes : goal.returns-in_err-put_word_variable-clause-bytes
returns-in_err-put_word_variable-clause-bytes g c = pends-front _ c.from_residual.result _ _ _ _ (codes "format=" ++ line (format_name c.args.settings.now.format)) (codes "open=" ++ line (opening_name c.args.settings.now.opening)) c.from_residual.ensures.1 (rw c.format_name.ensures at c.in_err-put_word_variable.ensures.bytes)

pub returns-clause-bytes : goal.returns-clause-bytes
returns-clause-bytes g c = pends-after c.put_word_variable-2.result _ _ _ _ _ _ (codes "format=" ++ line (format_name c.args.settings.now.format)) (codes "open=" ++ line (opening_name c.args.settings.now.opening)) (rw c.format_name.ensures at c.in_ok-put_word_variable.ensures.bytes) (rw c.opening_name.ensures at c.put_word_variable-2.ensures.bytes)
