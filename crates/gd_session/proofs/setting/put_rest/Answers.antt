use Rattle.std.proofs.Common.{[], ◌∷◌, ◌++◌}
use Rattle.std.specs.Prelude.{codes}
use Rattle.gd_types.specs.Printing.{printed}
use Rattle.gd_session.specs.Texts.{format_name, line, opening_name}
use Rattle.gd_base.proofs.Waits.{pends-after, pends-front}
use Rattle.gd_session.proofs.setting.put_rest.Goals as goal

pub returns-in_err-put_delim-clause-bytes : goal.returns-in_err-put_delim-clause-bytes
returns-in_err-put_delim-clause-bytes g c = pends-front _ c.from_residual.result _ _ _ _ (codes "delim1=" ++ line (printed c.args.settings.now.delim)) ((codes "format=" ++ line (format_name c.args.settings.now.format)) ++ (codes "open=" ++ line (opening_name c.args.settings.now.opening))) c.from_residual.ensures.1 (rw c.as_slice.ensures at c.in_err-put_delim.ensures.bytes)

pub returns-clause-bytes : goal.returns-clause-bytes
returns-clause-bytes g c = pends-after c.put_words.result _ _ _ _ _ _ (codes "delim1=" ++ line (printed c.args.settings.now.delim)) ((codes "format=" ++ line (format_name c.args.settings.now.format)) ++ (codes "open=" ++ line (opening_name c.args.settings.now.opening))) (rw c.as_slice.ensures at c.in_ok-put_delim.ensures.bytes) c.put_words.ensures.bytes
