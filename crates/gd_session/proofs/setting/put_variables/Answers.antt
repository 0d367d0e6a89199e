use Rattle.std.proofs.Common.{[], ◌∷◌, ◌++◌}
use Rattle.std.specs.Prelude.{codes}
use Rattle.std.specs.Fmt.{decimal}
use Rattle.gd_types.specs.Printing.{printed}
use Rattle.gd_session.specs.Texts.{format_name, line, opening_name, variables_text}
use Rattle.gd_base.proofs.Waits.{pends-after, pends-front}
use Rattle.gd_session.proofs.setting.put_variables.Goals as goal

pub returns-in_err-put_number_variable-clause-bytes : goal.returns-in_err-put_number_variable-clause-bytes
unfolding variables_text
returns-in_err-put_number_variable-clause-bytes g c = pends-front _ c.from_residual.result _ _ _ _ (codes "blocksize=" ++ line (decimal c.args.settings.now.block)) ((codes "cachesize=" ++ line (decimal c.args.settings.now.cache)) ++ ((codes "delim1=" ++ line (printed c.args.settings.now.delim)) ++ ((codes "format=" ++ line (format_name c.args.settings.now.format)) ++ (codes "open=" ++ line (opening_name c.args.settings.now.opening))))) c.from_residual.ensures.1 (rw c.from.ensures at c.in_err-put_number_variable.ensures.bytes)

pub returns-in_err-put_number_variable-2-clause-bytes : goal.returns-in_err-put_number_variable-2-clause-bytes
unfolding variables_text
returns-in_err-put_number_variable-2-clause-bytes g c =
    let r = c.from_residual-in_err-put_number_variable-2.result in
    pends-after r _ _ _ _ _ _ (codes "blocksize=" ++ line (decimal c.args.settings.now.block)) ((codes "cachesize=" ++ line (decimal c.args.settings.now.cache)) ++ ((codes "delim1=" ++ line (printed c.args.settings.now.delim)) ++ ((codes "format=" ++ line (format_name c.args.settings.now.format)) ++ (codes "open=" ++ line (opening_name c.args.settings.now.opening))))) (rw c.from.ensures at c.in_ok-put_number_variable.ensures.bytes)
    (pends-front _ r _ _ _ _ (codes "cachesize=" ++ line (decimal c.args.settings.now.cache)) ((codes "delim1=" ++ line (printed c.args.settings.now.delim)) ++ ((codes "format=" ++ line (format_name c.args.settings.now.format)) ++ (codes "open=" ++ line (opening_name c.args.settings.now.opening)))) c.from_residual-in_err-put_number_variable-2.ensures.1 (rw c.from-2.ensures at c.in_err-put_number_variable-2.ensures.bytes))

pub returns-clause-bytes : goal.returns-clause-bytes
unfolding variables_text
returns-clause-bytes g c =
    let r = c.put_rest.result in
    pends-after r _ _ _ _ _ _ (codes "blocksize=" ++ line (decimal c.args.settings.now.block)) ((codes "cachesize=" ++ line (decimal c.args.settings.now.cache)) ++ ((codes "delim1=" ++ line (printed c.args.settings.now.delim)) ++ ((codes "format=" ++ line (format_name c.args.settings.now.format)) ++ (codes "open=" ++ line (opening_name c.args.settings.now.opening))))) (rw c.from.ensures at c.in_ok-put_number_variable.ensures.bytes)
    (pends-after r _ _ _ _ _ _ (codes "cachesize=" ++ line (decimal c.args.settings.now.cache)) ((codes "delim1=" ++ line (printed c.args.settings.now.delim)) ++ ((codes "format=" ++ line (format_name c.args.settings.now.format)) ++ (codes "open=" ++ line (opening_name c.args.settings.now.opening)))) (rw c.from-2.ensures at c.in_ok-put_number_variable-2.ensures.bytes) c.put_rest.ensures.bytes)
